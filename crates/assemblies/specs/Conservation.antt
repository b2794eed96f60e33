-- What an assembly has received since day 1 is what is in the kits that it has handed on and what waits.
-- It is said of all orders from day 1, the newest first, of which the assembly's book has the last.
use Rattle.std.specs.Prelude.{◌≡◌, ℕ, ◌+◌, ◌*◌, max, List}
use Rattle.figures.specs.Days.{horizon}
use Rattle.supplier.specs.Orders.{recent, delivered}
use Rattle.supplier.specs.Books.{orders_of}
use Rattle.supplier.specs.Meaning.{Meaning}
use Rattle.assemblies.specs.declared.kits.Kits.{Kits}
use Rattle.assemblies.specs.declared.parts.Parts.{Parts}
use Rattle.assemblies.specs.Assemblies.{times}

-- one side of an assembly: the parts that came are those of the kits that were handed on and those that wait
abbrev pub SideConserves : ℕ → ℕ → ℕ → List ℕ → ℕ → Type 0
SideConserves c early quote orders wait = delivered early (times c orders) ≡ c * delivered quote orders + wait

abbrev pub AssemblyConserves : Meaning → Meaning → Kits → Parts → Type 0
AssemblyConserves left right own parts =
    (orders : List ℕ) → orders_of own.orders ≡ recent horizon orders →
    SideConserves own.left.per_kit left.service.quote (max left.service.quote right.service.quote) orders parts.left
    × SideConserves own.right.per_kit right.service.quote (max left.service.quote right.service.quote) orders parts.right
