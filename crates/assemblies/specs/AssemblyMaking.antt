-- The question and the making of an assembly.
use Rattle.std.specs.Prelude.{◌≡◌, ℕ, List, [], ◌∷◌, None, Option}
use Rattle.figures.specs.declared.ranges.Range.{Range}
use Rattle.figures.specs.declared.refusals.Refusal.{Refusal}
use Rattle.supplier.specs.Numbers.{numbers}
use Rattle.supplier.specs.Orders.{no_orders}
use Rattle.supplier.specs.Books.{orders_of}
use Rattle.supplier.specs.Meaning.{Meaning}
use Rattle.layers.specs.Questions.{Asked}
use Rattle.assemblies.specs.declared.kits.Kits.{Kits}
use Rattle.assemblies.specs.declared.assembly.Assembling.{Assembling}
use Rattle.assemblies.specs.Assemblies.{Joined}

-- the range of the parts of one side that a kit takes
abbrev pub parts : Range
parts = record { low = 1; high = 100 }

abbrev pub assembly_ranges : List Range
assembly_ranges = numbers ∷ parts ∷ parts ∷ []

-- what the question answers: neither side has taken a day
abbrev pub AssemblyAsked : Meaning → Meaning → ℕ → ℕ → ℕ → Option Refusal → Type 0
AssemblyAsked left right number a b =
    Asked assembly_ranges (number ∷ a ∷ b ∷ []) ((left.service.days ≡ 0) × (right.service.days ≡ 0)) (Unit {0}) (Unit {0}) (Unit {0})

abbrev pub AssemblyPasses : Meaning → Meaning → ℕ → ℕ → ℕ → Type 0
AssemblyPasses left right number a b = AssemblyAsked left right number a b None

-- an assembly's figures before the first day
pub record Unkitted (number a b : ℕ) (own : Kits) : Type 0 where
  pub numbered : own.number ≡ number
  pub lefts : own.left.per_kit ≡ a
  pub rights : own.right.per_kit ≡ b
  pub none : orders_of own.orders ≡ no_orders
  pub unused : own.days ≡ 0
  pub left_waits : own.left.waiting ≡ 0
  pub right_waits : own.right.waiting ≡ 0
  pub undelivered : own.delivered ≡ 0

-- an assembly at work over these suppliers, before the first day
pub record AssemblyNew {L R : Type 0} (okl : L → Type 0) (okr : R → Type 0) (ml : L → Meaning) (mr : R → Meaning) (left : L) (right : R) (number a b : ℕ)
    (w : Assembling L R) : Type 0 where
  pub over_left : w.left ≡ left
  pub over_right : w.right ≡ right
  pub unkitted : Unkitted number a b w.own
  pub tied : okl w.left × okr w.right × Joined (ml w.left) (mr w.right) w.own
