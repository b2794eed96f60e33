-- What a delay has received since day 1 is what it has handed on and what is in transit.
-- It is said of all orders from day 1, the newest first, of which the book below has the last.
use Rattle.std.specs.Prelude.{◌≡◌, ℕ, ◌+◌, List}
use Rattle.figures.specs.Days.{horizon}
use Rattle.supplier.specs.Orders.{recent, delivered}
use Rattle.supplier.specs.Meaning.{Meaning}

-- a delay: what came from below is what was handed on and what is in transit
abbrev pub DelayConserves : Meaning → ℕ → ℕ → Type 0
DelayConserves below delay transit =
    (orders : List ℕ) → below.service.book ≡ recent horizon orders →
    delivered below.service.quote orders ≡ delivered (below.service.quote + delay) orders + transit
