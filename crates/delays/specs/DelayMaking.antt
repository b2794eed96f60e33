-- The question and the making of a delay.
use Rattle.std.specs.Prelude.{◌≡◌, ℕ, ◌+◌, ◌≤◌, List, [], ◌∷◌, None, Option}
use Rattle.figures.specs.declared.ranges.Range.{Range}
use Rattle.figures.specs.declared.refusals.Refusal.{Refusal}
use Rattle.figures.specs.Days.{horizon}
use Rattle.supplier.specs.Numbers.{numbers}
use Rattle.supplier.specs.Orders.{no_orders}
use Rattle.supplier.specs.Books.{orders_of}
use Rattle.supplier.specs.Meaning.{Meaning}
use Rattle.layers.specs.Questions.{Asked}
use Rattle.delays.specs.declared.transit.Transit.{Transit}
use Rattle.delays.specs.declared.delay.Delaying.{Delaying}
use Rattle.delays.specs.Delays.{Late}

-- the ranges of the number and the days
abbrev pub delay_ranges : List Range
delay_ranges = numbers ∷ record { low = 0; high = horizon } ∷ []

-- what the question answers
abbrev pub DelayAsked : Meaning → ℕ → ℕ → Option Refusal → Type 0
DelayAsked below number delay =
    Asked delay_ranges (number ∷ delay ∷ []) (below.service.days ≡ 0) (below.service.quote + delay ≤ horizon) (Unit {0}) (Unit {0})

abbrev pub DelayPasses : Meaning → ℕ → ℕ → Type 0
DelayPasses below number delay = DelayAsked below number delay None

-- a delay's figures before the first day
pub record Fresh (number delay : ℕ) (own : Transit) : Type 0 where
  pub numbered : own.number ≡ number
  pub days : own.delay ≡ delay
  pub received : orders_of own.received ≡ no_orders
  pub ordered : own.ordered ≡ 0
  pub delivered : own.delivered ≡ 0

-- a delay at work over this supplier, before the first day
pub record DelayNew {S : Type 0} (valid : S → Type 0) (meaning : S → Meaning) (below : S) (number delay : ℕ) (w : Delaying S) : Type 0 where
  pub over : w.below ≡ below
  pub fresh : Fresh number delay w.own
  pub tied : valid w.below × Late (meaning w.below) w.own
