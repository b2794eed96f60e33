-- The question and the making of a stage.
use Rattle.std.specs.Prelude.{◌≡◌, ℕ, ◌+◌, ◌-◌, ◌≤◌, List, [], ◌∷◌, None, Option}
use Rattle.figures.specs.declared.ranges.Range.{Range}
use Rattle.figures.specs.declared.refusals.Refusal.{Refusal}
use Rattle.figures.specs.Days.{horizon, most, for_days}
use Rattle.supplier.specs.Numbers.{numbers}
use Rattle.supplier.specs.Orders.{no_orders}
use Rattle.supplier.specs.Books.{orders_of}
use Rattle.supplier.specs.Meaning.{Meaning}
use Rattle.layers.specs.Questions.{Asked}
use Rattle.stages.specs.declared.stock.Stock.{Stock}
use Rattle.stages.specs.declared.stage.Staging.{Staging}
use Rattle.stages.specs.Stages.{Tied, book_of}

-- a table tells a function up to the horizon
abbrev pub Copies : (ℕ → ℕ) → List ℕ → Type 0
Copies bound table = (k : ℕ) → k ≤ horizon → for_days table k ≡ bound k

-- no bound is above the limit below
abbrev pub Under : (ℕ → ℕ) → (ℕ → ℕ) → Type 0
Under bound limit = (k : ℕ) → 1 ≤ k → k ≤ horizon → bound k ≤ limit k

-- the range of a stage's times
abbrev pub times : Range
times = record { low = 0; high = horizon }

-- the ranges of the number, the process time, the quote and the base stock
abbrev pub stage_ranges : List Range
stage_ranges = numbers ∷ times ∷ times ∷ record { low = 0; high = most } ∷ []

-- what the question answers: the times fit, no bound is above the limit below, and the base stock covers the net time
abbrev pub StageAsked : Meaning → (ℕ → ℕ) → ℕ → ℕ → ℕ → ℕ → Option Refusal → Type 0
StageAsked below bound number process quote base =
    Asked stage_ranges (number ∷ process ∷ quote ∷ base ∷ [])
    (below.service.days ≡ 0)
    ((below.service.quote + process ≤ horizon) × (quote ≤ below.service.quote + process))
    (Under bound below.service.limit)
    (bound ((below.service.quote + process) - quote) ≤ base)

abbrev pub StagePasses : Meaning → (ℕ → ℕ) → ℕ → ℕ → ℕ → ℕ → Type 0
StagePasses below bound number process quote base = StageAsked below bound number process quote base None

-- a stage's figures before the first day
pub record Stocked (number : ℕ) (table : List ℕ) (process quote base : ℕ) (own : Stock) : Type 0 where
  pub numbered : own.ledger.number ≡ number
  pub bounds : own.ledger.limits.bounds ≡ table
  pub unused : own.ledger.days ≡ 0
  pub orders : book_of own ≡ no_orders
  pub time : own.process ≡ process
  pub quoted : own.quote ≡ quote
  pub stock : own.base ≡ base
  pub shelf : own.shelf ≡ base
  pub works : orders_of own.works ≡ no_orders
  pub delivered : own.delivered ≡ 0

-- a stage at work over this supplier, before the first day
pub record StageNew {S : Type 0} (valid : S → Type 0) (meaning : S → Meaning) (below : S) (bound : ℕ → ℕ) (number process quote base : ℕ) (w : Staging S) : Type 0 where
  pub over : w.below ≡ below
  pub bounds : Copies bound w.own.ledger.limits.bounds
  pub stocked : Stocked number w.own.ledger.limits.bounds process quote base w.own
  pub tied : valid w.below × Tied (meaning w.below) w.own
