-- What was ordered is what was delivered and what is still to come.
use Rattle.std.specs.Prelude.{◌≡◌, ℕ, ◌+◌, ◌-◌, ◌*◌, ◌^◌, ◌≤◌, min, Ok, Err, Result}
use Rattle.figures.specs.Days.{most, window}
use Rattle.supplier.specs.declared.fault.Fault.{Fault}
use Rattle.supplier.specs.Meaning.{Service}

-- the totals of a supplier since it was new: still to come are the orders of the last `quote` days
pub record Balanced (s : Service) (ordered delivered : ℕ) : Type 0 where
  pub even : ordered ≡ delivered + window s.quote s.book
  pub small : ordered ≤ most * s.days

-- the most that a count can be
abbrev pub most_count : ℕ
most_count = 2 ^ 64 - 1

-- a day's order and delivery are counted, and a refused day is not
abbrev pub Counted : ℕ → ℕ → ℕ → Result ℕ Fault → ℕ → ℕ → Type 0
Counted ordered delivered q (Ok d) ordered' delivered' =
    (ordered' ≡ min (ordered + q) most_count) × (delivered' ≡ min (delivered + d) most_count)
Counted ordered delivered q (Err f) ordered' delivered' = (ordered' ≡ ordered) × (delivered' ≡ delivered)
