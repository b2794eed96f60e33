-- Limits as a table and as a function of the number of days.
use Rattle.std.specs.Prelude.{ℕ, ◌+◌, ◌<◌, ◌≤◌, cond, List, None, Option, nat_lt, slice_index}
use Rattle.figures.specs.Days.{horizon, most, near}

abbrev pub High : List ℕ → Type 0
High bounds = (i : ℕ) → slice_index bounds i ≤ most

abbrev pub Grows : List ℕ → Type 0
Grows bounds = (i : ℕ) → i + 1 < horizon → slice_index bounds i ≤ slice_index bounds (i + 1)

-- L(k) as a reading tells it: absent for no days and beyond the horizon
abbrev pub told_limit : (ℕ → ℕ) → ℕ → Option ℕ
told_limit limit k = cond (nat_lt 0 k) (near k (limit k)) None
