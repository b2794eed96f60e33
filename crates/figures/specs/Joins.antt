-- What a bound of every stretch of days keeps where two stretches are joined.
use Rattle.std.specs.Prelude.{ℕ, ◌+◌, ◌≤◌}
use Rattle.figures.specs.Days.{horizon}

-- the bound of a stretch is at most those of its two parts together
abbrev pub Joins : (ℕ → ℕ) → Type 0
Joins bound = (i j : ℕ) → i + j ≤ horizon → bound (i + j) ≤ bound i + bound j
