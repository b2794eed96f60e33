-- The curve of an envelope, the range of its days, the laws that it keeps, and what it tells.
use Rattle.std.specs.Prelude.{◌≡◌, ℕ, ◌+◌, ◌*◌, ◌<◌, ◌≤◌, Option}
use Rattle.figures.specs.declared.ranges.Range.{Range}
use Rattle.figures.specs.Days.{horizon, most, near}
use Rattle.figures.specs.Joins.{Joins}

-- the most that any k days in a row ask for, and the mean of a day
pub record Curve : Type 0 where
  pub bound : ℕ → ℕ
  pub mean : ℕ

-- the range of what a day asks for, in the mean or at its peak
abbrev pub daily : Range
daily = record { low = 0; high = 10000000 }

-- the laws of a curve, up to the horizon
pub record Lawful (c : Curve) : Type 0 where
  -- the bound of 0 days is 0
  pub zero : c.bound 0 ≡ 0
  -- the bound never falls
  pub grows : (k : ℕ) → k < horizon → c.bound k ≤ c.bound (k + 1)
  -- the bound is at most the most pieces
  pub high : (k : ℕ) → k ≤ horizon → c.bound k ≤ most
  -- the bound covers k days at the mean
  pub carries : (k : ℕ) → k ≤ horizon → k * c.mean ≤ c.bound k
  -- the bound of a stretch is at most those of its two parts together
  pub joins : Joins c.bound

-- the bound as a reading tells it: none past the horizon
abbrev pub told : Curve → ℕ → Option ℕ
told c k = near k (c.bound k)
