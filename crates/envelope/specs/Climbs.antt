-- The climbing list of a curve: orders that reach its bound every day.
use Rattle.std.specs.Prelude.{◌≡◌, ℕ, ◌+◌, ◌-◌, ◌<◌, ◌≤◌, List, length, take, drop, slice_index}
use Rattle.figures.specs.Days.{horizon, total, window}
use Rattle.envelope.specs.Curves.{Curve}

-- the orders climb the curve
pub record Climbs (c : Curve) (orders : List ℕ) : Type 0 where
  -- an order for each day of the horizon
  pub long : length orders ≡ horizon
  -- each order is what one more day adds to the bound
  pub steps : (k : ℕ) → k < horizon → slice_index orders k ≡ c.bound (k + 1) - c.bound k
  -- the first k orders reach the bound of k days
  pub sums : (k : ℕ) → k ≤ horizon → window k orders ≡ c.bound k
  -- no stretch of orders passes its bound
  pub windows : (i j : ℕ) → i + j ≤ horizon → total (take j (drop i orders)) ≤ c.bound j
