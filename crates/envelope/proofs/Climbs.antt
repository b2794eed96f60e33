-- The orders that take the steps of a lawful curve climb it.
use Rattle.std.proofs.Common.{◌≡◌, ℕ, ◌+◌, ◌-◌, ◌<◌, ◌≤◌, List, length, get_or, arith}
use Rattle.figures.specs.Days.{horizon, window}
use Rattle.figures.proofs.Totals.{window_then}
use Rattle.envelope.specs.Climbs.{Climbs}
use Rattle.envelope.specs.Curves.{Curve, Lawful}
use Rattle.envelope.proofs.Sums.{steps_sum}

pub climbs : (c : Curve) (orders : List ℕ) → Lawful c → length orders ≡ horizon →
    ((k : ℕ) → k < horizon → get_or orders k 0 ≡ c.bound (k + 1) - c.bound k) → Climbs c orders
climbs c orders lawful long steps = record {
  long = long;
  steps = steps;
  sums = sums;
  windows = λ i j h.
      let a = window_then i j orders in
      let b = sums i (omega arith) in
      let d = sums (i + j) h in
      let e = lawful.joins i j h in
      omega arith;
}
  where
    sums : (k : ℕ) → k ≤ horizon → window k orders ≡ c.bound k
    sums = steps_sum c.bound horizon orders lawful.zero lawful.grows steps
