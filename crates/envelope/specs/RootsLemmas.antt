-- The figures of a root envelope that pass, and the laws of its curve.
use Rattle.std.specs.Prelude.{◌≡◌, ℕ, ◌+◌, ◌*◌, ◌≤◌, [], ◌∷◌}
use Rattle.std.proofs.Common.{ap, zero-mul, add-mul, mul-le-mul, arith, lit<}
use Rattle.figures.specs.Ranges.{AllIn}
use Rattle.figures.specs.Days.{horizon}
use Rattle.envelope.specs.Curves.{Lawful, daily}
use Rattle.envelope.specs.Roots.{spread, root_ranges, root_up, root_curve}
use Rattle.envelope.specs.LeastRoots.{root_grows, root_under, root_joins}

-- both parts of a bound are small
pub small-parts : (mean w k : ℕ) → AllIn root_ranges (mean ∷ w ∷ []) → k ≤ horizon →
    (k * mean ≤ horizon * daily.high) × (k * w ≤ horizon * spread.high)
small-parts mean w k within h = (mul-le-mul h (within 0 (lit< tt) (lit< tt)).1, mul-le-mul h (within 1 (lit< tt) (lit< tt)).1)

-- and so is the root
pub small_root : (n : ℕ) → n ≤ horizon * spread.high → root_up n ≤ 10000000
small_root n h = root_under n 10000000 (omega arith)

pub root_lawful : (mean w : ℕ) → AllIn root_ranges (mean ∷ w ∷ []) → Lawful (root_curve mean w)
root_lawful mean w within = record {
  zero =
      let m = zero-mul mean in
      let n = zero-mul w in
      let r = root_under (0 * w) 0 (omega arith) in
      omega arith;
  grows = λ k h.
      let m = add-mul k 1 mean in
      let n = add-mul k 1 w in
      let r = root_grows (k * w) ((k + 1) * w) (omega arith) in
      omega arith;
  high = λ k h.
      let s = small-parts mean w k within h in
      let r = small_root (k * w) s.1 in
      omega arith;
  carries = λ k h. omega arith;
  joins = λ i j h.
      let m = add-mul i j mean in
      let n : root_up ((i + j) * w) ≡ root_up (i * w + j * w) = ap root_up (add-mul i j w) in
      let r = root_joins (i * w) (j * w) in
      omega arith;
}
