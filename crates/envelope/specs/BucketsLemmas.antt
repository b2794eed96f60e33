-- The figures of a bucket that pass, and the laws of its curve.
use Rattle.std.specs.Prelude.{ℕ, ◌*◌, ◌≤◌, [], ◌∷◌, refl}
use Rattle.std.proofs.Common.{zero-mul, add-mul, mul-le-mul, mul-le-mul_left, arith, lit<}
use Rattle.figures.specs.Ranges.{AllIn}
use Rattle.figures.specs.Days.{horizon}
use Rattle.envelope.specs.Curves.{Lawful, daily}
use Rattle.envelope.specs.Buckets.{bursts, bucket_ranges, BelowMean, bucket_curve}
use Rattle.envelope.specs.CurvesLemmas.{not_below}

-- what passing says of the figures
pub record Fine (peak burst mean : ℕ) : Type 0 where
  pub small : peak ≤ daily.high
  pub short : burst ≤ bursts.high
  pub above : mean ≤ peak

pub fine : (peak burst mean : ℕ) → AllIn bucket_ranges (peak ∷ burst ∷ mean ∷ []) → ((p : ℕ) → BelowMean peak mean p → ⊥) → Fine peak burst mean
fine peak burst mean within unbroken = record {
  small = (within 0 (lit< tt) (lit< tt)).1;
  short = (within 1 (lit< tt) (lit< tt)).1;
  above = not_below peak mean (λ h. unbroken 1 (refl, h));
}

-- k days at the peak are few enough for a sum with any burst
pub peak_high : (peak k : ℕ) → peak ≤ daily.high → k ≤ horizon → k * peak ≤ horizon * daily.high
peak_high peak k p h = mul-le-mul h p

pub bucket_lawful : (peak burst mean : ℕ) → Fine peak burst mean → Lawful (bucket_curve peak burst mean)
bucket_lawful peak burst mean f = record {
  zero = let z = zero-mul peak in omega arith;
  grows = λ k h. let a = add-mul k 1 peak in let b = add-mul k 1 mean in omega arith;
  high = λ k h. let a = peak_high peak k f.small h in omega arith;
  carries = λ k h. let a : k * mean ≤ k * peak = mul-le-mul_left k f.above in omega arith;
  joins = λ i j h.
      let a = add-mul i j peak in
      let b = add-mul i j mean in
      let c : i * mean ≤ i * peak = mul-le-mul_left i f.above in
      let d : j * mean ≤ j * peak = mul-le-mul_left j f.above in
      omega arith;
}
