-- What a curve tells, and the order of two numbers from a law that is not broken.
use Rattle.std.specs.Prelude.{◌≡◌, ℕ, ◌<◌, ◌≤◌, Some}
use Rattle.std.proofs.Common.{arith}
use Rattle.figures.specs.Days.{horizon}
use Rattle.std.proofs.lemmas.Bool.{cond-false, le-ltb}
use Rattle.envelope.specs.Curves.{Curve, told}

-- up to the horizon it tells its bound
pub told-near : (c : Curve) (k : ℕ) → k ≤ horizon → told c k ≡ Some (c.bound k)
told-near c k h = cond-false _ _ _ (le-ltb horizon k h)

-- what is not below is above or equal
pub not_below : (a b : ℕ) → (a < b → ⊥) → b ≤ a
not_below a b never = omega (arith, never)
