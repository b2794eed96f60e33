-- A layer that its question refuses does not pass it, and is given resting.
use Rattle.std.proofs.Common.{◌≡◌, ℕ, ◌-◌, true, false, sym, List, Some, None, Option, arith}
use Rattle.std.specs.Option.{is_some}
use Rattle.std.proofs.lemmas.Bool.{false≢true}
use Rattle.figures.specs.declared.ranges.Range.{Range}
use Rattle.figures.specs.declared.refusals.Refusal.{Refusal}
use Rattle.figures.specs.declared.refusals.Refusal.TheVariants.{OutOfRange, Started, Misfit, AboveLimit, LowBase, LawBroken}
use Rattle.supplier.specs.declared.line.Kind.{Kind}
use Rattle.layers.specs.declared.layer.Layer.{Layer}
use Rattle.layers.specs.declared.layer.Layer.TheVariants.{Working, Idle}
use Rattle.layers.specs.Makings.{Given, Rests}
use Rattle.layers.specs.Questions.{Asked}

module _ (ranges : List Range) (figures : List ℕ) (Unused Fitting Under Stocked : Type 0) where
  pub never_passes : (why : Refusal) → Asked ranges figures Unused Fitting Under Stocked (Some why) → Asked ranges figures Unused Fitting Under Stocked None → ⊥
  never_passes (OutOfRange place) out pass = out.outside (pass.0 (place - 1) (let a = out.from_one in let b = out.there in omega arith))
  never_passes Started (all, never) pass = never pass.1
  never_passes Misfit (all, unused, never) pass = never pass.2
  never_passes AboveLimit (all, unused, fits, never) pass = never pass.3
  never_passes LowBase (all, unused, fits, under, never) pass = never pass.4
  never_passes (LawBroken place) out pass = out

  pub never_asked : (r : Option Refusal) → is_some r ≡ true → Asked ranges figures Unused Fitting Under Stocked r → Asked ranges figures Unused Fitting Under Stocked None → ⊥
  never_asked None e asked pass = absurd (false≢true e)
  never_asked (Some why) e asked pass = never_passes why asked pass

  pub asked_none : (r : Option Refusal) → is_some r ≡ false → Asked ranges figures Unused Fitting Under Stocked r → Asked ranges figures Unused Fitting Under Stocked None
  asked_none None e asked = asked
  asked_none (Some why) e asked = absurd (false≢true (sym e))

-- a layer whose question is refused is given resting
pub given_resting : {W B : Type 0} (Passes : Type 0) (Works : W → Type 0) (kind : Kind) (number : ℕ) (below : B) (l : Layer W B) →
    (Passes → ⊥) → Rests kind number below l → Given Passes Works kind number below l
given_resting Passes Works kind number below (Working w) never rests = absurd rests
given_resting Passes Works kind number below (Idle i b) never rests = (never, rests.0, rests.1)
