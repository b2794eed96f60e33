-- What the answer of a question says of passing it.
use Rattle.std.proofs.Common.{◌≡◌, ℕ, zero, suc, ◌+◌, ◌-◌, ◌<◌, List, ◌∷◌, Some, None, arith}
use Rattle.figures.specs.declared.ranges.Range.{Range}
use Rattle.figures.specs.declared.refusals.Refusal.{Refusal}
use Rattle.figures.specs.declared.refusals.Refusal.TheVariants.{OutOfRange, Started, Misfit, AboveLimit, LowBase, LawBroken}
use Rattle.figures.specs.Ranges.{Within, Good, AllIn, FirstOut}
use Rattle.figures.specs.Refusals.{Answered}

-- figures that are refused do not pass
pub never_both : (ranges : List Range) (figures : List ℕ) (Broken : ℕ → Type 0) (why : Refusal) → Answered ranges figures Broken (Some why) →
    Answered ranges figures Broken None → ⊥
never_both ranges figures Broken (OutOfRange place) out pass = out.outside (pass.0 (place - 1) (omega arith))
never_both ranges figures Broken Started out pass = out
never_both ranges figures Broken Misfit out pass = out
never_both ranges figures Broken AboveLimit out pass = out
never_both ranges figures Broken LowBase out pass = out
never_both ranges figures Broken (LawBroken place) out pass = pass.1 place out.1

-- a figure and its range before the others
pub all_in_more : (range : Range) (x : ℕ) (ranges : List Range) (xs : List ℕ) → Within range x → AllIn ranges xs → AllIn (range ∷ ranges) (x ∷ xs)
all_in_more range x ranges xs fits all zero h g = fits
all_in_more range x ranges xs fits all (suc i) h g = all i (omega arith) (omega arith)

pub first_out_more : (range : Range) (x : ℕ) (ranges : List Range) (xs : List ℕ) (p : ℕ) → Within range x → FirstOut ranges xs p →
    FirstOut (range ∷ ranges) (x ∷ xs) (p + 1)
first_out_more range x ranges xs p fits out =
    let n : (p + 1) - 1 ≡ suc (p - 1) = omega arith in
    record {
      from_one = omega arith;
      there = omega arith;
      outside = rw n (λ good. out.outside (λ h. good (omega arith)));
      first = before;
    }
  where
    before : (i : ℕ) → i + 1 < p + 1 → Good (range ∷ ranges) (x ∷ xs) i
    before zero h g = fits
    before (suc i) h g = out.first i (omega arith) (omega arith)
