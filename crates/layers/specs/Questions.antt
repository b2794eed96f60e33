-- What a question on a layer answers.
use Rattle.std.specs.Prelude.{ℕ, List, Some, None, Option}
use Rattle.figures.specs.declared.ranges.Range.{Range}
use Rattle.figures.specs.declared.refusals.Refusal.{Refusal}
use Rattle.figures.specs.declared.refusals.Refusal.TheVariants.{OutOfRange, Started, Misfit, AboveLimit, LowBase, LawBroken}
use Rattle.figures.specs.Ranges.{AllIn, FirstOut}

-- The ranges of the figures, then four conditions in turn: nothing below has taken a day, the times fit,
-- the bounds are within the limit below, and the base stock is high enough. The first that fails is told.
abbrev pub Asked : List Range → List ℕ → Type 0 → Type 0 → Type 0 → Type 0 → Option Refusal → Type 0
Asked ranges figures Unused Fitting Under Stocked None = AllIn ranges figures × Unused × Fitting × Under × Stocked
Asked ranges figures Unused Fitting Under Stocked (Some (OutOfRange place)) = FirstOut ranges figures place
Asked ranges figures Unused Fitting Under Stocked (Some Started) = AllIn ranges figures × (Unused → ⊥)
Asked ranges figures Unused Fitting Under Stocked (Some Misfit) = AllIn ranges figures × Unused × (Fitting → ⊥)
Asked ranges figures Unused Fitting Under Stocked (Some AboveLimit) = AllIn ranges figures × Unused × Fitting × (Under → ⊥)
Asked ranges figures Unused Fitting Under Stocked (Some LowBase) = AllIn ranges figures × Unused × Fitting × Under × (Stocked → ⊥)
Asked ranges figures Unused Fitting Under Stocked (Some (LawBroken place)) = ⊥

-- A refusal, whatever lies below: the first figure out of range, or one of the conditions where all are in range.
abbrev pub Barred : List Range → List ℕ → Refusal → Type 0
Barred ranges figures (OutOfRange place) = FirstOut ranges figures place
Barred ranges figures Started = AllIn ranges figures
Barred ranges figures Misfit = AllIn ranges figures
Barred ranges figures AboveLimit = AllIn ranges figures
Barred ranges figures LowBase = AllIn ranges figures
Barred ranges figures (LawBroken place) = ⊥
