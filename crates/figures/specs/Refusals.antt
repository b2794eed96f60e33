-- The numbers of refusals, and what a question answers.
use Rattle.std.specs.Prelude.{ℕ, ◌<◌, List, Some, None, Option}
use Rattle.figures.specs.declared.ranges.Range.{Range}
use Rattle.figures.specs.declared.refusals.Refusal.{Refusal}
use Rattle.figures.specs.declared.refusals.Refusal.TheVariants.{OutOfRange, Started, Misfit, AboveLimit, LowBase, LawBroken}
use Rattle.figures.specs.Ranges.{AllIn, FirstOut}

-- the number by which a refusal is printed
abbrev pub number : Refusal → ℕ
number (OutOfRange place) = 12
number Started = 13
number Misfit = 14
number AboveLimit = 15
number LowBase = 16
number (LawBroken place) = 21

-- What a question on figures answers, where `Broken p` says that the figure at place p breaks a law:
-- none, or the first figure out of range, or else the first that breaks a law.
abbrev pub Answered : List Range → List ℕ → (ℕ → Type 0) → Option Refusal → Type 0
Answered ranges figures Broken None = AllIn ranges figures × ((p : ℕ) → Broken p → ⊥)
Answered ranges figures Broken (Some (OutOfRange place)) = FirstOut ranges figures place
Answered ranges figures Broken (Some Started) = ⊥
Answered ranges figures Broken (Some Misfit) = ⊥
Answered ranges figures Broken (Some AboveLimit) = ⊥
Answered ranges figures Broken (Some LowBase) = ⊥
Answered ranges figures Broken (Some (LawBroken place)) =
    AllIn ranges figures × Broken place × ((p : ℕ) → p < place → Broken p → ⊥)

-- no law beyond the ranges
abbrev pub NoLaw : ℕ → Type 0
NoLaw p = ⊥
