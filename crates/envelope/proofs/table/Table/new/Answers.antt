-- Figures that pass make a table, and figures that are refused leave a table of zeros.
use Rattle.std.proofs.Common.{rules, ◌≡◌, ℕ, true, false, List, ◌∷◌, Some, None, Option, refl, arith}
use Rattle.std.specs.Option.{is_some}
use Rattle.figures.specs.Days.{horizon}
use Rattle.figures.specs.declared.ranges.Range.{Range}
use Rattle.figures.specs.declared.refusals.Refusal.{Refusal}
use Rattle.figures.specs.Refusals.{Answered}
use Rattle.figures.proofs.Answered.{never_both}
use Rattle.envelope.specs.Tables.{table_ranges, BrokenAt}
use Rattle.envelope.specs.TablesLemmas.{zeros_in, zeros_unbroken}
use Rattle.envelope.proofs.table.Table.new.Goals as goal

pub invariant_of-result : goal.invariant_of-result
invariant_of-result c = record { wide = refl; within = zeros_in; unbroken = zeros_unbroken horizon }

-- a refusal is no pass, and no refusal is one
refused : (ranges : List Range) (figures : List ℕ) (Broken : ℕ → Type 0) (o : Option Refusal) → is_some o ≡ true →
    Answered ranges figures Broken o → Answered ranges figures Broken None → ⊥
refused ranges figures Broken None e told pass = absurd (cc)
refused ranges figures Broken (Some why) e told pass = never_both ranges figures Broken why told pass

passed : (ranges : List Range) (figures : List ℕ) (Broken : ℕ → Type 0) (o : Option Refusal) → is_some o ≡ false →
    Answered ranges figures Broken o → Answered ranges figures Broken None
passed ranges figures Broken None e told = told
passed ranges figures Broken (Some why) e told = absurd (cc)

pub returns-then-is_some-clause-kept : goal.returns-then-is_some-clause-kept
returns-then-is_some-clause-kept c pass =
    let a = c.args in
    absurd (refused table_ranges (a.mean ∷ a.bounds) (BrokenAt a.mean a.bounds) c.question.result (search rules) c.question.ensures pass)

pub invariant_of-result-2 : goal.invariant_of-result-2
invariant_of-result-2 c =
    let a = c.args in
    let p = passed table_ranges (a.mean ∷ a.bounds) (BrokenAt a.mean a.bounds) c.question.result (search rules) c.question.ensures in
    record { wide = omega arith; within = p.0; unbroken = p.1 }
