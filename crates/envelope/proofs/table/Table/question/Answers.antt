-- The mean and the bounds together are the figures of a table.
use Rattle.std.proofs.Common.{rules, ◌≡◌, ℕ, ◌+◌, List, ◌∷◌, length, Some, None, Option, MatchOption, option_map, subst, refl, arith}
use Rattle.figures.specs.Days.{horizon}
use Rattle.figures.specs.Ranges.{AllIn}
use Rattle.figures.specs.Refusals.{Answered}
use Rattle.figures.specs.declared.refusals.Refusal.TheVariants.{LawBroken}
use Rattle.envelope.specs.Curves.{daily}
use Rattle.envelope.specs.Tables.{bound_ranges, table_ranges, BrokenAt, Unbroken, FirstBroken}
use Rattle.figures.proofs.Answered.{all_in_more, first_out_more}
use Rattle.envelope.specs.TablesLemmas.{bounded}
use Rattle.envelope.proofs.table.Table.question.Goals as goal

pub returns-in-Some : goal.returns-in-Some
returns-in-Some c =
    first_out_more daily c.args.mean bound_ranges c.args.bounds c.in-Some.place c.if-not-holds.ensures c.in-Some.ensures

pub invariant_of-rows : goal.invariant_of-rows
invariant_of-rows c =
    let wide : length c.args.bounds ≡ horizon = omega arith in
    record { daily = c.if-not-holds.ensures; bounded = bounded c.args.bounds wide c.in_default.ensures }

-- the first number of days that breaks a law is one place further among the figures
law_answered : (mean : ℕ) (bounds : List ℕ) (o : Option ℕ) → AllIn table_ranges (mean ∷ bounds) →
    MatchOption o (Unbroken mean bounds horizon) (λ k. FirstBroken mean bounds k) →
    Answered table_ranges (mean ∷ bounds) (BrokenAt mean bounds) (option_map (λ k. LawBroken (k + 1)) o)
law_answered mean bounds None within none = (within, λ p b. none b.0 b.2 b.3 b.4)
law_answered mean bounds (Some k) within f = (
  within,
  (k, refl, f.from_one, f.near, f.breaks),
  λ p h b. f.first b.0 b.2 (let e = b.1 in omega arith) b.4,
)

pub returns : goal.returns
returns c =
    let within = all_in_more daily c.args.mean bound_ranges c.args.bounds c.if-not-holds.ensures c.in_default.ensures in
    let e : option_map (λ k. LawBroken (k + 1)) c.first_broken.result ≡ c.map.result = search rules in
    subst (Answered table_ranges (c.args.mean ∷ c.args.bounds) (BrokenAt c.args.mean c.args.bounds)) e
    (law_answered c.args.mean c.args.bounds c.first_broken.result within c.first_broken.ensures)
