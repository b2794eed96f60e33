use Rattle.std.proofs.Common.{◌≡◌, ◌+◌, ◌-◌, ◌≤◌, [], ◌∷◌, None, sym, refl, ◌∙◌, subst, arith, rules}
use Rattle.figures.specs.Days.{horizon}
use Rattle.supplier.proofs.Naming.{named-kept}
use Rattle.figures.specs.Ranges.{AllIn}
use Rattle.supplier.specs.declared.line.Kind.TheVariants as kind
use Rattle.supplier.specs.Numbers.{named}
use Rattle.layers.proofs.Asking.{never_asked, given_resting}
use Rattle.stages.specs.StageMaking.{stage_ranges, StageAsked, Under, Copies, Stocked}
use Rattle.stages.proofs.Opening.{tied_new}
use Rattle.stages.proofs.stage.Staging.over.Goals as goal

pub returns-then-is_some-clause-made : goal.returns-then-is_some-clause-made
returns-then-is_some-clause-made g c v =
    let m = g.S.Supplier.meaning c.args.below in
    let V = (g.E.Envelope.meaning c.args.envelope.now).bound in
    let a = c.args in
    let never = never_asked stage_ranges (a.number ∷ a.process ∷ a.quote ∷ a.base ∷ []) (m.service.days ≡ 0)
    ((m.service.quote + a.process ≤ horizon) × (a.quote ≤ m.service.quote + a.process)) (Under V m.service.limit)
    (V ((m.service.quote + a.process) - a.quote) ≤ a.base) c.question.result (search rules) (c.question.ensures.asked v) in
    given_resting _ _ kind.Stage (named a.number) a.below c.resting.result never c.resting.ensures

pub stocked-own-requires-clause-small : goal.stocked-own-requires-clause-small
stocked-own-requires-clause-small g c =
    let none : c.question.result ≡ None = search rules in
    let p : AllIn stage_ranges (c.args.number ∷ c.args.process ∷ c.args.quote ∷ c.args.base ∷ []) = search rules in
    (p 3 (omega arith) (omega arith)).1

pub returns-clause-made : goal.returns-clause-made
returns-clause-made g c v =
    let m = g.S.Supplier.meaning c.args.below in
    let V = (g.E.Envelope.meaning c.args.envelope.now).bound in
    let a = c.args in
    let none : c.question.result ≡ None = search rules in
    let p = subst (StageAsked m V a.number a.process a.quote a.base) none (c.question.ensures.asked v) in
    let n = c.kept_number.ensures ∙ named-kept a.number (p.0 0 (omega arith) (omega arith)) in
    let own = c.stocked-own.result in
    let e = c.stocked-own.ensures in
    let fresh = subst (λ k. Stocked k c.copied.result.bounds a.process a.quote a.base own) n e in (
      p,
      record {
        over = refl;
        bounds = subst (Copies V) (sym e.bounds) c.copied.ensures;
        stocked = subst (λ t. Stocked a.number t a.process a.quote a.base own) (sym e.bounds) fresh;
        tied = (v, tied_new m V a.number a.process a.quote a.base c.copied.result.bounds own (g.met.S.Supplier.sound a.below v) p c.copied.ensures fresh);
      },
    )
