use Rattle.std.proofs.Common.{◌≡◌, ◌+◌, ◌≤◌, get_or, None, sym, refl, ap, ◌∙◌, subst, arith, rules}
use Rattle.figures.specs.Days.{horizon}
use Rattle.figures.proofs.Totals.{zeros_get}
use Rattle.supplier.proofs.Naming.{named-kept}
use Rattle.delays.specs.DelayMaking.{DelayAsked, Fresh}
use Rattle.delays.proofs.Lateness.{new_book}
use Rattle.delays.proofs.delay.Delaying.over.Goals as goal

pub returns-clause-made : goal.returns-clause-made
returns-clause-made g c v =
    let m = (g.S.Supplier.meaning c.args.below).service in
    let e = c.fresh.ensures in
    let none : c.question.result ≡ None = search rules in
    let p = subst (DelayAsked (g.S.Supplier.meaning c.args.below) c.args.number c.args.delay) none (c.question.ensures.asked v) in
    let n = c.kept_number.ensures ∙ named-kept c.args.number (p.0 0 (omega arith) (omega arith)) in
    let empty = new_book m (g.met.S.Supplier.sound c.args.below v).service p.1 in (
      p,
      record {
        over = refl;
        fresh = subst (λ k. Fresh k c.args.delay c.fresh.result) n e;
        tied = (
          v,
          record {
            near = subst (λ d. m.quote + d ≤ horizon) (sym e.days) p.2;
            small = λ j. omega (arith, empty j);
            coming = λ j l. ap (λ xs. get_or xs j 0) e.received ∙ zeros_get horizon j ∙ sym (empty (m.quote + j));
            last = e.ordered ∙ sym (empty 0);
          },
        );
      },
    )
