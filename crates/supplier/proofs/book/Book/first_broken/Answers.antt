use Rattle.std.proofs.Common.{◌≡◌, ◌+◌, ◌<◌, ◌≤◌, ◌∷◌, get_or, Some, sym, ap, ◌∙◌, subst, ⊎_elim, add-one, arith}
use Rattle.std.specs.Option.{option_map}
use Rattle.std.proofs.lemmas.Bool.{cases_lt}
use Rattle.figures.specs.Days.{for_days, horizon, window}
use Rattle.figures.proofs.Totals.{window_more}
use Rattle.supplier.specs.Books.{orders_of}
use Rattle.supplier.specs.Windows.{broken_at}
use Rattle.supplier.proofs.Windows.{broken_found, broken_absent, limit_at}
use Rattle.supplier.proofs.book.Book.first_broken.Goals as goal

pub returns-then-sum-bound : goal.returns-then-sum-bound
returns-then-sum-bound c =
    let b = c.args.limits.now.bounds in
    let o = orders_of c.args.self.now in
    let q = c.args.q in
    let i = c.loop-i.i in
    let l = limit_at b i in
    let s = c.loop-i.invariant.0 in
    let e = broken_found horizon (for_days b) o q (i + 1) (omega arith) (omega arith) (omega arith) c.loop-i.invariant.1 in
    (λ j. Some (record { window = i + 1; bound = sym l j; sum = s j })) ∙ sym (ap (option_map (broken_at (for_days b) o q)) e)

pub loop-i-preserved : goal.loop-i-preserved
loop-i-preserved c =
    let b = c.args.limits.now.bounds in
    let o = orders_of c.args.self.now in
    let q = c.args.q in
    let i = c.loop-i.i in
    let w = window_more (i + 1) (q ∷ o) in
    let l = limit_at b i in (
      omega (arith, ap (λ n. get_or (q ∷ o) n 0) (add-one i)),
      λ k a d. ⊎_elim (λ (m : k < i + 1). c.loop-i.invariant.1 k a m) (λ (m : i + 1 ≤ k). let e : i + 1 ≡ k = omega arith in subst (λ n. window n (q ∷ o) ≤ for_days b n) e (omega arith)) (cases_lt k (i + 1)),
    )

pub returns : goal.returns
returns c =
    let b = c.args.limits.now.bounds in
    let o = orders_of c.args.self.now in
    sym (ap (option_map (broken_at (for_days b) o c.args.q)) (broken_absent horizon (for_days b) o c.args.q (λ k a d. c.loop-i.invariant.1 k a (omega arith))))
