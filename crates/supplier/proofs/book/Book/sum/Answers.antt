use Rattle.std.proofs.Common.{◌≡◌, ℕ, ◌<◌, ◌≤◌, ltb, get_or, Some, None, sym, ap, ◌∙◌, ⊎_elim, arith, rules, tests}
use Rattle.std.proofs.lemmas.Bool.{cases_lt, cond-true, cond-false, lt-ltb, le-ltb}
use Rattle.std.proofs.lemmas.Iterator.{YieldsList-from_range, YieldsList-from_map}
use Rattle.std.proofs.lemmas.Iterator.Adapters.{fits_from_length, at_most_from_yields_List}
use Rattle.std.proofs.lemmas.Iterator.Consumers.{sum_by_from_yields_List}
use Rattle.std.proofs.lemmas.List.FromFn.{length-range_with_len}
use Rattle.figures.specs.Days.{horizon, near, window}
use Rattle.std.specs.List.{range_with_len}
use Rattle.figures.proofs.Totals.{read_on}
use Rattle.supplier.specs.Books.{orders_of}
use Rattle.supplier.proofs.book.Book.sum.Goals as goal

-- what is told within the horizon
reached : (k x y : ℕ) → near k x ≡ Some y → (k ≤ horizon) × (y ≡ x)
reached k x y e =
    ⊎_elim (λ (h : horizon < k). absurd (let n : None ≡ Some y = sym (cond-true (ltb horizon k) None (Some x) (lt-ltb horizon k h)) ∙ e in cc))
    (λ (h : k ≤ horizon). let n : Some x ≡ Some y = sym (cond-false (ltb horizon k) None (Some x) (le-ltb horizon k h)) ∙ e in (h, cc))
    (cases_lt horizon k)

pub sum-requires-clause-fits : goal.sum-requires-clause-fits
sum-requires-clause-fits c =
    fits_from_length _ _ horizon _ (at_most_from_yields_List (YieldsList-from_range 0 c.in_ok-days.days c.in_ok-days.days c.map.ensures.source (omega arith)) (let n = reached c.args.k c.args.k c.in_ok-days.days (search rules) in let l = length-range_with_len 0 c.in_ok-days.days in omega arith)) c.map.ensures.closure (omega arith) (λ x r q k. search (rules, tests))

pub returns : goal.returns
returns c =
    let o = orders_of c.args.self.now in
    let f : ℕ → ℕ = λ j. get_or o j 0 in
    let days = YieldsList-from_range 0 c.in_ok-days.days c.in_ok-days.days c.map.ensures.source (omega arith) in
    let n = c.in_ok-days.days in
    let e = sum_by_from_yields_List f (range_with_len 0 n) c.map.result _ c.sum.ensures.ran (YieldsList-from_map _ f days c.map.ensures.closure (λ x r q k. search (rules, tests))) in
    let near_k = reached c.args.k c.args.k n (search rules) in
    let w : c.sum.result ≡ window c.args.k o = e ∙ read_on o 0 n ∙ ap (λ m. window m o) near_k.1 in
    sym (cond-false (ltb horizon c.args.k) None (Some (window c.args.k o)) (le-ltb horizon c.args.k near_k.0) ∙ ap Some (sym w))
