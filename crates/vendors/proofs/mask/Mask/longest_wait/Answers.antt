use Rattle.std.proofs.Common.{◌≡◌, ℕ, ◌%◌, max, map, refl, sym, ap, ◌∙◌, arith, rules, tests, unwrap_or}
use Rattle.std.specs.List.{reduce, range_with_len}
use Rattle.std.proofs.lemmas.Iterator.{YieldsList-from_range, YieldsList-from_map}
use Rattle.std.proofs.lemmas.Iterator.Adapters.{option_map_id}
use Rattle.std.proofs.lemmas.Iterator.Consumers.{max_from_yields_List}
use Rattle.vendors.specs.Departures.{week, wait, longest}
use Rattle.vendors.proofs.mask.Mask.longest_wait.Goals as goal

pub returns-clause-wait : goal.returns-clause-wait
unfolding longest
returns-clause-wait c =
    let f : ℕ → ℕ = λ d. wait c.args.self.now.bits (d % week) in
    let days = YieldsList-from_range 0 week week c.map.ensures.source refl in
    let e : c.max.result ≡ reduce max (map f (range_with_len 0 week)) =
    sym (option_map_id c.max.result)
    ∙ max_from_yields_List c.map.result c.max.result c.max.ensures.ran (YieldsList-from_map _ f days c.map.ensures.closure (λ x r q k. search (rules, tests))) in
    let first : max 0 (f 0) ≡ f 0 = omega arith in
    c.unwrap_or.ensures ∙ ap (λ o. unwrap_or o 0) e ∙ sym (ap (λ m. max (max (max (max (max (max m (f 1)) (f 2)) (f 3)) (f 4)) (f 5)) (f 6)) first)
