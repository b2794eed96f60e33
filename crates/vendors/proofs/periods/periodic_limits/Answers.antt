use Rattle.std.proofs.Common.{◌≡◌, ℕ, zero, suc, ◌+◌, ◌*◌, ◌/◌, ◌<◌, ◌≤◌, List, get_or, length, ap, ◌∙◌, arith, rules}
use Rattle.figures.specs.Days.{horizon}
use Rattle.figures.proofs.Arrays.{from_fn_at}
use Rattle.vendors.specs.Periods.{Rises}
use Rattle.vendors.proofs.Rising.{periods_next, rises_high, rises_grow}
use Rattle.vendors.proofs.periods.periodic_limits.Goals as goal

-- the table is filled
rises : (period amount : ℕ) (bounds : List ℕ) → 1 ≤ period → ((k : ℕ) → k < horizon → get_or bounds k 0 ≡ amount * ((k + period) / period)) → Rises period amount bounds
rises period amount bounds p h zero l m = absurd (omega arith)
rises period amount bounds p h (suc k) l m = h k (omega arith) ∙ ap (λ n. amount * n) (periods_next period k p)

pub invariant_of-result : goal.invariant_of-result
invariant_of-result c =
    let b = c.from_fn.result in
    let called = from_fn_at b (search rules) 0 horizon c.from_fn.ensures.items.each in
    let each : (k : ℕ) → k < horizon → get_or b k 0 ≡ c.args.amount * ((k + c.args.period) / c.args.period) =
    λ k h. search (rules, called k 0 (omega arith) (omega arith)) in
    let r = rises c.args.period c.args.amount b c.requires.some each in
    let wide : length b ≡ horizon = c.from_fn.ensures.items.long in
    record {
      wide = wide;
      high = rises_high c.args.period c.args.amount b r c.requires.some wide c.requires.few;
      grows = rises_grow c.args.period c.args.amount b r c.requires.some;
    }

pub returns : goal.returns
returns c =
    let b = c.from_fn.result in
    let called = from_fn_at b (search rules) 0 horizon c.from_fn.ensures.items.each in
    let each : (k : ℕ) → k < horizon → get_or b k 0 ≡ c.args.amount * ((k + c.args.period) / c.args.period) =
    λ k h. search (rules, called k 0 (omega arith) (omega arith)) in
    rises c.args.period c.args.amount b c.requires.some each
