use Rattle.std.proofs.Common.{◌≡◌, ℕ, ◌+◌, ◌<◌, get_or, arith, rules}
use Rattle.figures.specs.Days.{horizon}
use Rattle.figures.proofs.Arrays.{from_fn_at}
use Rattle.figures.proofs.Totals.{near_value}
use Rattle.stages.proofs.Copying.{copies, copies_high, copies_grow}
use Rattle.stages.proofs.stage.bounds.copied.Goals as goal

pub invariant_of-result : goal.invariant_of-result
invariant_of-result g c =
    let m = g.E.Envelope.meaning c.args.envelope.now in
    let b = c.from_fn.result in
    let called = from_fn_at b (search rules) 0 horizon c.from_fn.ensures.items.each in
    let steps : (i : ℕ) → i < horizon → get_or b i 0 ≡ m.bound (i + 1) =
    λ i h. let e = near_value (i + 1) (m.bound (i + 1)) (omega arith) in search (rules, e, called i 0 (omega arith) (omega arith)) in
    let lawful = g.met.E.Envelope.lawful c.args.envelope.now in
    let wide = c.from_fn.ensures.items.long in
    record { wide = wide; high = copies_high m lawful b wide steps; grows = copies_grow m lawful b wide steps }

pub returns : goal.returns
returns g c =
    let m = g.E.Envelope.meaning c.args.envelope.now in
    let b = c.from_fn.result in
    let called = from_fn_at b (search rules) 0 horizon c.from_fn.ensures.items.each in
    let steps : (i : ℕ) → i < horizon → get_or b i 0 ≡ m.bound (i + 1) =
    λ i h. let e = near_value (i + 1) (m.bound (i + 1)) (omega arith) in search (rules, e, called i 0 (omega arith) (omega arith)) in
    copies m (g.met.E.Envelope.lawful c.args.envelope.now) b c.from_fn.ensures.items.long steps
