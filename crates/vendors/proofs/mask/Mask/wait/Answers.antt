use Rattle.std.proofs.Common.{◌≡◌, ◌%◌, ap, ◌∙◌, mod-lt, arith}
use lib.Count.{count_trailing_zeros}
use Rattle.vendors.specs.Departures.{week, wait}
use Rattle.vendors.proofs.Weeks.{turned, waits}
use Rattle.vendors.proofs.mask.Mask.wait.Goals as goal

pub returns : goal.returns
returns c =
    let mask = c.args.self.now in
    let p = c.args.day % week in
    let w = waits mask.bits p mask.some mask.days (mod-lt c.args.day (omega arith)) in
    let e : count_trailing_zeros 32 (turned c.from-mask.result p) ≡ wait mask.bits p =
    ap (λ n. count_trailing_zeros 32 (turned n p)) c.from-mask.ensures ∙ w.zeros in
    let u = w.found.upto in
    record { wait = e; short = omega arith }
