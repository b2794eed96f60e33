use Rattle.std.proofs.Common.{◌≡◌, ◌+◌, ◌-◌, ◌%◌, subst, ap, ◌∙◌, arith}
use Rattle.vendors.specs.Departures.{Leaves, wait, week}
use Rattle.vendors.proofs.Weeks.{leaves_after}
use Rattle.vendors.proofs.calendar.departing.Vendor+CalendarTerms.departure.Goals as goal

pub returns : goal.returns
returns c =
    let mask = c.args.self.now.terms.mask in
    let d = c.args.day in
    let b = c.in_ok-before.ensures in
    let w : c.wait-wait.result ≡ wait mask.bits ((d - 1) % week) = c.wait-wait.ensures.wait ∙ ap (λ n. wait mask.bits (n % week)) b.1 in
    let e : d + wait mask.bits ((d - 1) % week) ≡ c.from.result + c.from-2.result = omega arith in
    (b.0, subst (Leaves mask.bits d) e (leaves_after mask.bits d mask.some mask.days b.0), omega (arith, c.wait-wait.ensures.short))
