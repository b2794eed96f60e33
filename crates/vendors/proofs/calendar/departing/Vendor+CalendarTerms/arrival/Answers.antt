use Rattle.std.proofs.Common.{◌+◌, ◌≤◌, sym, ap, subst}
use Rattle.vendors.proofs.Weeks.{leaves-timely}
use Rattle.vendors.proofs.calendar.departing.Vendor+CalendarTerms.arrival.Goals as goal

pub returns : goal.returns
returns c =
    let s = c.args.self.now in
    let t = s.terms in
    let d = c.args.day in
    let u = c.in_ok-leaves.leaves in
    let l = c.in_ok-leaves.ensures in
    let e = ap (λ n. u + n) c.from.ensures in (
      l.0,
      record {
        day = u;
        leaves = l.1;
        travels = e;
        timely = subst (λ n. n ≤ d + s.source.quote) (sym e) (subst (λ n. u + t.travel ≤ d + n) (sym s.quoted) (leaves-timely t.mask.bits t.travel d u t.mask.some t.mask.days l.0 l.1));
      },
    )
