use Rattle.std.proofs.Common.{ℕ, ◌+◌, ◌≤◌, sym, refl, subst, arith}
use Rattle.figures.specs.Days.{for_days, most}
use Rattle.supplier.specs.declared.ledger.Ledger.{Ledger}
use Rattle.supplier.specs.Orders.{Before, Fits}
use Rattle.supplier.specs.Books.{orders_of}
use Rattle.supplier.proofs.Books.{taken-book, before-entered}
use Rattle.supplier.proofs.ledger.Ledger.take.Goals as goal

-- an order that breaks no window is at most the most pieces
few : (l : Ledger) (q : ℕ) → Fits (for_days l.limits.bounds) (orders_of l.book) q → q ≤ most
few l q fits =
    let f : q + 0 ≤ for_days l.limits.bounds 1 = fits 1 (omega arith) (omega arith) in
    let h = l.limits.high 0 in
    omega arith

pub invariant_of-self : goal.invariant_of-self
invariant_of-self c =
    let l = c.args.self.now in
    let p = c.in_default.ensures.plain in
    let e = taken-book c.args.q (orders_of l.book) (orders_of c.take.new.self) c.take.result c.take.ensures.answer c.take.ensures.after (few l c.args.q p.1) in
    record { until = omega (arith, p.0); before = subst (Before (l.days + 1)) (sym e) (before-entered l.days (orders_of l.book) c.args.q l.before) }

pub returns : goal.returns
returns c =
    let l = c.args.self.now in
    let p = c.in_default.ensures.plain in
    let e = taken-book c.args.q (orders_of l.book) (orders_of c.take.new.self) c.take.result c.take.ensures.answer c.take.ensures.after (few l c.args.q p.1) in
    (sym c.in_default.ensures.value, record { number = refl; bounds = refl; days = refl; book = e })
