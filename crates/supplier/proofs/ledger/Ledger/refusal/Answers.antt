use Rattle.std.proofs.Common.{◌≡◌, ℕ, Option, sym, subst, rules}
use Rattle.figures.specs.Days.{for_days}
use Rattle.supplier.specs.declared.fault.Fault.{Fault}
use Rattle.supplier.specs.declared.ledger.Ledger.{Ledger}
use Rattle.supplier.specs.Books.{orders_of}
use Rattle.supplier.specs.Ledgers.{refusal_of, RefusedPlainly}
use Rattle.supplier.proofs.Finders.{finds_plain}
use Rattle.supplier.proofs.ledger.Ledger.refusal.Goals as goal

plainly : (l : Ledger) (q : ℕ) (r : Option Fault) → r ≡ refusal_of l q → RefusedPlainly l q r
plainly l q r e =
    subst (RefusedPlainly l q) (sym e) (finds_plain l.number (for_days l.limits.bounds) l.days (orders_of l.book) q l.until)

pub returns-clause-plain : goal.returns-clause-plain
returns-clause-plain c =
    let e : c.map.result ≡ refusal_of c.args.self.now c.args.q = search rules in
    plainly c.args.self.now c.args.q c.map.result e
