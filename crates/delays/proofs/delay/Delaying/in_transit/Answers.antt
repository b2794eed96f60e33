use Rattle.std.proofs.Common.{◌≡◌, rules}
use Rattle.figures.specs.Days.{window}
use Rattle.supplier.specs.Books.{orders_of}
use Rattle.delays.proofs.Conserving.{delay_conserves}
use Rattle.delays.proofs.delay.Delaying.in_transit.Goals as goal

pub returns-clause-conserves : goal.returns-clause-conserves
returns-clause-conserves g c v =
    let s = c.args.self.now in
    let e : c.unwrap_or.result ≡ window s.own.delay (orders_of s.own.received) = search rules in
    delay_conserves (g.S.Supplier.meaning s.below) s.own c.unwrap_or.result e v
