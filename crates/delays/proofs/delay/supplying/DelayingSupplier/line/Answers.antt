use Rattle.std.proofs.Common.{◌≡◌, ◌+◌, Some, ◌∙◌, arith, rules}
use Rattle.figures.specs.Days.{span}
use Rattle.supplier.specs.declared.line.Kind.TheVariants as kind
use Rattle.supplier.specs.Books.{orders_of}
use Rattle.layers.proofs.Topped.{topped-first, told_below}
use Rattle.layers.proofs.Rows.{in_row}
use Rattle.delays.specs.Delays.{delay_line}
use Rattle.delays.proofs.delay.supplying.DelayingSupplier.line.Goals as goal

pub returns-then-i-gt0 : goal.returns-then-i-gt0
returns-then-i-gt0 g c v =
    let s = c.args.self.now in
    told_below (g.S.Supplier.valid s.below) _ (g.S.Supplier.meaning s.below).sheet c.args.i (search rules) v.0 (omega arith) _

pub returns : goal.returns
returns g c v =
    let s = c.args.self.now in
    let own = s.own in
    let m = g.S.Supplier.meaning s.below in
    let early = m.service.quote in
    let h : c.in_transit.result ≡ span early (early + own.delay) m.service.book =
    c.in_transit.ensures.told ∙ in_row early own.delay (orders_of own.received) m.service.book v.1.coming in
    (λ i. Some (record { number = own.number; kind = kind.Delay; order = v.1.last i; delivery = own.delivered; held = h i }))
    ∙ topped-first (delay_line own.number own.delay early m.service.book own.delivered) m.sheet c.args.i (omega arith)
