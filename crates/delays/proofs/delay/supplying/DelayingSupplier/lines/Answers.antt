use Rattle.std.proofs.Common.{arith}
use Rattle.layers.proofs.Topped.{topped-length}
use Rattle.delays.specs.Delays.{delay_line}
use Rattle.delays.proofs.delay.supplying.DelayingSupplier.lines.Goals as goal

pub returns : goal.returns
returns g c =
    let s = c.args.self.now in
    let m = g.S.Supplier.meaning s.below in
    let l = topped-length (delay_line s.own.number s.own.delay m.service.quote m.service.book s.own.delivered) m.sheet in
    omega arith
