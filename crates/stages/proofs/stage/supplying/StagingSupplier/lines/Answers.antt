use Rattle.std.proofs.Common.{◌+◌, arith}
use Rattle.layers.proofs.Topped.{topped-length}
use Rattle.stages.specs.Stages.{stage_line, book_of}
use Rattle.stages.proofs.stage.supplying.StagingSupplier.lines.Goals as goal

pub returns : goal.returns
returns g c v =
    let s = c.args.self.now in
    let m = g.S.Supplier.meaning s.below in
    let l = topped-length (stage_line s.own.ledger.number s.own.base s.own.quote (m.service.quote + s.own.process) (book_of s.own) s.own.delivered) m.sheet in
    omega arith
