use Rattle.std.proofs.Common.{arith, rules}
use Rattle.layers.proofs.Topped.{told_below}
use Rattle.stages.proofs.stage.supplying.StagingSupplier.line.Goals as goal

pub returns-then-i-gt0 : goal.returns-then-i-gt0
returns-then-i-gt0 g c v =
    let s = c.args.self.now in
    told_below (g.S.Supplier.valid s.below) _ (g.S.Supplier.meaning s.below).sheet c.args.i (search rules) v.0 (omega arith) _
