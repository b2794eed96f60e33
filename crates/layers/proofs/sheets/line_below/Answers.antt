use Rattle.std.proofs.Common.{rules}
use Rattle.layers.proofs.Topped.{told_below}
use Rattle.layers.proofs.sheets.line_below.Goals as goal

pub returns-clause-told : goal.returns-clause-told
returns-clause-told g c own some =
    let below = c.args.below.now in
    told_below (g.S.Supplier.valid below) _ (g.S.Supplier.meaning below).sheet c.args.i (search rules) (g.met.S.AlwaysValid.always below) some own
