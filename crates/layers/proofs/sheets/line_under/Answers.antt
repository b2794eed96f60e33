use Rattle.std.proofs.Common.{ap, sym, ◌∙◌, arith}
use Rattle.std.specs.List.{slice_get}
use Rattle.layers.proofs.Topped.{topped-cut, topped_below}
use Rattle.layers.proofs.sheets.line_under.Goals as goal

pub returns-then-i-lt-MOST_LINES-clause-told : goal.returns-then-i-lt-MOST_LINES-clause-told
returns-then-i-lt-MOST_LINES-clause-told g c v own some =
    c.line.ensures v ∙ ap (slice_get (g.S.Supplier.meaning c.args.below.now).sheet) c.in_ok-place.ensures.1
    ∙ sym (topped_below own _ c.args.i (omega arith) (omega arith))

pub returns-else-i-lt-MOST_LINES-clause-told : goal.returns-else-i-lt-MOST_LINES-clause-told
returns-else-i-lt-MOST_LINES-clause-told g c v own some = sym (topped-cut own _ c.args.i (omega arith))
