use Rattle.std.proofs.Common.{◌∙◌, arith}
use Rattle.std.proofs.lemmas.List.{length-set}
use Rattle.std.proofs.lemmas.Result.{err_from_is_err_and}
use Rattle.records.proofs.Progress.{next_read, next_wrong}
use Rattle.records.proofs.fields.Fields.figures.Goals as goal

pub returns-in_err-figures : goal.returns-in_err-figures
returns-in_err-figures g c =
    let p = err_from_is_err_and c.from_residual-in_err-figures.result c.from_residual-in_err-figures.ensures.1 in
    rw (p.1, p.2)
    (next_wrong _ _ c.loop-i.figures c.loop-i.i c.loop-i.rest c.loop-i.invariant.0 c.loop-i.invariant.1 c.args.self.number c.in_ok-text.text c.in_ok-text.ensures.ok_part (omega arith) _ c.cut.result.1 c.cut.ensures.parts
    c.field.result c.field.ensures c.cut.ensures.lacks c.in_err-figures.field-0.0 c.in_err-figures.ensures)

pub loop-i-preserved : goal.loop-i-preserved
loop-i-preserved g c = (
  length-set c.loop-i.figures c.loop-i.i c.in_ok-figures.field-0 ∙ c.loop-i.invariant.0,
  next_read _ _ c.loop-i.figures c.loop-i.i c.loop-i.rest c.loop-i.invariant.0 c.loop-i.invariant.1 c.args.self.number c.in_ok-text.text c.in_ok-text.ensures.ok_part (omega arith) _ c.cut.result.1 c.cut.ensures.parts
      c.field.result c.field.ensures c.in_ok-figures.field-0 c.in_ok-figures.ensures,
)
