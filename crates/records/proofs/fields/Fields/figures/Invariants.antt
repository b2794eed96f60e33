use Rattle.std.proofs.Common.{◌≡◌, length, take}
use Rattle.records.proofs.Progress.{Progress}
use Rattle.records.proofs.fields.Fields.figures.Given as goal

abbrev pub invariant-loop-i : goal.invariant-loop-i
invariant-loop-i g l = (length l.figures ≡ length l.ranges) × Progress l.ranges l.initial.self.text.now (take l.i l.figures) l.rest
