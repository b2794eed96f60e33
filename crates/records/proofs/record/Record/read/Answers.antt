use Rattle.std.proofs.Common.{rules}
use Rattle.records.proofs.Returning.{read_back}
use Rattle.records.proofs.record.Record.read.Goals as goal

pub returns-clause-back : goal.returns-clause-back
returns-clause-back c = read_back c.args.due c.args.number c.args.line.now c.from_fields.result (search rules)
