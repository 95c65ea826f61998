use Rattle.std.proofs.Common.{rules}
use Rattle.report.proofs.parse.fields.next_name.Goals as goal

pub returns-clause-said : goal.returns-clause-said
returns-clause-said c = search rules
