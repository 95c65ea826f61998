use Rattle.std.proofs.Common.{rules}
use Rattle.report.proofs.parse.fields.Fields.of.Goals as goal

pub returns : goal.returns
returns c = search rules
