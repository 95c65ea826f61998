use Rattle.std.proofs.Common.{rules}
use Rattle.report.proofs.text.table_text.Goals as goal

pub returns-clause-text : goal.returns-clause-text
returns-clause-text c = search rules
