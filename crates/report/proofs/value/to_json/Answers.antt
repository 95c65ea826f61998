use Rattle.std.proofs.Common.{rules}
use Rattle.report.proofs.value.to_json.Goals as goal

pub returns-clause-value : goal.returns-clause-value
returns-clause-value c = search rules
