use Rattle.std.proofs.Common.{rules}
use Rattle.report.proofs.value.numbers.Goals as goal

pub returns : goal.returns
returns c = search rules
