use Rattle.std.proofs.Common.{rules}
use Rattle.report.proofs.text.state_word.Goals as goal

pub returns-in-Missing : goal.returns-in-Missing
returns-in-Missing c = search rules
