use Rattle.report.proofs.CommandLemmas.{says_one_command}
use Rattle.report.proofs.parse.a_line_says_one_command.Goals as goal

pub returns : goal.returns
returns c = says_one_command
