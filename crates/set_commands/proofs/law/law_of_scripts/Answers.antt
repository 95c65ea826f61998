use Rattle.set_commands.proofs.ScriptLaws.{last_line_stands, script_is_run, script_keeps_volumes}
use Rattle.set_commands.proofs.law.law_of_scripts.Goals as goal

pub returns-clause-volumes : goal.returns-clause-volumes
returns-clause-volumes c = script_keeps_volumes

pub returns-clause-last : goal.returns-clause-last
returns-clause-last c = last_line_stands

pub returns-clause-run : goal.returns-clause-run
returns-clause-run c = script_is_run
