use Rattle.std.proofs.Common.{rules}
use Rattle.set_commands.proofs.script.write_outcome.Goals as goal

pub returns-clause-ok : goal.returns-clause-ok
returns-clause-ok c = search rules

pub returns-clause-part : goal.returns-clause-part
returns-clause-part c = search rules
