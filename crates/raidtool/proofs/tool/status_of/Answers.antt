use Rattle.std.proofs.Common.{rules}
use Rattle.raidtool.proofs.tool.status_of.Goals as goal

pub returns-in-Err-clause-told : goal.returns-in-Err-clause-told
returns-in-Err-clause-told c = search rules
