use Rattle.std.proofs.Common.{rules}
use Rattle.rebuild.proofs.stepping.next_of.Goals as goal

pub returns-then-end-rows : goal.returns-then-end-rows
returns-then-end-rows c = search rules

pub returns-else-end-rows : goal.returns-else-end-rows
returns-else-end-rows c = search rules
