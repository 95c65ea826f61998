use Rattle.std.proofs.Common.{rules}
use Rattle.rebuild.proofs.stepping.progress_at.Goals as goal

pub returns-then-end-rows : goal.returns-then-end-rows
returns-then-end-rows c = search rules
