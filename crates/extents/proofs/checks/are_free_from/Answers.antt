use Rattle.std.proofs.Common.{rules}
use Rattle.extents.proofs.checks.are_free_from.Goals as goal

pub loop-extent-preserved : goal.loop-extent-preserved
loop-extent-preserved c = search rules
