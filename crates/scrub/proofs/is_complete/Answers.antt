use Rattle.std.proofs.Common.{rules}
use Rattle.scrub.proofs.is_complete.Goals as goal

pub loop-slot-preserved : goal.loop-slot-preserved
loop-slot-preserved c = search rules

pub returns : goal.returns
returns c = search rules
