use Rattle.std.proofs.Common.{rules}
use Rattle.superblock.proofs.rules.are_out_once.Goals as goal

pub loop-slot-preserved : goal.loop-slot-preserved
loop-slot-preserved c = search rules
