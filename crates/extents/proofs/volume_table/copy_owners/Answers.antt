use Rattle.std.proofs.Common.{subst, arith}
use Rattle.extents.proofs.PaddedOwners.{AreCopiedBelow, copied_all}
use Rattle.extents.proofs.volume_table.copy_owners.Goals as goal

pub returns : goal.returns
returns c = copied_all c.args.map.now c.loop-extent.to c.requires.most (subst (AreCopiedBelow c.args.map.now c.loop-extent.to)
    (omega (arith, c.requires.long, c.loop-extent-test.false, c.loop-extent.auto.extent-end, c.loop-extent.auto.to)) c.loop-extent.invariant)
