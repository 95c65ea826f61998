-- The extents below the index are written.
use Rattle.extents.proofs.PaddedOwners.{AreCopiedBelow}
use Rattle.extents.proofs.volume_table.copy_owners.Given as goal

abbrev pub invariant-loop-extent : goal.invariant-loop-extent
invariant-loop-extent l = AreCopiedBelow l.map l.to l.extent
