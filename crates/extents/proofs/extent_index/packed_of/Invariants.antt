-- The extents below this one are in the index.
use Rattle.extents.proofs.IndexLemmas.{ArePackedBelow}
use Rattle.extents.proofs.extent_index.packed_of.Given as goal

abbrev pub invariant-loop-extent : goal.invariant-loop-extent
invariant-loop-extent l = ArePackedBelow l.owners l.packed l.extent
