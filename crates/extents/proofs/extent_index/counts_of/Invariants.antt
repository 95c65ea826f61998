-- The extents below the index are counted.
use Rattle.extents.proofs.IndexLemmas.{AreCountsBelow}
use Rattle.extents.proofs.extent_index.counts_of.Given as goal

abbrev pub invariant-loop-owner : goal.invariant-loop-owner
invariant-loop-owner l = AreCountsBelow l.owners l.counts l.owner-index
