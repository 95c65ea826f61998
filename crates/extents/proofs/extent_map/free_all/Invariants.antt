-- The extents below the index are done.
use Rattle.extents.proofs.GiveLemmas.{IsGivenBackBelow}
use Rattle.extents.proofs.extent_map.free_all.Given as goal

abbrev pub invariant-loop-entry : goal.invariant-loop-entry
invariant-loop-entry l = IsGivenBackBelow l.initial.owners l.owners l.volume l.entry-index
