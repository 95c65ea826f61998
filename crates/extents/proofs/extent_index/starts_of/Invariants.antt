-- The starts up to this volume's are summed up.
use Rattle.extents.proofs.IndexLemmas.{AreStartsBelow}
use Rattle.extents.proofs.extent_index.starts_of.Given as goal

abbrev pub invariant-loop-volume : goal.invariant-loop-volume
invariant-loop-volume l = AreStartsBelow l.owners l.starts l.volume
