-- The extents below the index are done.
use Rattle.extents.specs.ExtentMaps.{is_wanted}
use Rattle.extents.proofs.TakeLemmas.{AreAppendedBelow}
use Rattle.extents.proofs.extent_map.append_lowest.Given as goal

abbrev pub invariant-loop-extent : goal.invariant-loop-extent
invariant-loop-extent l = AreAppendedBelow (is_wanted l.all l.dirty) l.initial.owners l.owners l.volume l.first l.n l.taken l.extent
