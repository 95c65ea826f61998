-- The volumes of the records from this number on are listed.
use Rattle.volume_table.proofs.ListedVolumes.{ListsFrom}
use Rattle.volume_table.proofs.store.listing.volumes_of.Given as goal

abbrev pub invariant-loop-number : goal.invariant-loop-number
invariant-loop-number l = ListsFrom l.table l.number l.volumes.items
