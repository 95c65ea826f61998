-- The sectors below the number are there.
use Rattle.volume_table.proofs.PutTable.{AreAllBelow}
use Rattle.volume_table.proofs.store.saving.numbered.Given as goal

abbrev pub invariant-loop-number : goal.invariant-loop-number
invariant-loop-number l = AreAllBelow l.number l.after l.sectors.items
