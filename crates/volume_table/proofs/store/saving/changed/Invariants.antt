-- The sectors below the number are compared.
use Rattle.volume_table.specs.StoreChanges.{AreChangedBelow}
use Rattle.volume_table.proofs.store.saving.changed.Given as goal

abbrev pub invariant-loop-number : goal.invariant-loop-number
invariant-loop-number l = AreChangedBelow l.number l.before l.after l.sectors.items
