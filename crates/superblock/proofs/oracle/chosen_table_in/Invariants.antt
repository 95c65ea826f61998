-- The best of the slots so far.
use Rattle.std.specs.Prelude.{vec_len}
use Rattle.sector_model.specs.Memory.{slots_of}
use Rattle.superblock.proofs.Newest.{IsBestTo}
use Rattle.superblock.proofs.oracle.chosen_table_in.Given as goal

abbrev pub invariant-loop-slot : goal.invariant-loop-slot
invariant-loop-slot l = IsBestTo l.id (vec_len l.image.slots) (slots_of l.image.slots.items) l.slot l.best
