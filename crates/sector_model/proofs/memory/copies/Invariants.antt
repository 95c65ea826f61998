use Rattle.std.proofs.Common.{◌≡◌, vec_len}
use Rattle.sector_model.specs.Memory.{AreCopies}
use Rattle.sector_model.proofs.memory.copies.Given as goal

abbrev pub invariant-loop-slot : goal.invariant-loop-slot
invariant-loop-slot l = record { so_far : vec_len l.disks ≡ l.slot-index; copied : AreCopies l.slot-index l.slots l.disks.items }
