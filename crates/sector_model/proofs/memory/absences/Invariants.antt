use Rattle.std.proofs.Common.{◌≡◌, vec_len}
use Rattle.sector_model.specs.Memory.{AreAbsences}
use Rattle.sector_model.proofs.memory.absences.Given as goal

abbrev pub invariant-loop-slot : goal.invariant-loop-slot
invariant-loop-slot l = record { so_far : vec_len l.flags ≡ l.slot-index; marked : AreAbsences l.slot-index l.slots l.flags.items }
