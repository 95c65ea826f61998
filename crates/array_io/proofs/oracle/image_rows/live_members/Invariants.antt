-- Which of the members so far are live.
use Rattle.std.specs.Prelude.{vec_len}
use Rattle.sector_model.specs.Memory.{slots_of}
use Rattle.array_io.specs.Oracle.{AreLive}
use Rattle.array_io.proofs.oracle.image_rows.live_members.Given as goal

abbrev pub invariant-loop-member : goal.invariant-loop-member
invariant-loop-member l = AreLive (vec_len l.image.slots) l.table (slots_of l.image.slots.items) l.member l.live
