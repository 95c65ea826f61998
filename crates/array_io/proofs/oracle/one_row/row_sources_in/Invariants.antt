-- What was put at the members so far.
use Rattle.std.specs.Prelude.{vec_len}
use Rattle.sector_model.specs.Memory.{slots_of}
use Rattle.array_io.specs.Oracle.{entry_of}
use Rattle.array_io.proofs.Oracles.EvaluatedRows.{IsFilledTo}
use Rattle.array_io.proofs.oracle.one_row.row_sources_in.Given as goal

abbrev pub invariant-loop-member : goal.invariant-loop-member
invariant-loop-member l = IsFilledTo (vec_len l.image.slots) l.table (slots_of l.image.slots.items) (entry_of l.last) l.row l.member l.entry l.trusted l.own
