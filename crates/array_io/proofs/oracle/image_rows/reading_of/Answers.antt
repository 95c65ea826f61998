use Rattle.std.proofs.Common.{arith}
use Rattle.array_io.proofs.Oracles.Readings.{rows_are_read}
use Rattle.array_io.proofs.oracle.image_rows.reading_of.Goals as goal

pub returns : goal.returns
returns c = grind (arith, rows_are_read)
