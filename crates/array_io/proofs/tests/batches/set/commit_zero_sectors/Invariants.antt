-- The sectors are of the array's set.
use Rattle.std.proofs.Common.{◌≡◌}
use Rattle.array_io.proofs.tests.batches.set.commit_zero_sectors.Given as goal

abbrev pub invariant-loop-stretch : goal.invariant-loop-stretch
invariant-loop-stretch g l = l.zeros.geometry ≡ l.array.table.geometry
