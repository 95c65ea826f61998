-- The batch is one of the array's set.
use Rattle.std.proofs.Common.{◌≡◌}
use Rattle.array_io.proofs.tests.batches.set.commit_batch.Given as goal

abbrev pub invariant-loop-stretch : goal.invariant-loop-stretch
invariant-loop-stretch g l = l.batch.geometry ≡ l.array.table.geometry
