-- The batch is one of the array's set.
use Rattle.std.proofs.Common.{◌≡◌}
use Rattle.array_io.proofs.tests.batches.set.commit_full_batch.Given as goal

abbrev pub invariant-loop-piece : goal.invariant-loop-piece
invariant-loop-piece g l = l.batch.geometry ≡ l.array.table.geometry
