-- Reads keep the table of volumes and the geometry.
use Rattle.std.proofs.Common.{◌≡◌}
use Rattle.batch_trials.proofs.tests.steps.unlike_block.Given as goal

abbrev pub invariant-loop-byte : goal.invariant-loop-byte
invariant-loop-byte g l = (l.store.table ≡ l.fn.store.table) × (l.store.array.table.geometry ≡ l.fn.store.array.table.geometry)
