-- Reads keep the table of volumes and the geometry.
use Rattle.std.proofs.Common.{◌≡◌}
use Rattle.batch_trials.proofs.tests.steps.unlike_volume.Given as goal

abbrev pub invariant-loop-at : goal.invariant-loop-at
invariant-loop-at g l = (l.store.table ≡ l.fn.store.table) × (l.store.array.table.geometry ≡ l.fn.store.array.table.geometry)
