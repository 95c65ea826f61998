use Rattle.std.proofs.Common.{◌≢◌, ℕ, ◌<◌}
use Rattle.batch.specs.Places.{logical_at}
use Rattle.batch.proofs.tests.is_given.Given as goal

abbrev pub invariant-loop-sector : goal.invariant-loop-sector
invariant-loop-sector l = (k : ℕ) → k < l.sector-index → logical_at l.sectors k ≢ l.logical
