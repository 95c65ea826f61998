use Rattle.std.proofs.Common.{◌≢◌, ℕ, ◌<◌}
use Rattle.array_io.specs.Steps.FormingRows.{logical_at}
use Rattle.array_io.proofs.testing.is_given.Given as goal

abbrev pub invariant-loop-sector : goal.invariant-loop-sector
invariant-loop-sector l = (k : ℕ) → k < l.sector-index → logical_at l.sectors k ≢ l.logical
