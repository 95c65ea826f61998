use Rattle.std.proofs.Common.{◌≢◌, ℕ, ◌<◌}
use Rattle.layout_map.specs.Placement.{data_sectors_of}
use Rattle.array_io.specs.Steps.FormingRows.{logical_at}
use Rattle.array_io.proofs.testing.check_sectors.Given as goal

abbrev pub invariant-loop-i : goal.invariant-loop-i
invariant-loop-i g l = record {
  of_set : (k : ℕ) → k < l.i → logical_at l.sectors k < data_sectors_of l.table.geometry.members l.table.geometry.chunk l.table.geometry.stripes;
  apart : (j k : ℕ) → j < k → k < l.i → logical_at l.sectors j ≢ logical_at l.sectors k;
}
