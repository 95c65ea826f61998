use Rattle.std.proofs.Common.{◌-◌, ◌≤◌, ◌<◌, length}
use Rattle.entry_runs.specs.Built.{runs_in}
use Rattle.entry_runs.specs.Runs.{end_of_runs}
use Rattle.entry_runs.specs.WrittenOut.{masks_of_runs, rows_of_runs}
use Rattle.batch.specs.Places.{placed_at}
use Rattle.batch.specs.Rows.{StartsRow}
use Rattle.batch.proofs.PlannedRows.{ArePlannedBy}
use Rattle.batch.proofs.planning.plan_rows.Given as goal

abbrev pub invariant-loop-first : goal.invariant-loop-first
invariant-loop-first l = record {
  within : l.first ≤ length l.places;
  starts : l.first < length l.places → StartsRow l.places l.first;
  after : l.first < length l.places → end_of_runs (runs_in l.runs) ≤ (placed_at l.places l.first).row;
  planned : ArePlannedBy l.geometry l.places l.first (rows_of_runs (runs_in l.runs)) (masks_of_runs (runs_in l.runs));
}

abbrev pub decreases-loop-first : goal.decreases-loop-first
decreases-loop-first l = length l.places - l.first
