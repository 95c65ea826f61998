use Rattle.std.proofs.Common.{◌-◌, ◌≤◌, ◌<◌, length, ℕ}
use Rattle.entry_runs.specs.Runs.{end_of, run_at}
use Rattle.batch.proofs.zero_rows.runs_before.Given as goal

abbrev pub invariant-loop-first : goal.invariant-loop-first
invariant-loop-first l = record {
  order : l.first ≤ l.end;
  within : l.end ≤ length l.runs;
  before : (i : ℕ) → i < l.first → end_of (run_at l.runs i) ≤ l.row;
  others : (i : ℕ) → l.end ≤ i → i < length l.runs → l.row < end_of (run_at l.runs i);
}

abbrev pub decreases-loop-first : goal.decreases-loop-first
decreases-loop-first l = l.end - l.first
