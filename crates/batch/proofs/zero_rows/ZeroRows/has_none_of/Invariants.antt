use Rattle.std.proofs.Common.{◌⊎◌, ◌≤◌, ◌<◌, ◌+◌, ℕ}
use Rattle.entry_runs.specs.Runs.{end_of, run_at}
use Rattle.batch.proofs.zero_rows.ZeroRows.has_none_of.Given as goal

abbrev pub invariant-loop-run : goal.invariant-loop-run
invariant-loop-run l =
    (i : ℕ) → i < l.run-index → (l.first + l.count ≤ (run_at l.self.list.items i).first) ⊎ (end_of (run_at l.self.list.items i) ≤ l.first)
