-- The runs so far fit.
use Rattle.std.specs.Prelude.{◌<◌, ℕ}
use Rattle.entry_runs.specs.Runs.{run_at}
use Rattle.stripe_journal.specs.LastSealed.{FitsRun}
use Rattle.stripe_journal.proofs.counting.are_runs_of.Given as goal

abbrev pub invariant-loop-run : goal.invariant-loop-run
invariant-loop-run l = (k : ℕ) → k < l.run-index → FitsRun l.geometry (run_at l.runs.list.items k)
