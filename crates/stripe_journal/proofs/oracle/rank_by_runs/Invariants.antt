-- No run so far has the row, and what they hold is counted.
use Rattle.std.proofs.Common.{◌≡◌, ◌+◌, drop}
use Rattle.entry_runs.specs.Body.{run_of}
use Rattle.entry_runs.specs.WrittenOut.{masks_of_runs}
use Rattle.stripe_journal.specs.Forms.{held_by_masks}
use Rattle.stripe_journal.proofs.oracle.rank_by_runs.Given as goal

abbrev pub invariant-loop-run : goal.invariant-loop-run
invariant-loop-run l = record {
  left : run_of l.runs.list.items l.row ≡ run_of (drop l.run-index l.runs.list.items) l.row;
  sum : held_by_masks l.members (masks_of_runs l.runs.list.items) ≡ l.before + held_by_masks l.members (masks_of_runs (drop l.run-index l.runs.list.items));
}
