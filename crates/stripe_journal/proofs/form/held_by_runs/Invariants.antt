-- The runs so far are counted.
use Rattle.std.proofs.Common.{◌≡◌, ◌+◌, drop}
use Rattle.entry_runs.specs.WrittenOut.{masks_of_runs}
use Rattle.stripe_journal.specs.Forms.{held_by_masks}
use Rattle.stripe_journal.proofs.form.held_by_runs.Given as goal

abbrev pub invariant-loop-run : goal.invariant-loop-run
invariant-loop-run l =
    held_by_masks l.members (masks_of_runs l.runs.list.items) ≡ l.count + held_by_masks l.members (masks_of_runs (drop l.run-index l.runs.list.items))
