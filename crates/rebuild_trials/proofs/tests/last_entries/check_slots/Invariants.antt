-- The devices of the slots so far are long enough, where they are up.
use Rattle.std.proofs.Common.{◌≡◌, ◌≤◌, ◌<◌, false, ℕ}
use Rattle.superblock.specs.Counted.{least_sectors}
use Rattle.rebuild_trials.proofs.tests.last_entries.check_slots.Given as goal

abbrev pub invariant-loop-slot : goal.invariant-loop-slot
invariant-loop-slot g l = (k : ℕ) → k < l.slot → (g.B.Bank.panel l.bank).down k ≡ false → least_sectors
    l.table.geometry k ≤ (g.B.Bank.panel l.bank).sectors k
