use Rattle.std.proofs.Common.{◌≡◌, ◌<◌, ◌≤◌, ℕ, false}
use Rattle.superblock.specs.Counted.{least_sectors}
use Rattle.recovery.proofs.making.check_devices.Given as goal

abbrev pub invariant-loop-slot : goal.invariant-loop-slot
invariant-loop-slot g l = record {
  up : (k : ℕ) → k < l.slot → (g.B.Bank.panel l.bank).down k ≡ false;
  fit : (k : ℕ) → k < l.slot → least_sectors l.geometry k ≤ (g.B.Bank.panel l.bank).sectors k;
}
