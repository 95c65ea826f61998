-- The incarnations so far are allowed.
use Rattle.std.proofs.Common.{◌≡◌, ◌≤◌, ◌<◌, ℕ}
use Rattle.sector_model.specs.declared.calls.TheConstants.{GREATEST_COUNT}
use Rattle.superblock.specs.Tables.{incarnation_at}
use Rattle.superblock.proofs.rules.are_numbered.Given as goal

abbrev pub invariant-loop-slot : goal.invariant-loop-slot
invariant-loop-slot l = record {
  least : (k : ℕ) → k < l.slot → k < l.slots → 1 ≤ incarnation_at l.incarnations k;
  most : (k : ℕ) → k < l.slot → k < l.slots → incarnation_at l.incarnations k ≤ GREATEST_COUNT;
  beyond : (k : ℕ) → k < l.slot → l.slots ≤ k → incarnation_at l.incarnations k ≡ 0;
}
