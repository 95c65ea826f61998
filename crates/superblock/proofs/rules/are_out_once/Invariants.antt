-- None of the slots so far is out of sync, or exactly one.
use Rattle.std.proofs.Common.{◌≡◌, ◌≢◌, ◌<◌, ℕ, true, false}
use Rattle.superblock.specs.declared.state.State.TheVariants.{InSync}
use Rattle.superblock.specs.Tables.{state_at}
use Rattle.superblock.proofs.rules.are_out_once.Given as goal

abbrev pub invariant-loop-slot : goal.invariant-loop-slot
invariant-loop-slot l = record {
  none : l.is_one_out ≡ false → (k : ℕ) → k < l.slot → state_at l.states k ≡ InSync;
  one : l.is_one_out ≡ true → (out : ℕ) × (out < l.slot) × (state_at l.states out ≢ InSync) × ((k : ℕ) → k < l.slot → state_at l.states k ≢ InSync → k ≡ out);
}
