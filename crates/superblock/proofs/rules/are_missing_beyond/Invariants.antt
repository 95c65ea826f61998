-- The places after the slots are empty, as far as they were looked at.
use Rattle.std.proofs.Common.{◌≡◌, ◌≤◌, ◌<◌, ℕ}
use Rattle.superblock.specs.declared.state.State.TheVariants.{Missing}
use Rattle.superblock.specs.Tables.{state_at}
use Rattle.superblock.proofs.rules.are_missing_beyond.Given as goal

abbrev pub invariant-loop-slot : goal.invariant-loop-slot
invariant-loop-slot l = (k : ℕ) → l.slots ≤ k → k < l.slot → state_at l.states k ≡ Missing
