-- The slots so far are in sync.
use Rattle.std.proofs.Common.{◌≡◌, ◌<◌, ℕ}
use Rattle.superblock.specs.declared.state.State.TheVariants.{InSync}
use Rattle.superblock.specs.Tables.{state_at}
use Rattle.scrub.proofs.is_complete.Given as goal

abbrev pub invariant-loop-slot : goal.invariant-loop-slot
invariant-loop-slot l = (k : ℕ) → k < l.slot → state_at l.table.states k ≡ InSync
