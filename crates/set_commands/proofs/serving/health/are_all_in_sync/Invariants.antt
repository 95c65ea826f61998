use Rattle.std.proofs.Common.{◌≡◌, ◌<◌, ℕ}
use Rattle.superblock.specs.declared.state.State.TheVariants.{InSync}
use Rattle.superblock.specs.Tables.{state_at}
use Rattle.set_commands.proofs.serving.health.are_all_in_sync.Given as goal

abbrev pub invariant-loop-slot : goal.invariant-loop-slot
invariant-loop-slot l = (k : ℕ) → k < l.slot → state_at l.status.states k ≡ InSync
