-- The slots so far are in sync, but for the one that is let be.
use Rattle.std.proofs.Common.{◌≡◌, ◌≢◌, ◌<◌, ℕ}
use Rattle.superblock.specs.declared.state.State.TheVariants.{InSync}
use Rattle.superblock.specs.Tables.{state_at}
use Rattle.array_io.proofs.array.mark.is_other_out.Given as goal

abbrev pub invariant-loop-other : goal.invariant-loop-other
invariant-loop-other l = (k : ℕ) → k < l.other → k ≢ l.slot → state_at l.table.states k ≡ InSync
