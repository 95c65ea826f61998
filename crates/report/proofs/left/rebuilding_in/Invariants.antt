-- None of the slots so far is rebuilding.
use Rattle.std.proofs.Common.{◌≢◌, ◌<◌, ℕ}
use Rattle.superblock.specs.declared.state.State.TheVariants.{Rebuilding}
use Rattle.superblock.specs.Tables.{state_at}
use Rattle.report.proofs.left.rebuilding_in.Given as goal

abbrev pub invariant-loop-slot : goal.invariant-loop-slot
invariant-loop-slot l = (k : ℕ) → k < l.slot → state_at l.status.states k ≢ Rebuilding
