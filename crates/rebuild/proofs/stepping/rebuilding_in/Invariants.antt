-- None of the members so far is rebuilding.
use Rattle.std.proofs.Common.{◌≢◌, ◌<◌, ℕ}
use Rattle.superblock.specs.declared.state.State.TheVariants.{Rebuilding}
use Rattle.superblock.specs.Tables.{state_at}
use Rattle.rebuild.proofs.stepping.rebuilding_in.Given as goal

abbrev pub invariant-loop-member : goal.invariant-loop-member
invariant-loop-member l = (k : ℕ) → k < l.member → state_at l.table.states k ≢ Rebuilding
