use Rattle.std.proofs.Common.{ℕ}
use Rattle.superblock.specs.declared.state.State.{State}
use Rattle.superblock.specs.declared.state.State.TheVariants.{InSync, Missing}
use Rattle.recovery.proofs.MakingFirst.{IsFilled}
use Rattle.recovery.proofs.making.first_table.Given as goal

abbrev pub invariant-loop-slot : goal.invariant-loop-slot
invariant-loop-slot l = record {
  states : IsFilled State InSync Missing l.slot l.states;
  incarnations : IsFilled ℕ 1 0 l.slot l.incarnations;
}
