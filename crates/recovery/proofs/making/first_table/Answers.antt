use Rattle.std.proofs.Common.{ℕ, arith}
use Rattle.superblock.specs.declared.state.State.{State}
use Rattle.superblock.specs.declared.state.State.TheVariants.{InSync, Missing}
use Rattle.recovery.proofs.MakingFirst.{filled_none, first_is_table}
use Rattle.recovery.proofs.making.first_table.Goals as goal

pub loop-slot-init : goal.loop-slot-init
loop-slot-init c = record { states = filled_none State InSync Missing; incarnations = filled_none ℕ 1 0 }

pub invariant_of-result-clause-allowed : goal.invariant_of-result-clause-allowed
invariant_of-result-clause-allowed c =
    first_is_table c.args.geometry c.loop-slot.slot c.loop-slot.states c.loop-slot.incarnations
    (omega (arith, c.loop-slot-test.false, c.loop-slot.auto.slot-end))
    c.loop-slot.invariant.states c.loop-slot.invariant.incarnations
