use Rattle.std.proofs.Common.{◌≢◌, sym, ◌∙◌}
use Rattle.superblock.specs.declared.state.State.TheVariants.{InSync, Rebuilding}
use Rattle.rebuild.proofs.JoinedTable.{joined_is_table}
use Rattle.rebuild.proofs.joining.joined.Goals.{then-slot-table, else-slot-table}
use Rattle.rebuild.proofs.joining.joined.Goals as goal

differ : InSync ≢ Rebuilding
differ e = cc

pub invariant_of-result : goal.invariant_of-result
invariant_of-result c = record {
  id_long = c.args.table.now.id_long;
  allowed = joined_is_table c.args.table.now c.args.slot c.if-slot-table.states c.requires.of_set c.requires.missing c.requires.generation
      c.requires.incarnation (elim c.if-slot-table.branch [
        | then-slot-table w ↦ (λ is. w.if-slot-table.true)
        | else-slot-table w ↦ (λ is. absurd (differ (sym w.states-is ∙ is)))
      ]);
}
