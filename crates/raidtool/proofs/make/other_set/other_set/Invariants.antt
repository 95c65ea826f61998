use Rattle.std.proofs.Common.{◌≤◌}
use Rattle.recovery.specs.Making.{bank_view}
use Rattle.raidtool.proofs.OtherSets.{InspectedTo}
use Rattle.raidtool.proofs.make.other_set.other_set.Given as goal

abbrev pub invariant-loop-slot : goal.invariant-loop-slot
invariant-loop-slot g l = record {
  honest : g.B.Bank.honest l.initial.bank → g.B.Bank.honest l.bank;
  from : l.first ≤ l.slot;
  inspected : InspectedTo (g.B.Bank.honest l.initial.bank) l.id l.first l.slot (bank_view (g.B.Bank.panel l.initial.bank) (g.B.Bank.history l.initial.bank))
      (bank_view (g.B.Bank.panel l.bank) (g.B.Bank.history l.bank));
}
