-- The least id of the slots below.
use Rattle.std.proofs.Common.{Ok, None}
use Rattle.recovery.specs.Making.{bank_view}
use Rattle.recovery.specs.SetIds.{FindsLeast, InSlotsBelow}
use Rattle.recovery.proofs.set_ids.id_above.Given as goal

abbrev pub invariant-loop-slot : goal.invariant-loop-slot
invariant-loop-slot g l = record {
  honest : g.B.Bank.honest l.initial.bank → g.B.Bank.honest l.bank;
  still : g.B.Bank.honest l.bank → g.B.Bank.honest l.initial.bank;
  searched : FindsLeast (g.B.Bank.honest l.initial.bank) l.above None (InSlotsBelow (g.B.Bank.panel l.initial.bank).devices l.slot)
      (bank_view (g.B.Bank.panel l.initial.bank) (g.B.Bank.history l.initial.bank)) (bank_view (g.B.Bank.panel l.bank) (g.B.Bank.history l.bank)) (Ok l.best);
}
