use Rattle.std.proofs.Common.{ℕ}
use Rattle.std.specs.Prelude.{Ok}
use Rattle.sector_model.specs.Bank.{IsLater}
use Rattle.sector_model.specs.History.{Bytes}
use Rattle.recovery.specs.StaleSuperblocks.{AreSpelled, BringsUpSlots}
use Rattle.recovery.proofs.StaleSlots.{HasStateBelow}
use Rattle.recovery.proofs.stale_superblocks.bring_up_in.Given as goal

abbrev pub invariant-loop-slot : goal.invariant-loop-slot
invariant-loop-slot g l = record {
  panel : IsLater (g.B.Bank.panel l.initial.bank) (g.B.Bank.panel l.bank);
  honest : g.B.Bank.honest l.initial.bank → g.B.Bank.honest l.bank;
  still : g.B.Bank.honest l.bank → g.B.Bank.honest l.initial.bank;
  brings : (sectors : ℕ → Bytes) → AreSpelled l.table sectors
      → BringsUpSlots (g.B.Bank.honest l.initial.bank) (HasStateBelow l.table l.state l.slot) l.table sectors (g.B.Bank.panel l.initial.bank)
      (g.B.Bank.panel l.bank)
      (g.B.Bank.history l.initial.bank) (g.B.Bank.history l.bank) (Ok tt);
}
