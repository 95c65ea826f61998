use Rattle.std.proofs.Common.{◌<◌, ℕ}
use Rattle.sector_model.specs.Bank.{IsLater}
use Rattle.recovery.specs.Clearing.{AreZero, HasCleared}
use Rattle.recovery.proofs.making.clearing.clear_sectors.Given as goal

abbrev pub invariant-loop-at : goal.invariant-loop-at
invariant-loop-at g l = record {
  panel : IsLater (g.B.Bank.panel l.initial.bank) (g.B.Bank.panel l.bank);
  honest : g.B.Bank.honest l.initial.bank → g.B.Bank.honest l.bank;
  still : g.B.Bank.honest l.bank → g.B.Bank.honest l.initial.bank;
  cleared : g.B.Bank.honest l.initial.bank → (slots : ℕ) → l.dev < slots → HasCleared slots (g.B.Bank.history l.initial.bank) (g.B.Bank.history l.bank);
  zeros : g.B.Bank.honest l.initial.bank → AreZero (g.B.Bank.history l.bank) l.dev l.from l.at;
}
