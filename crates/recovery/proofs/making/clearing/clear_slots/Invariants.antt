use Rattle.std.proofs.Common.{◌<◌, ◌+◌, ℕ}
use Rattle.sector_model.specs.Bank.{IsLater}
use Rattle.recovery.specs.Clearing.{HasCleared, IsClearedSlot}
use Rattle.recovery.proofs.making.clearing.clear_slots.Given as goal

abbrev pub invariant-loop-slot : goal.invariant-loop-slot
invariant-loop-slot g l = record {
  panel : IsLater (g.B.Bank.panel l.initial.bank) (g.B.Bank.panel l.bank);
  honest : g.B.Bank.honest l.initial.bank → g.B.Bank.honest l.bank;
  still : g.B.Bank.honest l.bank → g.B.Bank.honest l.initial.bank;
  cleared : g.B.Bank.honest l.initial.bank → HasCleared (l.geometry.members + 2) (g.B.Bank.history l.initial.bank) (g.B.Bank.history l.bank);
  slots : g.B.Bank.honest l.initial.bank → (slot : ℕ) → slot < l.slot → IsClearedSlot l.geometry (g.B.Bank.history l.bank) slot;
}
