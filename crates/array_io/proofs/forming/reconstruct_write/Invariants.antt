use Rattle.std.proofs.Common.{◌≡◌, ℕ, Ok, List}
use Rattle.sector_model.specs.History.{Bytes}
use Rattle.array_io.specs.Steps.FormingRows.{IsListedRow, sector_with}
use Rattle.array_io.specs.Steps.ReadingOn.{Between, KeepsFrom, KeepsOn}
use Rattle.array_io.specs.Believed.Views.{HasItsSlots}
use Rattle.array_io.proofs.Commits.BufferRows.{sum_below}
use Rattle.array_io.proofs.forming.reconstruct_write.Given as goal

abbrev pub invariant-loop-member : goal.invariant-loop-member
invariant-loop-member g l = record {
  honest : g.B.Bank.honest l.initial.bank → g.B.Bank.honest l.bank;
  still : g.B.Bank.honest l.bank → g.B.Bank.honest l.initial.bank;
  its_slots : HasItsSlots l.table (g.B.Bank.panel l.bank);
  steps : KeepsOn (g.B.Bank.honest l.initial.bank) l.initial.table l.table (g.B.Bank.panel l.initial.bank) (g.B.Bank.panel l.bank)
      (g.B.Bank.history l.initial.bank) (g.B.Bank.history l.bank) (Ok tt);
  sum : (number : ℕ) (from : KeepsFrom) (values : List Bytes) → g.B.Bank.honest l.initial.bank
      → Between (g.B.Bank.panel l.initial.bank).devices number from l.initial.table (g.B.Bank.history l.initial.bank)
      → IsListedRow l.initial.table.geometry from.logical l.row values → l.sum ≡ sum_below (sector_with l.entry l.i values) l.member;
}
