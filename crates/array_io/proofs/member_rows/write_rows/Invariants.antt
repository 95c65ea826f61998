use Rattle.std.proofs.Common.{◌≤◌, true, length}
use Rattle.sector_model.specs.Bank.{IsLater}
use Rattle.sector_model.specs.Calls.{Made}
use Rattle.stripe_journal.specs.Entries.{numbers_of}
use Rattle.array_io.specs.Steps.PuttingRows.{row_calls}
use Rattle.array_io.specs.Steps.PuttingSteps.{rows_held}
use Rattle.array_io.proofs.member_rows.write_rows.Given as goal

abbrev pub invariant-loop-i : goal.invariant-loop-i
invariant-loop-i g l = record {
  most : l.i ≤ length (numbers_of l.entry);
  panel : IsLater (g.B.Bank.panel l.initial.bank) (g.B.Bank.panel l.bank);
  honest : g.B.Bank.honest l.initial.bank → g.B.Bank.honest l.bank;
  still : g.B.Bank.honest l.bank → g.B.Bank.honest l.initial.bank;
  made : g.B.Bank.honest l.initial.bank → Made (row_calls l.table (rows_held l.entry) l.member l.i) true (g.B.Bank.history l.initial.bank)
      (g.B.Bank.history l.bank);
}
