-- Nothing but reads so far, of which none took a device down, and what is told of the rows of the part before this one.
use Rattle.std.proofs.Common.{◌≡◌}
use Rattle.sector_model.specs.Readable.{readable}
use Rattle.array_io.specs.Steps.Scanning.{HasScanned}
use Rattle.array_io.specs.Believed.Views.{HasItsSlots}
use Rattle.scrub.specs.Reports.{TellsBelow, report_of}
use Rattle.scrub.proofs.rows.scrub_rows.Given as goal

abbrev pub invariant-loop-row : goal.invariant-loop-row
invariant-loop-row g l = record {
  same : l.table ≡ l.initial.table;
  honest : g.B.Bank.honest l.initial.bank → g.B.Bank.honest l.bank;
  still : g.B.Bank.honest l.bank → g.B.Bank.honest l.initial.bank;
  its_slots : HasItsSlots l.table (g.B.Bank.panel l.bank);
  scanned : HasScanned (g.B.Bank.honest l.initial.bank) (g.B.Bank.panel l.initial.bank) (g.B.Bank.panel l.bank)
      (g.B.Bank.history l.initial.bank) (g.B.Bank.history l.bank);
  told : TellsBelow (g.B.Bank.honest l.initial.bank) l.initial.table (readable (g.B.Bank.history l.initial.bank)) l.first
      l.row (report_of l.report);
}
