-- Nothing but reads so far, of which none took a device down, and the sum of the members' sectors before this one.
use Rattle.std.proofs.Common.{◌≡◌}
use Rattle.sector_model.specs.Readable.{readable}
use Rattle.parity.specs.Xor.{xor_of_all}
use Rattle.array_io.specs.Steps.Scanning.{HasScanned}
use Rattle.array_io.specs.Believed.Views.{HasItsSlots}
use Rattle.scrub.specs.Reports.{first_in_row}
use Rattle.scrub.proofs.rows.sum_row.Given as goal

abbrev pub invariant-loop-member : goal.invariant-loop-member
invariant-loop-member g l = record {
  same : l.table ≡ l.initial.table;
  honest : g.B.Bank.honest l.initial.bank → g.B.Bank.honest l.bank;
  still : g.B.Bank.honest l.bank → g.B.Bank.honest l.initial.bank;
  its_slots : HasItsSlots l.table (g.B.Bank.panel l.bank);
  scanned : HasScanned (g.B.Bank.honest l.initial.bank) (g.B.Bank.panel l.initial.bank) (g.B.Bank.panel l.bank)
      (g.B.Bank.history l.initial.bank) (g.B.Bank.history l.bank);
  sum : g.B.Bank.honest l.initial.bank → l.sum ≡ xor_of_all (first_in_row (readable (g.B.Bank.history l.initial.bank))
      l.row l.member);
}
