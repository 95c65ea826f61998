use Rattle.std.proofs.Common.{◌≡◌, ◌≤◌}
use Rattle.rebuild.specs.RowSteps.{FillsRows}
use Rattle.rebuild.proofs.rows.fill_rows.Given as goal

-- the rows so far are written
abbrev pub invariant-loop-row : goal.invariant-loop-row
invariant-loop-row g l = record {
  least : l.from ≤ l.row;
  same : l.table ≡ l.initial.table;
  honest : g.B.Bank.honest l.initial.bank → g.B.Bank.honest l.bank;
  still : g.B.Bank.honest l.bank → g.B.Bank.honest l.initial.bank;
  fills : FillsRows (g.B.Bank.honest l.initial.bank) l.initial.table l.member l.from l.row
      (g.B.Bank.panel l.initial.bank) (g.B.Bank.panel l.bank)
      (g.B.Bank.history l.initial.bank) (g.B.Bank.history l.bank);
}
