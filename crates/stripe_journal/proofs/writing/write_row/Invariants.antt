use Rattle.std.proofs.Common.{◌≡◌, ◌+◌, Bool}
use Rattle.sector_model.specs.Bank.{IsLater}
use Rattle.sector_model.specs.Calls.{Made, writes_from}
use Rattle.sector_model.specs.History.{History}
use Rattle.stripe_journal.specs.Entries.{held_of}
use Rattle.entry_runs.specs.Body.{count_held, has_bit}
use Rattle.stripe_journal.proofs.Entries.{held_from}
use Rattle.stripe_journal.proofs.writing.write_row.Given as goal

abbrev pub invariant-loop-member : goal.invariant-loop-member
invariant-loop-member g l = record {
  place : l.at ≡ l.first + count_held (has_bit l.row.mask) l.member;
  panel : IsLater (g.B.Bank.panel l.initial.bank) (g.B.Bank.panel l.bank);
  honest : g.B.Bank.honest l.initial.bank → g.B.Bank.honest l.bank;
  still : g.B.Bank.honest l.bank → g.B.Bank.honest l.initial.bank;
  made : g.B.Bank.honest l.initial.bank → (answered : Bool) (new : History)
      → Made (writes_from l.dev l.at (held_from l.geometry.members l.row.mask l.row.sectors.now l.member)) answered (g.B.Bank.history l.bank) new
      → Made (writes_from l.dev l.first (held_of l.geometry.members l.row.mask l.row.sectors.now)) answered (g.B.Bank.history l.initial.bank) new;
}
