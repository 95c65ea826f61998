use Rattle.std.proofs.Common.{◌≡◌, ◌+◌, Bool}
use Rattle.sector_model.specs.Bank.{IsLater}
use Rattle.sector_model.specs.Calls.{Made}
use Rattle.sector_model.specs.History.{History, seen}
use Rattle.stripe_journal.specs.Copying.{body_in, copied_from}
use Rattle.stripe_journal.specs.Entries.{body_start}
use Rattle.stripe_journal.proofs.Copies.{sectors_from}
use Rattle.stripe_journal.proofs.copying.copy_body.Given as goal

abbrev pub invariant-loop-i : goal.invariant-loop-i
invariant-loop-i g l = record {
  panel : IsLater (g.B.Bank.panel l.initial.bank) (g.B.Bank.panel l.bank);
  honest : g.B.Bank.honest l.initial.bank → g.B.Bank.honest l.bank;
  still : g.B.Bank.honest l.bank → g.B.Bank.honest l.initial.bank;
  same : g.B.Bank.honest l.initial.bank → seen (g.B.Bank.history l.bank) l.from ≡ seen (g.B.Bank.history l.initial.bank) l.from;
  made : g.B.Bank.honest l.initial.bank → (answered : Bool) (new : History)
      → Made (copied_from l.from l.to (l.first + l.i) (sectors_from (seen (g.B.Bank.history l.initial.bank) l.from) l.first l.i l.count)) answered
      (g.B.Bank.history l.bank) new
      → Made (copied_from l.from l.to (body_start l.seal) (body_in l.geometry.members (seen (g.B.Bank.history l.initial.bank) l.from) l.seal)) answered
      (g.B.Bank.history l.initial.bank) new;
}
