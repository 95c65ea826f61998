use Rattle.std.proofs.Common.{◌≡◌, ◌+◌, Bool}
use Rattle.sector_model.specs.Bank.{IsLater}
use Rattle.sector_model.specs.Calls.{Made, writes_from}
use Rattle.sector_model.specs.History.{History}
use Rattle.stripe_journal.specs.Entries.{body_of, form_of, half_start}
use Rattle.stripe_journal.specs.Forms.{held_before}
use Rattle.stripe_journal.proofs.Entries.{body_from}
use Rattle.stripe_journal.proofs.writing.write_body.Given as goal

abbrev pub invariant-loop-i : goal.invariant-loop-i
invariant-loop-i g l = record {
  place : l.at ≡ half_start l.geometry.format l.number + held_before l.geometry.members (form_of l.entry) l.i;
  panel : IsLater (g.B.Bank.panel l.initial.bank) (g.B.Bank.panel l.bank);
  honest : g.B.Bank.honest l.initial.bank → g.B.Bank.honest l.bank;
  still : g.B.Bank.honest l.bank → g.B.Bank.honest l.initial.bank;
  made : g.B.Bank.honest l.initial.bank → (answered : Bool) (new : History)
      → Made (writes_from l.dev l.at (body_from l.geometry.members l.entry l.i l.i-end)) answered (g.B.Bank.history l.bank) new
      → Made (writes_from l.dev (half_start l.geometry.format l.number) (body_of l.geometry.members l.entry)) answered (g.B.Bank.history l.initial.bank) new;
}
