use Rattle.std.proofs.Common.{◌≡◌, ℕ, ◌+◌, ◌<◌, ◌≤◌, true, length}
use Rattle.sector_model.specs.Bank.{IsLater}
use Rattle.sector_model.specs.History.{is_down, seen, sector_of}
use Rattle.sector_model.specs.Reads.{HasRead}
use Rattle.stripe_journal.specs.Entries.{IsEntryOf, body_start, sector_at}
use Rattle.stripe_journal.specs.Forms.{held_before, in_body, rank, rows_in}
use Rattle.array_io.proofs.loading.load_entry.Given as goal

abbrev pub invariant-loop-i : goal.invariant-loop-i
invariant-loop-i g l = record {
  most : l.i ≤ length (rows_in l.seal.form);
  place : l.at ≡ body_start l.seal + held_before l.geometry.members l.seal.form l.i;
  is : IsEntryOf l.geometry.members l.seal.form l.entry;
  panel : IsLater (g.B.Bank.panel l.initial.bank) (g.B.Bank.panel l.bank);
  honest : g.B.Bank.honest l.initial.bank → g.B.Bank.honest l.bank;
  still : g.B.Bank.honest l.bank → g.B.Bank.honest l.initial.bank;
  read : g.B.Bank.honest l.initial.bank → HasRead (g.B.Bank.history l.initial.bank) (g.B.Bank.history l.bank);
  stays : (device : ℕ) → g.B.Bank.honest l.initial.bank → is_down (g.B.Bank.history l.bank) device ≡ is_down (g.B.Bank.history l.initial.bank) device;
  loaded : (k member : ℕ) → g.B.Bank.honest l.initial.bank → k < l.i → member < l.geometry.members → in_body l.geometry.members l.seal.form k member ≡ true
      → sector_at l.entry k member
      ≡ sector_of (seen (g.B.Bank.history l.initial.bank) l.journal) (body_start l.seal + rank l.geometry.members l.seal.form k member);
}
