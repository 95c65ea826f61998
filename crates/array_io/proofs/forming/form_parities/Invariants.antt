use Rattle.std.proofs.Common.{◌≡◌, ℕ, ◌<◌, ◌≤◌, Ok}
use Rattle.layout_map.specs.declared.sizes.TheConstants.{MOST_MEMBERS}
use Rattle.stripe_journal.specs.Entries.{form_of, numbers_of, sector_at}
use Rattle.stripe_journal.specs.Seals.{row_at}
use Rattle.array_io.specs.Steps.FormingRows.{HasParityOn, HasSoundRow}
use Rattle.array_io.specs.Steps.ReadingOn.{Between, KeepsFrom, KeepsOn}
use Rattle.array_io.specs.Believed.Views.{HasItsSlots}
use Rattle.array_io.proofs.forming.form_parities.Given as goal

abbrev pub invariant-loop-i : goal.invariant-loop-i
invariant-loop-i g l = record {
  honest : g.B.Bank.honest l.initial.bank → g.B.Bank.honest l.bank;
  still : g.B.Bank.honest l.bank → g.B.Bank.honest l.initial.bank;
  its_slots : HasItsSlots l.table (g.B.Bank.panel l.bank);
  steps : KeepsOn (g.B.Bank.honest l.initial.bank) l.initial.table l.table (g.B.Bank.panel l.initial.bank) (g.B.Bank.panel l.bank)
      (g.B.Bank.history l.initial.bank) (g.B.Bank.history l.bank) (Ok tt);
  form : form_of l.entry ≡ form_of l.initial.entry;
  sound : (number k : ℕ) (from : KeepsFrom) → g.B.Bank.honest l.initial.bank → k < l.i
      → Between (g.B.Bank.panel l.initial.bank).devices number from l.initial.table (g.B.Bank.history l.initial.bank)
      → HasSoundRow l.initial.table.geometry from.logical l.entry k (row_at (numbers_of l.initial.entry) k);
  others : (k member : ℕ) → member < MOST_MEMBERS → ¬ HasParityOn l.initial.table.geometry (row_at (numbers_of l.initial.entry) k) member
      → sector_at l.entry k member ≡ sector_at l.initial.entry k member;
  beyond : (k member : ℕ) → member < MOST_MEMBERS → l.i ≤ k → sector_at l.entry k member ≡ sector_at l.initial.entry k member;
}
