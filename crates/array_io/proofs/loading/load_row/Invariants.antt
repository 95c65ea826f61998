use Rattle.std.proofs.Common.{◌≡◌, ◌≢◌, ℕ, ◌+◌, ◌<◌, true}
use Rattle.sector_model.specs.Bank.{IsLater}
use Rattle.sector_model.specs.History.{is_down, seen, sector_of}
use Rattle.sector_model.specs.Reads.{HasRead}
use Rattle.layout_map.specs.declared.sizes.TheConstants.{MOST_MEMBERS}
use Rattle.stripe_journal.specs.Entries.{form_of, numbers_of, row_mask, sector_at}
use Rattle.stripe_journal.specs.Forms.{count_held, has_bit}
use Rattle.array_io.proofs.loading.load_row.Given as goal

abbrev pub invariant-loop-member : goal.invariant-loop-member
invariant-loop-member g l = record {
  panel : IsLater (g.B.Bank.panel l.initial.bank) (g.B.Bank.panel l.bank);
  honest : g.B.Bank.honest l.initial.bank → g.B.Bank.honest l.bank;
  still : g.B.Bank.honest l.bank → g.B.Bank.honest l.initial.bank;
  read : g.B.Bank.honest l.initial.bank → HasRead (g.B.Bank.history l.initial.bank) (g.B.Bank.history l.bank);
  place : l.at ≡ l.first + count_held (has_bit (row_mask l.initial.entry l.i)) l.member;
  numbers : numbers_of l.entry ≡ numbers_of l.initial.entry;
  form : form_of l.entry ≡ form_of l.initial.entry;
  loaded : g.B.Bank.honest l.initial.bank → (k : ℕ) → k < l.member → has_bit (row_mask l.initial.entry l.i) k ≡ true
      → sector_at l.entry l.i k
      ≡ sector_of (seen (g.B.Bank.history l.initial.bank) l.journal) (l.first + count_held (has_bit (row_mask l.initial.entry l.i)) k);
  stays : (device : ℕ) → g.B.Bank.honest l.initial.bank → is_down (g.B.Bank.history l.bank) device ≡ is_down (g.B.Bank.history l.initial.bank) device;
  others : (other k : ℕ) → other ≢ l.i → k < MOST_MEMBERS → sector_at l.entry other k ≡ sector_at l.initial.entry other k;
}
