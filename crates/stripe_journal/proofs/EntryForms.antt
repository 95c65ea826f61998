-- The forms of seals, and entries in memory with their rows.
use Rattle.std.proofs.Common.{◌≡◌, ℕ, ◌<◌, ◌≤◌, ◌==◌, false, List, length, nat_lt, refl, sym, subst, ap, ◌∙◌, arith}
use Rattle.std.specs.Prelude.{count_ones}
use Rattle.std.proofs.lemmas.Bool.{ne_eqb}
use Rattle.arrayvec.specs.ArrayVec.{ArrayVec}
use Rattle.entry_runs.specs.Body.{count_held, has_bit}
use Rattle.entry_runs.proofs.Bits.{all_bits}
use Rattle.entry_runs.proofs.Counts.{count_grows}
use Rattle.layout_map.specs.declared.sizes.TheConstants.{ENTRY_ROWS, MOST_MEMBERS}
use Rattle.stripe_journal.specs.declared.entry.Entry.{Entry}
use Rattle.stripe_journal.specs.declared.form.Form.TheVariants.{Held, Whole}
use Rattle.layout_map.specs.declared.format.Format.TheVariants.{One}
use Rattle.stripe_journal.specs.Entries.{IsEntryOf, IsFormOf, ListsItsRows, numbers_of, row_mask}
use Rattle.stripe_journal.specs.Forms.{AreMasks, mask_at}
use Rattle.stripe_journal.proofs.FormTests.{masked_formed}
use Rattle.stripe_journal.proofs.Masks.{count_agrees, count_all}

-- a mask with the bits of all members has as many

more_held : (mask members n : ℕ) → members ≤ n → ((m : ℕ) → m < n → has_bit mask m ≡ nat_lt m members) → members ≤ count_held (has_bit mask) n
more_held mask members n few are =
    omega (
      arith,
      count_agrees (has_bit mask) (λ m. nat_lt m members) n are,
      count_grows (λ m. nat_lt m members) members n few,
      count_all members members (omega arith),
    )

pub whole_ones : (mask members : ℕ) → mask < 256 → members ≤ MOST_MEMBERS → ((m : ℕ) → m < MOST_MEMBERS → has_bit mask m ≡ nat_lt m members)
    → members ≤ count_ones mask
whole_ones mask members byte few are = omega (arith, more_held mask members MOST_MEMBERS few are, all_bits mask byte)

-- one of two bits is no mask of zeros
pub no_row_of_zeros : (mask : ℕ) → 2 ≤ count_ones mask → (mask == 0) ≡ false
unfolding lib.Count.ones
no_row_of_zeros mask two = ne_eqb mask 0 (λ none. few (subst (λ (m : ℕ). 2 ≤ count_ones m) none two))
  where
    few : 2 ≤ count_ones 0 → ⊥
    few two = let none : count_ones 0 ≡ 0 = refl in absurd (omega (arith, two, none))

-- an entry with the rows that a form lists, each with its mask

pub has_whole_rows : (members : ℕ) (entry : Entry) (rows : ArrayVec ℕ) (mask : ℕ) → members ≤ MOST_MEMBERS → numbers_of entry ≡ rows.items
    → ((i : ℕ) → i < length rows.items → row_mask entry i ≡ mask) → ((m : ℕ) → m < MOST_MEMBERS → has_bit mask m ≡ nat_lt m members)
    → 2 ≤ count_ones mask → IsEntryOf members (Whole rows) entry
has_whole_rows members entry rows mask few numbers masks are two = record {
  rows = numbers;
  held = λ i member below within. ap (λ (m : ℕ). has_bit m member) (masks i below) ∙ are member (omega (arith, within, few));
  zeros = λ i below. sym (no_row_of_zeros (row_mask entry i) (subst (λ (m : ℕ). 2 ≤ count_ones m) (sym (masks i below)) two));
}

pub has_held_rows : (members : ℕ) (entry : Entry) (rows : ArrayVec ℕ) (masks : List ℕ) → numbers_of entry ≡ rows.items
    → ((i : ℕ) → i < length rows.items → row_mask entry i ≡ mask_at masks i) → AreMasks masks (length rows.items) → IsEntryOf members (Held rows masks) entry
has_held_rows members entry rows masks numbers same are = record {
  rows = numbers;
  held = λ i member below within. ap (λ (m : ℕ). has_bit m member) (same i below);
  zeros = λ i below. sym (no_row_of_zeros (row_mask entry i) (subst (λ (m : ℕ). 2 ≤ count_ones m) (sym (same i below)) (are.two_bits i below)));
}

-- and the form that lists the rows of an entry
pub lists_rows : (entry : Entry) (rows : ArrayVec ℕ) (masks : List ℕ) → ListsItsRows entry → rows.items ≡ numbers_of entry → length masks ≡ ENTRY_ROWS
    → ((i : ℕ) → mask_at masks i < 256)
    → ((i : ℕ) → i < length (numbers_of entry) → mask_at masks i ≡ row_mask entry i) → ((i : ℕ) → length (numbers_of entry) ≤ i → mask_at masks i ≡ 0)
    → IsFormOf entry One (Held rows masks)
lists_rows entry rows masks lists same long bytes its rest = record {
  of_format = refl;
  formed = masked_formed rows masks (omega (arith, lists.few, ap length same)) record {
    long = long;
    bytes = bytes;
    two_bits = λ i below.
        let within : i < length (numbers_of entry) = omega (arith, below, ap length same) in
        subst (λ (m : ℕ). 2 ≤ count_ones m) (sym (its i within)) (lists.two i within);
    rest = λ i past. rest i (omega (arith, past, ap length same));
  };
  rows = same;
  held = λ members i member below. ap (λ (m : ℕ). has_bit m member) (its i below);
  zeros = λ i below. sym (no_row_of_zeros (row_mask entry i) (lists.two i below));
}
