-- The bytes of a seal's sector, by their places.
use Rattle.std.proofs.Common.{◌≡◌, ℕ, ◌+◌, ◌-◌, ◌*◌, ◌<◌, ◌≤◌, List, ◌++◌, length, take, drop, get_or, refl, sym, ap, ◌∙◌, arith, append_assoc}
use Rattle.std.specs.List.{flat_map}
use Rattle.std.proofs.lemmas.List.{drop-drop, drop-take, drop_at, get_or-drop, get_or-replicate, get_or-take, length-drop, length-take-le}
use Rattle.std.proofs.lemmas.List.{take-append-drop, take_all}
use Rattle.std.proofs.lemmas.List.{take-take, take_at}
use Rattle.layout_map.specs.declared.sizes.TheConstants.{ENTRY_ROWS}
use Rattle.byteorder.specs.Endian.{little_bytes, little_number}
use Rattle.byteorder.specs.Numbers.{little_from-append}
use Rattle.stripe_journal.specs.declared.form.Form.{Form}
use Rattle.stripe_journal.specs.declared.form.Form.TheVariants.{Held, Runs, Whole}
use Rattle.stripe_journal.specs.declared.seal.Seal.{Seal}
use Rattle.stripe_journal.specs.Forms.{IsForm, rows_in}
use Rattle.stripe_journal.specs.Law.{HasFields, HasHeld, HasListed}
use Rattle.stripe_journal.specs.Seals.{AreRows}
use Rattle.stripe_journal.specs.Spelling.{count_in, held_bytes, listed_bytes, row_numbers, seal_sector, zeros}
use Rattle.stripe_journal.proofs.Spellings.{count_most, fields_of, length-numbers, length-seal_sector, length-zeros, masks_in, number_at, number_back}
use Rattle.stripe_journal.proofs.Spellings.{numbers_in}
use Rattle.stripe_journal.proofs.Spellings.{rest_in}

-- a byte among zeros
zero_at : (from n at : ℕ) (sector : List ℕ) → take n (drop from sector) ≡ zeros n → from ≤ at → at < from + n → get_or sector at 0 ≡ 0
unfolding zeros
zero_at from n at sector is least most =
    let there : from + (at - from) ≡ at = omega arith in
    ap (λ (k : ℕ). get_or sector k 0) (sym there)
    ∙ sym (get_or-drop from sector (at - from) 0)
    ∙ sym (get_or-take n (drop from sector) (at - from) 0 (omega arith))
    ∙ ap (λ (xs : List ℕ). get_or xs (at - from) 0) is
    ∙ get_or-replicate n (at - from) 0 0 (omega arith)

-- a number is read of its own bytes
pub number_first : (n : ℕ) (bytes : List ℕ) → n ≤ length bytes → little_number n bytes ≡ little_number n (take n bytes)
number_first n bytes long =
    ap (little_number n) (sym (take-append-drop n bytes))
    ∙ little_from-append n (take n bytes) (drop n bytes) (omega (arith, length-take-le n bytes long))

-- a part of the first bytes
part_of_part : (n at m : ℕ) (xs : List ℕ) → at + m ≤ n → take m (drop at (take n xs)) ≡ take m (drop at xs)
part_of_part n at m xs within =
    let back : n ≡ at + (n - at) = omega arith in
    ap (λ (k : ℕ). take m (drop at (take k xs))) back ∙ ap (take m) (drop-take at (n - at) xs) ∙ take-take m (n - at) (drop at xs) (omega arith)

-- the row numbers, and what stands after them
rows_split : (numbers gap bytes : List ℕ) → take 128 bytes ≡ numbers ++ gap → bytes ≡ numbers ++ (gap ++ drop 128 bytes)
rows_split numbers gap bytes is =
    sym (take-append-drop 128 bytes) ∙ ap (λ (xs : List ℕ). xs ++ drop 128 bytes) is ∙ append_assoc numbers gap (drop 128 bytes)

-- what stands in a sector with the bytes of listed rows
listed_there : (sector rows masks : List ℕ) → length sector ≡ 512 → AreRows rows → length rows ≤ ENTRY_ROWS → length masks ≡ 32
    → take 464 (drop 40 sector) ≡ listed_bytes rows masks → HasListed sector rows masks
unfolding row_numbers
listed_there sector rows masks long are few masks_long is =
    let count = length rows in
    let numbers = flat_map (little_bytes 4) rows in
    let gap = zeros (128 - 4 * count) in
    let part = drop 40 sector in
    let rows_part : take 128 part ≡ numbers ++ gap =
    sym (take-take 128 464 part (omega arith)) ∙ ap (take 128) is ∙ numbers_in rows masks few in
    let masks_part : take 32 (drop 168 sector) ≡ masks =
    sym (part_of_part 464 128 32 part (omega arith) ∙ ap (take 32) (drop-drop 128 40 sector)) ∙ ap (λ (xs : List ℕ). take 32 (drop 128 xs)) is
    ∙ masks_in rows masks few masks_long in
    let rest_part : take 304 (drop 200 sector) ≡ zeros 304 =
    sym (part_of_part 464 160 304 part (omega arith) ∙ ap (take 304) (drop-drop 160 40 sector)) ∙ ap (λ (xs : List ℕ). take 304 (drop 160 xs)) is
    ∙ rest_in rows masks few masks_long in
    let split = rows_split numbers gap part rows_part in
    let past : take (128 - 4 * count) (drop (40 + 4 * count) sector) ≡ gap =
    ap (take (128 - 4 * count)) (sym (drop-drop (4 * count) 40 sector) ∙ ap (drop (4 * count)) split
    ∙ drop_at numbers (gap ++ drop 128 part) (4 * count) (length-numbers rows))
    ∙ take_at gap (drop 128 part) (128 - 4 * count) (length-zeros (128 - 4 * count)) in
    record {
      rows_are = λ i within.
          ap (little_number 4) (sym (drop-drop (4 * i) 40 sector) ∙ ap (drop (4 * i)) split) ∙ number_at rows (gap ++ drop 128 part) i are.each within;
      past_is = λ at least below. zero_at (40 + 4 * count) (128 - 4 * count) at sector past least (omega arith);
      masks_are = masks_part;
      rest_is = λ at least below. zero_at 200 304 at sector rest_part least (omega arith);
    }

-- and by the form
held_there : (form : Form) (sector : List ℕ) → length sector ≡ 512 → IsForm form → AreRows (rows_in form) → take 464 (drop 40 sector) ≡ held_bytes form
    → HasHeld sector form
unfolding held_bytes
held_there (Whole rows) sector long formed are is = listed_there sector rows.items (zeros 32) long are (formed.whole rows refl) (length-zeros 32) is
held_there (Held rows masks) sector long formed are is =
    let of = formed.held rows masks refl in listed_there sector rows.items masks long are of.0 of.1.long is
held_there (Runs runs) sector long formed are is = is

-- a seal's sector has each field in its place
pub has_fields : (seal : Seal) → length seal.id ≡ 16 → HasFields (seal_sector seal) seal
has_fields seal id_long =
    let sector = seal_sector seal in
    let most = seal.allowed.number_most in
    let long : length sector ≡ 512 = omega (arith, length-seal_sector seal) in
    let fields = fields_of seal.id seal.number seal.form sector long seal.formed refl in
    record {
      begins = fields.first_is;
      id_is = fields.id_is;
      number_is = number_first 8 (drop 24 sector) (omega (arith, length-drop 24 sector))
          ∙ number_back 8 seal.number (take 8 (drop 24 sector)) (omega arith) fields.number_is;
      count_is = number_first 4 (drop 32 sector) (omega (arith, length-drop 32 sector))
          ∙ number_back 4 (count_in seal.form) (take 4 (drop 32 sector)) (omega (arith, count_most seal.form seal.formed)) fields.count_is;
      gap_is = λ at least below. zero_at 36 4 at sector fields.gap_is least (omega arith);
      held_is = held_there seal.form sector long seal.formed seal.allowed.rows fields.held_is;
      ends = sym (take_all 8 (drop 504 sector) (omega (arith, length-drop 504 sector))) ∙ fields.last_is;
    }
