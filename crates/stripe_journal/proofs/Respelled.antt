-- A sector with each field of a seal in its place is the seal's spelling.
use Rattle.std.proofs.Common.{◌≡◌, ℕ, suc, ◌+◌, ◌-◌, ◌*◌, ◌<◌, ◌≤◌, List, [], ◌∷◌, ◌++◌, length, take, drop, get_or, inl, inr, refl, sym, ap, ◌∙◌, arith}
use Rattle.std.proofs.Common.{append_assoc}
use Rattle.std.specs.Int.{w32, w64, from_le_bytes}
use Rattle.std.specs.List.{flat_map}
use Rattle.std.proofs.lemmas.Bool.{cases_lt}
use Rattle.std.proofs.lemmas.List.{drop-drop, ext_get_or, get_or-drop, get_or-replicate, get_or-take, get_or_past, length-drop, length-replicate, length-take}
use Rattle.std.proofs.lemmas.List.{length-take-le, take-append-drop}
use Rattle.std.proofs.lemmas.Nat.{le_bytes_4, le_bytes_8}
use Rattle.byteorder.specs.Endian.{little_bytes, little_number}
use Rattle.layout_map.specs.declared.sizes.TheConstants.{ENTRY_ROWS}
use Rattle.stripe_journal.specs.declared.form.Form.{Form}
use Rattle.stripe_journal.specs.declared.form.Form.TheVariants.{Held, Runs, Whole}
use Rattle.stripe_journal.specs.declared.seal.Seal.{Seal}
use Rattle.stripe_journal.specs.Forms.{IsForm}
use Rattle.stripe_journal.specs.Law.{HasFields, HasHeld, HasListed}
use Rattle.stripe_journal.specs.Spelling.{count_in, first_mark, held_bytes, last_mark, listed_bytes, row_numbers, seal_bytes, seal_sector, zeros}
use Rattle.stripe_journal.proofs.Offsets.{number_first}

-- bytes of a part are bytes
part_bytes : (n at : ℕ) (xs : List ℕ) → ((k : ℕ) → get_or xs k 0 < 256) → (k : ℕ) → get_or (take n (drop at xs)) k 0 < 256
part_bytes n at xs bytes k = elim (cases_lt k n) [
  | inl within ↦ omega (arith, get_or-take n (drop at xs) k 0 within, get_or-drop at xs k 0, bytes (at + k))
  | inr past ↦ omega (arith, get_or_past (take n (drop at xs)) k 0 (omega (arith, length-take n (drop at xs))))
]

-- four bytes spell the number that is read of them
four_again : (bytes : List ℕ) (n : ℕ) → length bytes ≡ 4 → ((k : ℕ) → get_or bytes k 0 < 256) → little_number 4 bytes ≡ n → bytes ≡ little_bytes 4 n
four_again bytes n long each is =
    let read : n ≡ from_le_bytes w32 bytes = sym is ∙ omega arith in
    sym (le_bytes_4 bytes n long each read)

-- and eight bytes do
eight_again : (bytes : List ℕ) (n : ℕ) → length bytes ≡ 8 → ((k : ℕ) → get_or bytes k 0 < 256) → little_number 8 bytes ≡ n → bytes ≡ little_bytes 8 n
eight_again bytes n long each is =
    let read : n ≡ from_le_bytes w64 bytes = sym is ∙ omega arith in
    sym (le_bytes_8 bytes n long each read)

-- bytes that are 0 are zeros
zeros_again : (n : ℕ) (bytes : List ℕ) → length bytes ≡ n → ((k : ℕ) → k < n → get_or bytes k 0 ≡ 0) → bytes ≡ zeros n
unfolding zeros
zeros_again n bytes long each =
    ext_get_or 0 bytes _ (long ∙ sym (length-replicate n 0)) (λ k within. each k (omega arith) ∙ sym (get_or-replicate n k 0 0 (omega arith)))

-- the next bytes, and the rest
cut : (at n : ℕ) (xs : List ℕ) → drop at xs ≡ take n (drop at xs) ++ drop (at + n) xs
cut at n xs = sym (take-append-drop n (drop at xs)) ∙ ap (λ (ys : List ℕ). take n (drop at xs) ++ ys) (drop-drop n at xs)

-- four bytes for each row are the rows' spelling
rows_again : (rows : List ℕ) (at : ℕ) (sector : List ℕ) → at + 4 * length rows ≤ length sector → ((k : ℕ) → get_or sector k 0 < 256)
    → ((i : ℕ) → i < length rows → little_number 4 (drop (at + 4 * i) sector) ≡ get_or rows i 0) → drop at sector ≡ flat_map (little_bytes 4) rows
    ++ drop (at + 4 * length rows) sector
rows_again [] at sector long bytes each = ap (λ (k : ℕ). drop k sector) (none at)
  where
    none : (at : ℕ) → at ≡ at + 4 * 0
    none at = omega arith
rows_again (row ∷ rows) at sector long bytes each =
    let piece = take 4 (drop at sector) in
    let there : 4 ≤ length (drop at sector) = omega (arith, length-drop at sector) in
    let first : little_number 4 piece ≡ row = sym (number_first 4 (drop at sector) there) ∙ ap (λ (k : ℕ). little_number 4 (drop k sector)) (none at)
    ∙ each 0 (omega arith) in
    let spelled : piece ≡ little_bytes 4 row = four_again piece row (length-take-le 4 (drop at sector) there) (part_bytes 4 at sector bytes) first in
    let rest = rows_again rows (at + 4) sector (omega arith) bytes (λ i within. ap (λ (k : ℕ). little_number 4 (drop k sector)) (on at i)
    ∙ each (suc i) (omega arith)) in
    cut at 4 sector
    ∙ ap (λ (xs : List ℕ). xs ++ drop (at + 4) sector) spelled
    ∙ ap (λ (xs : List ℕ). little_bytes 4 row ++ xs) rest
    ∙ sym (append_assoc (little_bytes 4 row) (flat_map (little_bytes 4) rows) (drop (at + 4 + 4 * length rows) sector))
    ∙ ap (λ (k : ℕ). flat_map (little_bytes 4) (row ∷ rows) ++ drop k sector) (past at rows)
  where
    none : (at : ℕ) → at ≡ at + 4 * 0
    none at = omega arith

    on : (at i : ℕ) → at + 4 + 4 * i ≡ at + 4 * suc i
    on at i = omega arith

    past : (at : ℕ) (rows : List ℕ) → at + 4 + 4 * length rows ≡ at + 4 * suc (length rows)
    past at rows = omega arith

-- the bytes of listed rows that have each of them in its place
listed_again : (sector rows masks : List ℕ) → length sector ≡ 512 → ((k : ℕ) → get_or sector k 0 < 256) → length rows ≤ ENTRY_ROWS
    → HasListed sector rows masks → drop 40 sector ≡ listed_bytes rows masks ++ drop 504 sector
unfolding listed_bytes row_numbers
listed_again sector rows masks long bytes few listed =
    let past = 40 + 4 * length rows in
    let filler = 128 - 4 * length rows in
    let past_part = take filler (drop past sector) in
    let rest_part = take 304 (drop 200 sector) in
    let past_long : filler ≤ length (drop past sector) = omega (arith, length-drop past sector) in
    let rest_long : 304 ≤ length (drop 200 sector) = omega (arith, length-drop 200 sector) in
    let past_is : past_part ≡ zeros filler =
    zeros_again filler past_part (length-take-le filler (drop past sector) past_long)
    (λ k within. get_or-take filler (drop past sector) k 0 within ∙ get_or-drop past sector k 0 ∙ listed.past_is (past + k) (omega arith) (omega arith)) in
    let rest_is : rest_part ≡ zeros 304 =
    zeros_again 304 rest_part (length-take-le 304 (drop 200 sector) rest_long)
    (λ k within. get_or-take 304 (drop 200 sector) k 0 within ∙ get_or-drop 200 sector k 0 ∙ listed.rest_is (200 + k) (omega arith) (omega arith)) in
    let end : past + filler ≡ 168 = omega arith in
    rows_again rows 40 sector (omega arith) bytes listed.rows_are
    ∙ ap (λ (xs : List ℕ). flat_map (little_bytes 4) rows ++ xs)
    (cut past filler sector ∙ ap (λ (k : ℕ). past_part ++ drop k sector) end ∙ ap (λ (xs : List ℕ). xs ++ drop 168 sector) past_is
    ∙ ap (λ (xs : List ℕ). zeros filler ++ xs)
    (cut 168 32 sector ∙ ap (λ (xs : List ℕ). xs ++ drop 200 sector) listed.masks_are
    ∙ ap (λ (xs : List ℕ). masks ++ xs) (cut 200 304 sector ∙ ap (λ (xs : List ℕ). xs ++ drop 504 sector) rest_is)))
    ∙ simp append_assoc

held_again : (form : Form) (sector : List ℕ) → length sector ≡ 512 → ((k : ℕ) → get_or sector k 0 < 256) → IsForm form → HasHeld sector form
    → drop 40 sector ≡ held_bytes form ++ drop 504 sector
unfolding held_bytes
held_again (Whole rows) sector long bytes formed held = listed_again sector rows.items (zeros 32) long bytes (formed.whole rows refl) held
held_again (Held rows masks) sector long bytes formed held = listed_again sector rows.items masks long bytes (formed.held rows masks refl).0 held
held_again (Runs runs) sector long bytes formed held = cut 40 464 sector ∙ ap (λ (xs : List ℕ). xs ++ drop 504 sector) held

-- seven parts, one after the other
joined : (sector mark id number count gap held end : List ℕ) → sector ≡ mark ++ drop 8 sector → drop 8 sector ≡ id ++ drop 24 sector
    → drop 24 sector ≡ number ++ drop 32 sector → drop 32 sector ≡ count ++ drop 36 sector → drop 36 sector ≡ gap ++ drop 40 sector
    → drop 40 sector ≡ held ++ drop 504 sector → drop 504 sector ≡ end
    → sector ≡ mark ++ id ++ number ++ count ++ gap ++ held ++ end
joined sector mark id number count gap held end p0 p1 p2 p3 p4 p5 p6 =
    p0
    ∙ ap (λ (xs : List ℕ). mark ++ xs) (p1
    ∙ ap (λ (xs : List ℕ). id ++ xs) (p2
    ∙ ap (λ (xs : List ℕ). number ++ xs) (p3
    ∙ ap (λ (xs : List ℕ). count ++ xs) (p4
    ∙ ap (λ (xs : List ℕ). gap ++ xs) (p5
    ∙ ap (λ (xs : List ℕ). held ++ xs) p6)))))
    ∙ simp append_assoc

-- a sector with each field of a seal in its place is the seal's spelling
pub respelled : (sector : List ℕ) (seal : Seal) → length sector ≡ 512 → ((k : ℕ) → get_or sector k 0 < 256) → HasFields sector seal → sector ≡ seal_sector seal
unfolding seal_bytes
respelled sector seal long bytes fields =
    let number_part = take 8 (drop 24 sector) in
    let count_part = take 4 (drop 32 sector) in
    let gap_part = take 4 (drop 36 sector) in
    let number_long : 8 ≤ length (drop 24 sector) = omega (arith, length-drop 24 sector) in
    let count_long : 4 ≤ length (drop 32 sector) = omega (arith, length-drop 32 sector) in
    let gap_long : 4 ≤ length (drop 36 sector) = omega (arith, length-drop 36 sector) in
    let number_is : number_part ≡ little_bytes 8 seal.number =
    eight_again number_part seal.number (length-take-le 8 (drop 24 sector) number_long) (part_bytes 8 24 sector bytes)
    (sym (number_first 8 (drop 24 sector) number_long) ∙ fields.number_is) in
    let count_is : count_part ≡ little_bytes 4 (count_in seal.form) =
    four_again count_part (count_in seal.form) (length-take-le 4 (drop 32 sector) count_long) (part_bytes 4 32 sector bytes)
    (sym (number_first 4 (drop 32 sector) count_long) ∙ fields.count_is) in
    let gap_is : gap_part ≡ zeros 4 =
    zeros_again 4 gap_part (length-take-le 4 (drop 36 sector) gap_long) (λ k within. get_or-take 4 (drop 36 sector) k 0 within ∙ get_or-drop 36 sector k 0
    ∙ fields.gap_is (36 + k) (omega arith) (omega arith)) in
    joined sector (first_mark seal.form) seal.id (little_bytes 8 seal.number) (little_bytes 4 (count_in seal.form)) (zeros 4) (held_bytes seal.form)
    (last_mark seal.form)
    (cut 0 8 sector ∙ ap (λ (xs : List ℕ). xs ++ drop 8 sector) fields.begins)
    (cut 8 16 sector ∙ ap (λ (xs : List ℕ). xs ++ drop 24 sector) fields.id_is)
    (cut 24 8 sector ∙ ap (λ (xs : List ℕ). xs ++ drop 32 sector) number_is)
    (cut 32 4 sector ∙ ap (λ (xs : List ℕ). xs ++ drop 36 sector) count_is)
    (cut 36 4 sector ∙ ap (λ (xs : List ℕ). xs ++ drop 40 sector) gap_is)
    (held_again seal.form sector long bytes seal.formed fields.held_is)
    fields.ends
