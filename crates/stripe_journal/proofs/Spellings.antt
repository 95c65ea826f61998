-- The spelling of a seal, field by field.
use Rattle.std.proofs.Common.{◌≡◌, ℕ, zero, suc, ◌+◌, ◌-◌, ◌*◌, ◌^◌, ◌<◌, ◌≤◌, List, [], ◌∷◌, ◌++◌, length, take, drop}
use Rattle.std.proofs.Common.{replicate, get_or, refl, sym, ap, ◌∙◌, arith, length-append, append_assoc}
use Rattle.std.proofs.lemmas.List.{append-nil, take_at, drop_at, drop_all, drop-replicate, length-replicate, length-take, length-take-le, get_or-take}
use Rattle.std.proofs.lemmas.List.{ext_get_or, take_all}
use borrow.Rule.Slice.PartMut.{put_mid}
use Rattle.arrayvec.specs.ArrayVec.{ArrayVec}
use Rattle.byteorder.specs.Endian.{little_bytes, little_number, IsRead}
use Rattle.byteorder.specs.Numbers.{length-bytes_low_first, little_number-reads_back}
use Rattle.std.specs.List.{flat_map}
use Rattle.sector_model.specs.declared.calls.TheConstants.{GREATEST_COUNT}
use Rattle.layout_map.specs.declared.sizes.TheConstants.{ENTRY_ROWS}
use Rattle.entry_runs.specs.declared.runs.Runs as of_runs
use Rattle.entry_runs.proofs.Bytes as runs
use Rattle.entry_runs.proofs.Bytes.{length-runs}
use Rattle.entry_runs.proofs.Same.{same_runs}
use Rattle.stripe_journal.specs.declared.form.Form.{Form}
use Rattle.stripe_journal.specs.declared.form.Form.TheVariants.{Held, Runs, Whole}
use Rattle.stripe_journal.specs.declared.seal.Seal.{Seal}
use Rattle.stripe_journal.specs.Forms.{IsForm, rows_in}
use Rattle.stripe_journal.specs.Seals.{AreRows, IsSeal}
use Rattle.stripe_journal.proofs.Seals.{same_seal}
use Rattle.stripe_journal.specs.Spelling.{count_in, first_mark, held_bytes, last_mark, listed_bytes, row_numbers, seal_bytes, seal_sector, zeros}

-- so many zeros
pub length-zeros : (n : ℕ) → length (zeros n) ≡ n
unfolding zeros
length-zeros n = length-replicate n 0

-- zeros after zeros
pub zeros-add : (m n : ℕ) → zeros (m + n) ≡ zeros m ++ zeros n
unfolding zeros
zeros-add zero n = ap (λ (k : ℕ). replicate k 0) (zero-add n)
  where
    zero-add : (n : ℕ) → 0 + n ≡ n
    zero-add n = omega arith
zeros-add (suc m) n = ap (λ (k : ℕ). replicate k 0) (suc-add m n) ∙ ap (λ (xs : List ℕ). 0 ∷ xs) (zeros-add m n)
  where
    suc-add : (m n : ℕ) → suc m + n ≡ suc (m + n)
    suc-add m n = omega arith

-- what is left of zeros
pub drop-zeros : (m n : ℕ) → drop m (zeros n) ≡ zeros (n - m)
unfolding zeros
drop-zeros m n = drop-replicate m n 0

-- so many bytes of which the first are written, and the rest are zeros
unfoldable pub started : (total : ℕ) → List ℕ → List ℕ
started total front = front ++ zeros (total - length front)

-- the next bytes are written
pub started_more : (total at n : ℕ) (front field sector : List ℕ) → length front ≡ at → length field ≡ n → at + n ≤ total → sector ≡ started total front
    → put_mid at n sector field ≡ started total (front ++ field)
unfolding started
started_more total at n front field sector front_long field_long within is =
    let front_is : take at sector ≡ front = ap (take at) is ∙ take_at front (zeros (total - length front)) at front_long in
    let rest_is : drop at sector ≡ zeros (total - length front) = ap (drop at) is ∙ drop_at front (zeros (total - length front)) at front_long in
    let left : drop n (drop at sector) ≡ zeros (total - length (front ++ field)) =
    ap (drop n) rest_is ∙ drop-zeros n (total - length front) ∙ ap zeros (omega (arith, length-append front field)) in
    ap (λ (xs : List ℕ). xs ++ (field ++ drop n (drop at sector))) front_is
    ∙ ap (λ (xs : List ℕ). front ++ (field ++ xs)) left
    ∙ sym (append_assoc front field (zeros (total - length (front ++ field))))

-- the next bytes are zeros
pub started_zeros : (total n : ℕ) (front : List ℕ) → length front + n ≤ total → started total front ≡ started total (front ++ zeros n)
unfolding started
started_zeros total n front within =
    ap (λ (k : ℕ). front ++ zeros k) (omega (arith, length-append front (zeros n), length-zeros n))
    ∙ ap (λ (xs : List ℕ). front ++ xs) (zeros-add n (total - length (front ++ zeros n)))
    ∙ sym (append_assoc front (zeros n) (zeros (total - length (front ++ zeros n))))

-- nothing is written
pub started_none : (total n : ℕ) → n ≡ total → replicate n 0 ≡ started total []
unfolding started zeros
started_none total n is = ap (λ (k : ℕ). replicate {A = ℕ} k 0) (is ∙ all total)
  where
    all : (n : ℕ) → n ≡ n - 0
    all n = omega arith

-- all is written
pub started_all : (total : ℕ) (front : List ℕ) → length front ≡ total → started total front ≡ front
unfolding started zeros
started_all total front long =
    let none : total - length front ≡ 0 = omega arith in
    ap (λ (k : ℕ). front ++ replicate k 0) none ∙ append-nil front

-- a number that was written over bytes of its own width
pub written : (n : ℕ) (bytes xs : List ℕ) → bytes ++ drop n (take n xs) ≡ bytes
written n bytes xs = ap (λ (ys : List ℕ). bytes ++ ys) (drop_all n (take n xs) (omega (arith, length-take n xs))) ∙ append-nil bytes

-- marks have eight bytes
pub length-first_mark : (form : Form) → length (first_mark form) ≡ 8
unfolding first_mark
length-first_mark (Whole rows) = refl
length-first_mark (Held rows masks) = refl
length-first_mark (Runs runs) = refl

pub length-last_mark : (form : Form) → length (last_mark form) ≡ 8
unfolding last_mark
length-last_mark (Whole rows) = refl
length-last_mark (Held rows masks) = refl
length-last_mark (Runs runs) = refl

-- the last byte of the mark at the start, a digit

pub whole_named : (rows : ArrayVec ℕ) → get_or (first_mark (Whole rows)) 7 0 ≡ 49
unfolding first_mark
whole_named rows = refl

pub held_named : (rows : ArrayVec ℕ) (masks : List ℕ) → get_or (first_mark (Held rows masks)) 7 0 ≡ 50
unfolding first_mark
held_named rows masks = refl

pub runs_named : (runs : of_runs.Runs) → get_or (first_mark (Runs runs)) 7 0 ≡ 51
unfolding first_mark
runs_named runs = refl

-- four bytes for each number
pub length-numbers : (rows : List ℕ) → length (flat_map (little_bytes 4) rows) ≡ 4 * length rows
length-numbers [] = refl
length-numbers (row ∷ rows) =
    let rest = length-numbers rows in
    omega (arith, length-append (little_bytes 4 row) (flat_map (little_bytes 4) rows))

-- the rows take 128 bytes
pub length-row_numbers : (rows : List ℕ) → length rows ≤ ENTRY_ROWS → length (row_numbers rows) ≡ 128
unfolding row_numbers
length-row_numbers rows few =
    omega (arith, length-append (flat_map (little_bytes 4) rows) (zeros (128 - 4 * length rows)), length-zeros (128 - 4 * length rows), length-numbers rows)

-- with masks and zeros 464
pub length-listed : (rows masks : List ℕ) → length rows ≤ ENTRY_ROWS → length masks ≡ 32 → length (listed_bytes rows masks) ≡ 464
unfolding listed_bytes
length-listed rows masks few long =
    omega (arith, length-append (row_numbers rows ++ masks) (zeros 304), length-append (row_numbers rows) masks, length-row_numbers rows few, length-zeros 304)

pub length-held : (form : Form) → IsForm form → length (held_bytes form) ≡ 464
unfolding held_bytes
length-held (Whole rows) formed = length-listed rows.items (zeros 32) (formed.whole rows refl) (length-zeros 32)
length-held (Held rows masks) formed = let of = formed.held rows masks refl in length-listed rows.items masks of.0 of.1.long
length-held (Runs runs) formed = length-runs runs.list.items runs.allowed.fit.few

-- a count fits four bytes
pub count_most : (form : Form) → IsForm form → count_in form < 2 ^ 32
count_most (Whole rows) formed = omega (arith, formed.whole rows refl)
count_most (Held rows masks) formed = omega (arith, (formed.held rows masks refl).0)
count_most (Runs runs) formed = omega (arith, runs.allowed.fit.few)

-- the bytes to which rows and masks are written
pub listed : (rows masks start numbers : List ℕ) (k : ℕ) → start ≡ started 464 [] → length rows ≤ ENTRY_ROWS → length masks ≡ 32
    → numbers ≡ flat_map (little_bytes 4) rows → k ≡ length numbers
    → put_mid 128 32 (put_mid 0 k start numbers) masks ≡ listed_bytes rows masks
unfolding listed_bytes row_numbers
listed rows masks start numbers k clear few long are k_is =
    let filler = 128 - 4 * length rows in
    let count : length numbers ≡ 4 * length rows = ap length are ∙ length-numbers rows in
    let with_rest = numbers ++ zeros filler in
    let with_masks = with_rest ++ masks in
    let long1 : length with_rest ≡ 128 = omega (arith, length-append numbers (zeros filler), length-zeros filler) in
    let long2 : length with_masks ≡ 160 = omega (arith, length-append with_rest masks) in
    let long3 : length (with_masks ++ zeros 304) ≡ 464 = omega (arith, length-append with_masks (zeros 304), length-zeros 304) in
    let at0 = started_more 464 0 k [] numbers start refl (sym k_is) (omega arith) clear ∙ started_zeros 464 filler numbers (omega arith) in
    let at1 = started_more 464 128 32 with_rest masks (put_mid 0 k start numbers) long1 long (omega arith) at0
    ∙ started_zeros 464 304 with_masks (omega arith) in
    at1 ∙ started_all 464 (with_masks ++ zeros 304) long3 ∙ ap (λ (xs : List ℕ). xs ++ zeros filler ++ masks ++ zeros 304) are

-- the bytes of a sector to which fields are written, one after the other
pub composed : (mark id number count held end start : List ℕ) → start ≡ started 512 [] → length mark ≡ 8 → length id ≡ 16 → length number ≡ 8
    → length count ≡ 4 → length held ≡ 464 → length end ≡ 8
    → put_mid 504 8 (put_mid 40 464 (put_mid 32 4 (put_mid 24 8 (put_mid 8 16 (put_mid 0 8 start mark) id) number) count) held) end
    ≡ mark ++ id ++ number ++ count ++ zeros 4 ++ held ++ end
composed mark id number count held end start clear mark_long id_long number_long count_long held_long end_long =
    let with_id = mark ++ id in
    let with_number = with_id ++ number in
    let with_count = with_number ++ count in
    let with_gap = with_count ++ zeros 4 in
    let with_held = with_gap ++ held in
    let long1 : length with_id ≡ 24 = omega (arith, length-append mark id) in
    let long2 : length with_number ≡ 32 = omega (arith, length-append with_id number) in
    let long3 : length with_count ≡ 36 = omega (arith, length-append with_number count) in
    let long4 : length with_gap ≡ 40 = omega (arith, length-append with_count (zeros 4), length-zeros 4) in
    let long5 : length with_held ≡ 504 = omega (arith, length-append with_gap held) in
    let long6 : length (with_held ++ end) ≡ 512 = omega (arith, length-append with_held end) in
    let at0 = started_more 512 0 8 [] mark start refl mark_long (omega arith) clear in
    let at1 = started_more 512 8 16 mark id (put_mid 0 8 start mark) mark_long id_long (omega arith) at0 in
    let at2 = started_more 512 24 8 with_id number (put_mid 8 16 (put_mid 0 8 start mark) id) long1 number_long (omega arith) at1 in
    let at3 = started_more 512 32 4 with_number count (put_mid 24 8 (put_mid 8 16 (put_mid 0 8 start mark) id) number) long2 count_long (omega arith) at2
    ∙ started_zeros 512 4 with_count (omega arith) in
    let at4 = started_more 512 40 464 with_gap held (put_mid 32 4 (put_mid 24 8 (put_mid 8 16 (put_mid 0 8 start mark) id) number) count) long4 held_long
    (omega arith) at3 in
    let at5 = started_more 512 504 8 with_held end
    (put_mid 40 464 (put_mid 32 4 (put_mid 24 8 (put_mid 8 16 (put_mid 0 8 start mark) id) number) count) held) long5 end_long (omega arith) at4 in
    at5 ∙ started_all 512 (with_held ++ end) long6 ∙ simp append_assoc

-- a sector to which the fields of a seal are written spells the seal
pub spelled : (id start m i n c h e : List ℕ) (number : ℕ) (form : Form) → start ≡ started 512 [] → length id ≡ 16 → IsForm form
    → m ≡ first_mark form → i ≡ id → n ≡ little_bytes 8 number → c ≡ little_bytes 4 (count_in form) → h ≡ held_bytes form → e ≡ last_mark form
    → put_mid 504 8 (put_mid 40 464 (put_mid 32 4 (put_mid 24 8 (put_mid 8 16 (put_mid 0 8 start m) i) n) c) h) e ≡ seal_bytes id number form
unfolding seal_bytes
spelled id start m i n c h e number form clear id_long formed m_is i_is n_is c_is h_is e_is =
    rw (m_is, i_is, e_is, h_is, n_is, c_is)
    (composed (first_mark form) id (little_bytes 8 number) (little_bytes 4 (count_in form)) (held_bytes form) (last_mark form) start clear
    (length-first_mark form) id_long (length-bytes_low_first 0 8 number) (length-bytes_low_first 0 4 (count_in form)) (length-held form formed)
    (length-last_mark form))

-- the bytes of a field
pub field_at : (at n : ℕ) (front field rest sector : List ℕ) → sector ≡ front ++ (field ++ rest) → length front ≡ at → length field ≡ n
    → take n (drop at sector) ≡ field
field_at at n front field rest sector is front_long field_long =
    ap (λ (xs : List ℕ). take n (drop at xs)) is ∙ ap (take n) (drop_at front (field ++ rest) at front_long) ∙ take_at field rest n field_long

-- what stands in a sector that spells a seal
pub record Fields (id : List ℕ) (number : ℕ) (form : Form) (sector : List ℕ) : Type 0 where
  pub first_is : take 8 (drop 0 sector) ≡ first_mark form
  pub id_is : take 16 (drop 8 sector) ≡ id
  pub number_is : take 8 (drop 24 sector) ≡ little_bytes 8 number
  pub count_is : take 4 (drop 32 sector) ≡ little_bytes 4 (count_in form)
  pub gap_is : take 4 (drop 36 sector) ≡ zeros 4
  pub held_is : take 464 (drop 40 sector) ≡ held_bytes form
  pub last_is : take 8 (drop 504 sector) ≡ last_mark form

-- the parts of a list of seven parts
record Parts (mark id number count gap held end sector : List ℕ) : Type 0 where
  pub part0 : take 8 (drop 0 sector) ≡ mark
  pub part1 : take 16 (drop 8 sector) ≡ id
  pub part2 : take 8 (drop 24 sector) ≡ number
  pub part3 : take 4 (drop 32 sector) ≡ count
  pub part4 : take 4 (drop 36 sector) ≡ gap
  pub part5 : take 464 (drop 40 sector) ≡ held
  pub part6 : take 8 (drop 504 sector) ≡ end

-- the fields stand one after the other
parts_of : (mark id number count gap held end sector : List ℕ) → length mark ≡ 8 → length id ≡ 16 → length number ≡ 8 → length count ≡ 4
    → length gap ≡ 4 → length held ≡ 464 → length end ≡ 8
    → sector ≡ mark ++ id ++ number ++ count ++ gap ++ held ++ end → Parts mark id number count gap held end sector
parts_of mark id number count gap held end sector mark_long id_long number_long count_long gap_long held_long end_long is =
    let long1 : length (mark ++ id) ≡ 24 = omega (arith, length-append mark id) in
    let long2 : length (mark ++ id ++ number) ≡ 32 = omega (arith, length-append (mark ++ id) number) in
    let long3 : length (mark ++ id ++ number ++ count) ≡ 36 = omega (arith, length-append (mark ++ id ++ number) count) in
    let long4 : length (mark ++ id ++ number ++ count ++ gap) ≡ 40 = omega (arith, length-append (mark ++ id ++ number ++ count) gap) in
    let long5 : length (mark ++ id ++ number ++ count ++ gap ++ held) ≡ 504 = omega (arith, length-append (mark ++ id ++ number ++ count ++ gap) held) in
    record {
      part0 = field_at 0 8 [] mark (id ++ number ++ count ++ gap ++ held ++ end) sector (is ∙ simp append_assoc) refl mark_long;
      part1 = field_at 8 16 mark id (number ++ count ++ gap ++ held ++ end) sector (is ∙ simp append_assoc) mark_long id_long;
      part2 = field_at 24 8 (mark ++ id) number (count ++ gap ++ held ++ end) sector (is ∙ simp append_assoc) long1 number_long;
      part3 = field_at 32 4 (mark ++ id ++ number) count (gap ++ held ++ end) sector (is ∙ simp append_assoc) long2 count_long;
      part4 = field_at 36 4 (mark ++ id ++ number ++ count) gap (held ++ end) sector (is ∙ simp append_assoc) long3 gap_long;
      part5 = field_at 40 464 (mark ++ id ++ number ++ count ++ gap) held end sector (is ∙ simp append_assoc) long4 held_long;
      part6 = field_at 504 8 (mark ++ id ++ number ++ count ++ gap ++ held) end [] sector (is ∙ sym (append-nil _) ∙ simp append_assoc) long5 end_long;
    }

-- a spelling is as long as its id, and 496 bytes more
pub length-seal_bytes : (id : List ℕ) (number : ℕ) (form : Form) → IsForm form → length (seal_bytes id number form) ≡ length id + 496
unfolding seal_bytes
length-seal_bytes id number form formed =
    by_fields (first_mark form) id (little_bytes 8 number) (little_bytes 4 (count_in form)) (zeros 4) (held_bytes form) (last_mark form)
    (length-first_mark form) (length-bytes_low_first 0 8 number) (length-bytes_low_first 0 4 (count_in form)) (length-zeros 4) (length-held form formed)
    (length-last_mark form)
  where
    by_fields : (a b c d g h e : List ℕ) → length a ≡ 8 → length c ≡ 8 → length d ≡ 4 → length g ≡ 4 → length h ≡ 464 → length e ≡ 8
        → length (a ++ b ++ c ++ d ++ g ++ h ++ e) ≡ length b + 496
    by_fields a b c d g h e la lc ld lg lh le = simp length-append (omega arith)

-- the spelling of a seal fills a sector
pub length-seal_sector : (seal : Seal) → length (seal_sector seal) ≡ length seal.id + 496
length-seal_sector seal = length-seal_bytes seal.id seal.number seal.form seal.formed

-- what is read of a sector that spells a seal
pub fields_of : (id : List ℕ) (number : ℕ) (form : Form) (sector : List ℕ) → length sector ≡ 512 → IsForm form → sector ≡ seal_bytes id number form
    → Fields id number form sector
unfolding seal_bytes
fields_of id number form sector long formed is =
    let id_long : length id ≡ 16 = omega (arith, length-seal_bytes id number form formed, ap length is) in
    let all = parts_of (first_mark form) id (little_bytes 8 number) (little_bytes 4 (count_in form)) (zeros 4) (held_bytes form) (last_mark form) sector
    (length-first_mark form) id_long (length-bytes_low_first 0 8 number) (length-bytes_low_first 0 4 (count_in form)) (length-zeros 4) (length-held form formed)
    (length-last_mark form) is in
    record {
      first_is = all.part0;
      id_is = all.part1;
      number_is = all.part2;
      count_is = all.part3;
      gap_is = all.part4;
      held_is = all.part5;
      last_is = all.part6;
    }

-- a number is read back
pub number_back : (n number : ℕ) (bytes : List ℕ) → number < 256 ^ n → bytes ≡ little_bytes n number → little_number n bytes ≡ number
number_back n number bytes fits is =
    ap (little_number n) (is ∙ sym (append-nil (little_bytes n number))) ∙ little_number-reads_back n number [] fits

-- the number of a row stands four bytes on for each row before it
pub number_at : (rows rest : List ℕ) (i : ℕ) → ((k : ℕ) → k < length rows → get_or rows k 0 < 2 ^ 32) → i < length rows
    → little_number 4 (drop (4 * i) (flat_map (little_bytes 4) rows ++ rest)) ≡ get_or rows i 0
number_at [] rest i fits within = absurd (omega arith)
number_at (row ∷ rows) rest zero fits within = little_number-reads_back 4 row (flat_map (little_bytes 4) rows ++ rest) (fits 0 (omega arith))
number_at (row ∷ rows) rest (suc i) fits within =
    ap (λ (k : ℕ). little_number 4 (drop k (flat_map (little_bytes 4) (row ∷ rows) ++ rest))) (four_on i)
    ∙ number_at rows rest i (λ k below. fits (suc k) (omega arith)) (omega arith)
  where
    four_on : (i : ℕ) → 4 * suc i ≡ suc (suc (suc (suc (4 * i))))
    four_on i = omega arith

-- what a form is read from: its mark's digit, its count and the bytes of what is held
pub record ReadBack (form : Form) (sector : List ℕ) : Type 0 where
  pub digit : get_or sector 7 0 ≡ get_or (first_mark form) 7 0
  pub count : little_number 4 (take 4 (drop 32 sector)) ≡ count_in form
  pub held : take 464 (drop 40 sector) ≡ held_bytes form

-- the parts of listed rows

pub numbers_in : (rows masks : List ℕ) → length rows ≤ ENTRY_ROWS → take 128 (listed_bytes rows masks) ≡ row_numbers rows
unfolding listed_bytes
numbers_in rows masks few =
    ap (take 128) (append_assoc (row_numbers rows) masks (zeros 304)) ∙ take_at (row_numbers rows) (masks ++ zeros 304) 128 (length-row_numbers rows few)

pub masks_in : (rows masks : List ℕ) → length rows ≤ ENTRY_ROWS → length masks ≡ 32 → take 32 (drop 128 (listed_bytes rows masks)) ≡ masks
unfolding listed_bytes
masks_in rows masks few long =
    ap (λ (xs : List ℕ). take 32 (drop 128 xs)) (append_assoc (row_numbers rows) masks (zeros 304))
    ∙ ap (take 32) (drop_at (row_numbers rows) (masks ++ zeros 304) 128 (length-row_numbers rows few)) ∙ take_at masks (zeros 304) 32 long

pub rest_in : (rows masks : List ℕ) → length rows ≤ ENTRY_ROWS → length masks ≡ 32 → take 304 (drop 160 (listed_bytes rows masks)) ≡ zeros 304
unfolding listed_bytes
rest_in rows masks few long =
    let front : length (row_numbers rows ++ masks) ≡ 160 = omega (arith, length-append (row_numbers rows) masks, length-row_numbers rows few) in
    ap (take 304) (drop_at (row_numbers rows ++ masks) (zeros 304) 160 front) ∙ take_all 304 (zeros 304) (omega (arith, length-zeros 304))

-- the rows are read back: of 32 numbers those that the count says
pub rows_back : (rows masks held numbers : List ℕ) (count : ℕ) → AreRows rows → length rows ≤ ENTRY_ROWS → count ≡ length rows
    → held ≡ listed_bytes rows masks → length numbers ≡ ENTRY_ROWS → IsRead little_number 4 (take 128 held) numbers → take count numbers ≡ rows
unfolding row_numbers
rows_back rows masks held numbers count are few counted is numbers_long read =
    let taken : length (take count numbers) ≡ count = length-take-le count numbers (omega arith) in
    ext_get_or 0 (take count numbers) rows (taken ∙ counted) (λ i within.
    get_or-take count numbers i 0 (omega arith)
    ∙ read i (omega arith)
    ∙ ap (λ (xs : List ℕ). little_number 4 (drop (4 * i) xs)) (ap (take 128) is ∙ numbers_in rows masks few)
    ∙ number_at rows (zeros (128 - 4 * length rows)) i are.each (omega arith))

-- the number is read back
pub entry_back : (id : List ℕ) (number : ℕ) (form : Form) (sector : List ℕ) → number ≤ GREATEST_COUNT → IsForm form → length sector ≡ 512
    → sector ≡ seal_bytes id number form → little_number 8 (take 8 (drop 24 sector)) ≡ number
entry_back id number form sector most formed long is =
    number_back 8 number (take 8 (drop 24 sector)) (omega arith) (fields_of id number form sector long formed is).number_is

-- and so is the form
pub form_back : (id : List ℕ) (number : ℕ) (form : Form) (sector : List ℕ) → IsForm form → length sector ≡ 512 → sector ≡ seal_bytes id number form
    → ReadBack form sector
form_back id number form sector formed long is =
    let fields = fields_of id number form sector long formed is in
    record {
      digit = sym (get_or-take 8 sector 7 0 (omega arith)) ∙ ap (λ (xs : List ℕ). get_or xs 7 0) fields.first_is;
      count = number_back 4 (count_in form) (take 4 (drop 32 sector)) (omega (arith, count_most form formed)) fields.count_is;
      held = fields.held_is;
    }

-- bytes spell the held parts of one form with one digit and one count

same_rows : (rows rows' masks masks' : List ℕ) → AreRows rows → AreRows rows' → length rows ≤ ENTRY_ROWS → length rows ≡ length rows'
    → listed_bytes rows masks ≡ listed_bytes rows' masks' → rows ≡ rows'
unfolding row_numbers
same_rows rows rows' masks masks' are are' few count same =
    ext_get_or 0 rows rows' count (λ i within.
    sym (number_at rows (zeros (128 - 4 * length rows)) i are.each within)
    ∙ ap (λ (xs : List ℕ). little_number 4 (drop (4 * i) xs)) (sym (numbers_in rows masks few) ∙ ap (take 128) same ∙ numbers_in rows' masks' (omega arith))
    ∙ number_at rows' (zeros (128 - 4 * length rows')) i are'.each (omega arith))

same_masks : (rows rows' masks masks' : List ℕ) → length rows ≤ ENTRY_ROWS → length rows' ≤ ENTRY_ROWS → length masks ≡ 32 → length masks' ≡ 32
    → listed_bytes rows masks ≡ listed_bytes rows' masks' → masks ≡ masks'
same_masks rows rows' masks masks' few few' long long' same =
    sym (masks_in rows masks few long) ∙ ap (λ (xs : List ℕ). take 32 (drop 128 xs)) same ∙ masks_in rows' masks' few' long'

abbrev vec_of : List ℕ → ArrayVec ℕ
vec_of items = record { items = items }

pub one_form : (one other : Form) → IsForm one → IsForm other → AreRows (rows_in one) → AreRows (rows_in other)
    → get_or (first_mark one) 7 0 ≡ get_or (first_mark other) 7 0 → count_in one ≡ count_in other → held_bytes one ≡ held_bytes other → one ≡ other
unfolding first_mark held_bytes
one_form (Whole rows) (Whole rows') formed formed' are are' digit count held =
    ap (λ (l : List ℕ). Whole (vec_of l)) (same_rows rows.items rows'.items (zeros 32) (zeros 32) are are' (formed.whole rows refl) count held)
one_form (Held rows masks) (Held rows' masks') formed formed' are are' digit count held =
    let of = formed.held rows masks refl in
    let of' = formed'.held rows' masks' refl in
    ap (λ (l : List ℕ). Held (vec_of l) masks) (same_rows rows.items rows'.items masks masks' are are' of.0 count held)
    ∙ ap (Held rows') (same_masks rows.items rows'.items masks masks' of.0 of'.0 of.1.long of'.1.long held)
one_form (Runs one) (Runs other) formed formed' are are' digit count held =
    ap Runs (same_runs one other (runs.one_spelled one.list.items other.list.items one.allowed other.allowed held count))
one_form (Whole rows) (Held rows' masks') formed formed' are are' digit count held = absurd (omega (arith, digit))
one_form (Whole rows) (Runs runs') formed formed' are are' digit count held = absurd (omega (arith, digit))
one_form (Held rows masks) (Whole rows') formed formed' are are' digit count held = absurd (omega (arith, digit))
one_form (Held rows masks) (Runs runs') formed formed' are are' digit count held = absurd (omega (arith, digit))
one_form (Runs runs) (Whole rows') formed formed' are are' digit count held = absurd (omega (arith, digit))
one_form (Runs runs) (Held rows' masks') formed formed' are are' digit count held = absurd (omega (arith, digit))

-- what a sector says is read of it alone
pub record Says (id : List ℕ) (number : ℕ) (form : Form) (sector : List ℕ) : Type 0 where
  pub id_is : id ≡ take 16 (drop 8 sector)
  pub number_is : number ≡ little_number 8 (take 8 (drop 24 sector))
  pub form_is : (other : Form) → IsForm other → AreRows (rows_in other) → ReadBack other sector → form ≡ other

pub sector_says : (id : List ℕ) (number : ℕ) (form : Form) (sector : List ℕ) → IsSeal number (rows_in form) → IsForm form → length sector ≡ 512
    → sector ≡ seal_bytes id number form → Says id number form sector
sector_says id number form sector allowed formed long is =
    let own = form_back id number form sector formed long is in
    record {
      id_is = sym (fields_of id number form sector long formed is).id_is;
      number_is = sym (entry_back id number form sector allowed.number_most formed long is);
      form_is = λ other formed' are read.
          one_form form other formed formed' allowed.rows are (sym own.digit ∙ read.digit) (sym own.count ∙ read.count) (sym own.held ∙ read.held);
    }

-- a sector spells one seal at most
pub one_spelled : (sector : List ℕ) (first second : Seal) → length sector ≡ 512 → sector ≡ seal_sector first → sector ≡ seal_sector second → first ≡ second
one_spelled sector first second long is_first is_second =
    let one = sector_says first.id first.number first.form sector first.allowed first.formed long is_first in
    let other = sector_says second.id second.number second.form sector second.allowed second.formed long is_second in
    same_seal first second (one.id_is ∙ sym other.id_is) (one.number_is ∙ sym other.number_is)
    (one.form_is second.form second.formed second.allowed.rows (form_back second.id second.number second.form sector second.formed long is_second))

-- a spelling begins with the mark's first byte

bytes_begin : (form : Form) (id : List ℕ) (number : ℕ) → get_or (seal_bytes id number form) 0 0 ≡ 82
unfolding seal_bytes first_mark
bytes_begin (Whole own) id number = refl
bytes_begin (Held own masks) id number = refl
bytes_begin (Runs runs) id number = refl

pub seal_begins : (seal : Seal) → get_or (seal_sector seal) 0 0 ≡ 82
seal_begins seal = bytes_begin seal.form seal.id seal.number
