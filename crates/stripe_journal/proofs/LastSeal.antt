-- Every journal has a last seal, or none.
use Rattle.std.proofs.Common.{◌≡◌, ◌⊎◌, inl, inr, ℕ, ◌+◌, ◌%◌, ◌<◌, ◌≤◌, true, false, List, length, take, drop, get_or}
use Rattle.std.proofs.Common.{Option, Some, None, refl, sym, ◌∙◌, ap, subst, arith}
use Rattle.std.specs.Prelude.{IfSome, IsNone}
use Rattle.std.proofs.lemmas.Bool.{cases_Bool, cases_eq, cases_lt, false≢true}
use Rattle.sector_model.specs.declared.calls.TheConstants.{GREATEST_COUNT}
use Rattle.entry_runs.specs.Body.{has_bit}
use Rattle.entry_runs.specs.declared.runs.Runs as of_runs
use Rattle.entry_runs.specs.WrittenOut.{masks_of_runs, rows_of_runs}
use Rattle.entry_runs.proofs.Bits.{bit_low}
use Rattle.entry_runs.proofs.Lookups.{fit_rise, run_among}
use Rattle.entry_runs.proofs.Rows.{mask_of_row}
use Rattle.layout_map.specs.declared.sizes.TheConstants.{FIRST_SEAL, HALVES, MOST_MEMBERS}
use Rattle.byteorder.specs.Endian.{little_number}
use Rattle.layout_map.specs.declared.geometry.Geometry.{Geometry}
use Rattle.layout_map.specs.Placement.{IsParityOf, rows_of}
use Rattle.layout_map.proofs.Places.{parity_is_at, parity_is_there, parity_member_of}
use Rattle.sector_model.specs.History.{Bytes, disk_of, sector_of}
use Rattle.stripe_journal.specs.declared.seal.Seal.{Seal}
use Rattle.stripe_journal.specs.LastEntry.{Counts, CountsNone, IsLastSealed, later_of}
use Rattle.stripe_journal.specs.declared.form.Form.{Form}
use Rattle.stripe_journal.specs.declared.form.Form.TheVariants.{Held, Runs, Whole}
use Rattle.stripe_journal.specs.Forms.{HoldsRow, IsForm, format_of, holds, mask_at, rows_in}
use Rattle.stripe_journal.specs.LastSealed.{AreBelow, RowsHold}
use Rattle.stripe_journal.specs.Seals.{row_at}
use Rattle.stripe_journal.specs.Spelling.{seal_bytes}
use Rattle.stripe_journal.proofs.CountedSeals.{CountedAt, last_is}
use Rattle.stripe_journal.proofs.Decisions.{all_below, as_decided, both_or_not, each_or_not, format_or_not, most_or_not, same_bytes}
use Rattle.stripe_journal.proofs.RunRows.{all_fit, fits_alike, holds_masked, holds_zeros}
use Rattle.stripe_journal.proofs.SpelledForms.{IsSpelled, spells_or_not}
use Rattle.stripe_journal.proofs.Spellings.{form_back, length-seal_sector, one_form, sector_says}

-- the rows of an entry hold what a set may hold, or not

of_set_or_not : (members mask m : ℕ) → (has_bit mask m ≡ true → m < members) ⊎ ¬ (has_bit mask m ≡ true → m < members)
of_set_or_not members mask m = elim (cases_lt m members) [
  | inl below ↦ inl (λ _. below)
  | inr above ↦ elim (cases_Bool (has_bit mask m)) [
    | inr lacking ↦ inl (λ is. absurd (false≢true (sym lacking ∙ is)))
    | inl is ↦ inr (λ all. omega (arith, above, all is))
  ]
]

mask_or_not : (geometry : Geometry) (row mask : ℕ) → mask < 256 → HoldsRow geometry row (has_bit mask) ⊎ ¬ HoldsRow geometry row (has_bit mask)
mask_or_not geometry row mask byte =
    let parity = parity_member_of geometry.members geometry.chunk row in
    let is_parity : IsParityOf geometry.members geometry.chunk row parity = parity_is_there row geometry.limits in
    elim (cases_Bool (has_bit mask parity)) [
      | inr lacking ↦ inr (λ is. false≢true (sym lacking ∙ is.has_parity parity is_parity))
      | inl held ↦ elim (each_or_not (λ m. has_bit mask m ≡ true → m < geometry.members) (of_set_or_not geometry.members mask) MOST_MEMBERS) [
        | inr not_all ↦ inr (λ is. not_all (λ m within. is.of_set m))
        | inl all ↦ inl (record {
          of_set = λ m is. all m (bit_low mask m byte is) is;
          has_parity = λ m one. ap (has_bit mask) (parity_is_at geometry.limits one) ∙ held;
        })
      ]
    ]

-- a row of runs is one of zeros, or its mask decides
run_row_or_not : (geometry : Geometry) (runs : of_runs.Runs) (i : ℕ) → i < length (rows_of_runs runs.list.items)
    → HoldsRow geometry (row_at (rows_of_runs runs.list.items) i) (holds geometry.members (Runs runs) i)
    ⊎ ¬ HoldsRow geometry (row_at (rows_of_runs runs.list.items) i) (holds geometry.members (Runs runs) i)
run_row_or_not geometry runs i within =
    let list = runs.list.items in
    let row = row_at (rows_of_runs list) i in
    let mask = mask_at (masks_of_runs list) i in
    let held = holds geometry.members (Runs runs) i in
    elim (cases_eq mask 0) [
      | inl none ↦ inl (fits_alike geometry row _ held (holds_zeros geometry.members runs i none) (all_fit geometry row))
      | inr some ↦
          let found = mask_of_row list i (fit_rise list runs.allowed.fit) within in
          let among = run_among list row found.0 found.1 in
          let byte : mask < 256 =
          omega (arith, (runs.allowed.fit.each among.0 among.1).mask_most, ap (λ r. r.mask) among.2, found.2) in
          let same = holds_masked geometry.members runs i mask refl some in
          as_decided (HoldsRow geometry row (has_bit mask)) (HoldsRow geometry row held)
          (fits_alike geometry row (has_bit mask) held same, fits_alike geometry row held (has_bit mask) (λ m. sym (same m)))
          (mask_or_not geometry row mask byte)
    ]

-- each number below n has a property that can be decided there, or not each has
within_or_not : (P : ℕ → Type 0) (n : ℕ) → ((k : ℕ) → k < n → P k ⊎ ¬ P k) → ((k : ℕ) → k < n → P k) ⊎ ¬ ((k : ℕ) → k < n → P k)
within_or_not P n decide =
    as_decided ((k : ℕ) → k < n → k < n → P k) ((k : ℕ) → k < n → P k) ((λ all k within. all k within within), (λ all k within _. all k within))
    (each_or_not (λ k. k < n → P k) (λ k. elim (cases_lt k n) [
      | inl within ↦ as_decided (P k) (k < n → P k) ((λ is _. is), (λ is. is within)) (decide k within)
      | inr beyond ↦ inl (λ within. absurd (omega (arith, within, beyond)))
    ]) n)

rows_or_not : (geometry : Geometry) (form : Form) → IsForm form → RowsHold geometry form (rows_in form) ⊎ ¬ RowsHold geometry form (rows_in form)
rows_or_not geometry (Whole own) formed = inl (λ i within. all_fit geometry (row_at own.items i))
rows_or_not geometry (Held own masks) formed =
    each_or_not (λ i. HoldsRow geometry (row_at own.items i) (has_bit (mask_at masks i)))
    (λ i. mask_or_not geometry (row_at own.items i) (mask_at masks i) ((formed.held own masks refl).1.bytes i)) (length own.items)
rows_or_not geometry (Runs runs) formed =
    within_or_not (λ i. HoldsRow geometry (row_at (rows_of_runs runs.list.items) i) (holds geometry.members (Runs runs) i))
    (length (rows_of_runs runs.list.items)) (run_row_or_not geometry runs)

-- What counts in a place of a journal is read of the sector that stands there.
module _ (id : List ℕ) (geometry : Geometry) (place : ℕ) (content : Option (List Bytes)) (long : length id ≡ 16) where
  sector : Bytes
  sector = sector_of (disk_of content) (FIRST_SEAL + place)

  -- what the sector says, if it is a seal's
  number : ℕ
  number = little_number 8 (take 8 (drop 24 sector))

  abbrev IsSpelledThere : Form → Type 0
  IsSpelledThere form = IsSpelled (get_or sector 7 0) (little_number 4 (take 4 (drop 32 sector))) (take 464 (drop 40 sector)) form

  full : (seal : Seal) → Counts id geometry content place seal → length sector ≡ 512
  unfolding sector
  full seal counts = omega (arith, ap length counts.stands, length-seal_sector seal, ap length counts.belongs.of_set, long)

  -- the form of a seal that counts there is spelled there
  spelled_there : (seal : Seal) → Counts id geometry content place seal → IsSpelledThere seal.form
  unfolding sector
  spelled_there seal counts =
      let back = form_back seal.id seal.number seal.form sector seal.formed (full seal counts) counts.stands in
      record { formed = seal.formed; rows = seal.allowed.rows; digit_is = back.digit; count_is = back.count; held_is = back.held }

  -- a seal of this form counts there
  abbrev CountsAs : Form → Type 0
  CountsAs form = (1 ≤ number) × ((number ≤ GREATEST_COUNT) × ((number % HALVES ≡ place) × ((format_of form ≡ geometry.format)
      × (AreBelow geometry (rows_in form) × (RowsHold geometry form (rows_in form) × (sector ≡ seal_bytes id number form))))))

  counts_or_not : (form : Form) → IsForm form → CountsAs form ⊎ ¬ CountsAs form
  counts_or_not form formed =
      both_or_not _ _ (most_or_not 1 number)
      (both_or_not _ _ (most_or_not number GREATEST_COUNT)
      (both_or_not _ _ (cases_eq (number % HALVES) place)
      (both_or_not _ _ (format_or_not (format_of form) geometry.format)
      (both_or_not _ _ (all_below (rows_in form) (rows_of geometry.chunk geometry.stripes) (length (rows_in form)))
      (both_or_not _ _ (rows_or_not geometry form formed) (same_bytes sector (seal_bytes id number form)))))))

  -- the seal of a form that is spelled there
  seal_as : (form : Form) → IsSpelledThere form → CountsAs form → (seal : Seal) × Counts id geometry content place seal
  unfolding sector
  seal_as form spelled says = (
    record {
      id = id;
      number = number;
      form = form;
      allowed = record { number_least = says.0; number_most = says.1.0; rows = spelled.rows };
      formed = spelled.formed;
    },
    record {
      stands = says.1.1.1.1.1.1;
      belongs = record { of_set = refl; of_format = says.1.1.1.0; own_place = says.1.1.0; below = says.1.1.1.1.0; held = says.1.1.1.1.1.0 };
    },
  )

  -- and what a seal that counts there says of it
  counted_as : (form : Form) → IsSpelledThere form → (seal : Seal) → Counts id geometry content place seal → CountsAs form
  unfolding sector number
  counted_as form spelled seal counts =
      let own = spelled_there seal counts in
      let same : seal.form ≡ form =
      one_form seal.form form own.formed spelled.formed own.rows spelled.rows (sym own.digit_is ∙ spelled.digit_is) (sym own.count_is ∙ spelled.count_is)
      (sym own.held_is ∙ spelled.held_is) in
      let numbered = (sector_says seal.id seal.number seal.form sector seal.allowed seal.formed (full seal counts) counts.stands).number_is in (
        omega (arith, seal.allowed.number_least, numbered),
        (
          omega (arith, seal.allowed.number_most, numbered),
          (
            ap (λ (n : ℕ). n % HALVES) (sym numbered) ∙ counts.belongs.own_place,
            (
              ap format_of (sym same) ∙ counts.belongs.of_format,
              (
                subst (λ (f : Form). AreBelow geometry (rows_in f)) same counts.belongs.below,
                (
                  subst (λ (f : Form). RowsHold geometry f (rows_in f)) same counts.belongs.held,
                  counts.stands
                      ∙ ap (λ (i : List ℕ). seal_bytes i seal.number seal.form) counts.belongs.of_set
                      ∙ ap (λ (n : ℕ). seal_bytes id n seal.form) numbered
                      ∙ ap (seal_bytes id number) same,
                ),
              ),
            ),
          ),
        ),
      )

  -- one counts there, or none
  counted_or_none : ((seal : Seal) × Counts id geometry content place seal) ⊎ CountsNone id geometry content place
  counted_or_none = elim (spells_or_not (get_or sector 7 0) (little_number 4 (take 4 (drop 32 sector))) (take 464 (drop 40 sector))) [
    | inr none ↦ inr (λ seal counts. none (seal.form, spelled_there seal counts))
    | inl spells ↦ elim (counts_or_not spells.0 spells.1.formed) [
      | inl so ↦ inl (seal_as spells.0 spells.1 so)
      | inr not_so ↦ inr (λ seal counts. not_so (counted_as spells.0 spells.1 seal counts))
    ]
  ]

  -- the seal that counts there, if one does
  pub seal_there : (found : Option Seal) × CountedAt id geometry content place found
  seal_there = elim counted_or_none [
    | inl counted ↦ (Some counted.0, counted.1)
    | inr none ↦ (None, none)
  ]

if_some : (id : List ℕ) (geometry : Geometry) (place : ℕ) (content : Option (List Bytes)) (found : Option Seal) → CountedAt id geometry content place found
    → IfSome found (λ s. Counts id geometry content place s)
if_some id geometry place content None none = tt
if_some id geometry place content (Some seal) counts = counts

if_none : (id : List ℕ) (geometry : Geometry) (place : ℕ) (content : Option (List Bytes)) (found : Option Seal) → CountedAt id geometry content place found
    → IsNone found
    → CountsNone id geometry content place
if_none id geometry place content None none is = none
if_none id geometry place content (Some seal) counts is = let no : true ≡ false = is in cc

-- A journal has a last seal, or none.
pub has_last_seal : (id : List ℕ) (geometry : Geometry) (content : Option (List Bytes)) → length id ≡ 16 → (last : Option Seal)
    × IsLastSealed id geometry content last
has_last_seal id geometry content long =
    let even = seal_there id geometry 0 content long in
    let odd = seal_there id geometry 1 content long in (
      later_of even.0 odd.0,
      last_is id geometry content even.0 odd.0 (later_of even.0 odd.0) long
          (if_some id geometry 0 content even.0 even.1) (if_none id geometry 0 content even.0 even.1)
          (if_some id geometry 1 content odd.0 odd.1) (if_none id geometry 1 content odd.0 odd.1) refl,
    )
