-- Whether bytes spell what an entry holds.
use Rattle.std.proofs.Common.{◌≡◌, ◌≢◌, ◌⊎◌, inl, inr, ℕ, ◌-◌, ◌*◌, ◌≤◌, List, length, take, drop, get_or, map, refl, sym, subst, ap, ◌∙◌, arith}
use Rattle.std.specs.List.{range_with_len}
use Rattle.std.proofs.lemmas.Bool.{cases_eq}
use Rattle.std.proofs.lemmas.List.FromFn.{fill_by_all}
use Rattle.arrayvec.specs.ArrayVec.{ArrayVec}
use Rattle.byteorder.specs.Endian.{little_number}
use Rattle.entry_runs.specs.declared.run.Run.{Run}
use Rattle.entry_runs.specs.declared.runs.Runs as of_runs
use Rattle.entry_runs.specs.Runs.{AreRuns}
use Rattle.entry_runs.specs.Spelling.{run_in, runs_bytes}
use Rattle.entry_runs.proofs.Bytes.{runs_back}
use Rattle.layout_map.specs.declared.sizes.TheConstants.{ENTRY_ROWS}
use Rattle.stripe_journal.specs.declared.form.Form.{Form}
use Rattle.stripe_journal.specs.declared.form.Form.TheVariants.{Held, Runs, Whole}
use Rattle.stripe_journal.specs.Forms.{AreMasks, IsForm, rows_in}
use Rattle.stripe_journal.specs.Seals.{AreRows}
use Rattle.stripe_journal.specs.Spelling.{count_in, first_mark, held_bytes, listed_bytes, row_numbers, zeros}
use Rattle.stripe_journal.proofs.Decisions.{are_rows_or_not, are_runs_or_not, as_decided, both_or_not, masks_or_not, most_or_not, same_bytes}
use Rattle.stripe_journal.proofs.FormTests.{masked_formed}
use Rattle.stripe_journal.proofs.FormsRead.{runs_formed, whole_formed}
use Rattle.stripe_journal.proofs.HeldRuns.{runs_rows}
use Rattle.stripe_journal.proofs.Spellings.{held_named, masks_in, number_at, numbers_in, runs_named, whole_named}

-- the digit of the mark, the count and the bytes of what is held are those of a form
pub record IsSpelled (digit count : ℕ) (held : List ℕ) (form : Form) : Type 0 where
  pub formed : IsForm form
  pub rows : AreRows (rows_in form)
  pub digit_is : digit ≡ get_or (first_mark form) 7 0
  pub count_is : count ≡ count_in form
  pub held_is : held ≡ held_bytes form

abbrev pub Spells : (digit count : ℕ) (held : List ℕ) → Type 0
Spells digit count held = (form : Form) × IsSpelled digit count held form

-- the rows that are listed in the bytes
rows_read : (count : ℕ) (held : List ℕ) → List ℕ
rows_read count held = map (λ i. little_number 4 (drop (4 * i) (take 128 held))) (range_with_len 0 count)

rows_read_back : (rows masks held : List ℕ) (count : ℕ) → AreRows rows → length rows ≤ ENTRY_ROWS → count ≡ length rows → held ≡ listed_bytes rows masks
    → rows_read count held ≡ rows
unfolding rows_read row_numbers
rows_read_back rows masks held count are few counted is =
    let read = λ (i : ℕ). little_number 4 (drop (4 * i) (take 128 held)) in
    ap (λ (n : ℕ). map read (range_with_len 0 n)) counted
    ∙ sym (fill_by_all read rows (length rows) 0 refl (λ i within.
    sym (ap (λ (xs : List ℕ). little_number 4 (drop (4 * i) xs)) (ap (take 128) is ∙ numbers_in rows masks few)
    ∙ number_at rows (zeros (128 - 4 * length rows)) i are.each within)))

-- rows and masks are listed in the bytes
abbrev AreListed : (count : ℕ) (held rows masks : List ℕ) → Type 0
AreListed count held rows masks = AreRows rows × ((length rows ≤ ENTRY_ROWS) × ((count ≡ length rows) × (held ≡ listed_bytes rows masks)))

listed_or_not : (count : ℕ) (held rows masks : List ℕ) → AreListed count held rows masks ⊎ ¬ AreListed count held rows masks
listed_or_not count held rows masks =
    both_or_not _ _ (are_rows_or_not rows)
    (both_or_not _ _ (most_or_not (length rows) ENTRY_ROWS)
    (both_or_not _ _ (cases_eq count (length rows)) (same_bytes held (listed_bytes rows masks))))

-- whole rows

abbrev IsWhole : (count : ℕ) (held : List ℕ) → Type 0
IsWhole count held = AreListed count held (rows_read count held) (zeros 32)

whole_found : (count : ℕ) (held : List ℕ) → IsWhole count held → Spells 49 count held
unfolding held_bytes
whole_found count held is =
    let rows : ArrayVec ℕ = record { items = rows_read count held } in (
      Whole rows,
      record { formed = whole_formed rows is.1.0; rows = is.0; digit_is = sym (whole_named rows); count_is = is.1.1.0; held_is = is.1.1.1 },
    )

whole_back : (count : ℕ) (held : List ℕ) (form : Form) → IsSpelled 49 count held form → IsWhole count held
unfolding held_bytes
whole_back count held (Whole rows) is =
    let few = is.formed.whole rows refl in
    subst (λ (l : List ℕ). AreListed count held l (zeros 32)) (sym (rows_read_back rows.items (zeros 32) held count is.rows few is.count_is is.held_is))
    (is.rows, (few, (is.count_is, is.held_is)))
whole_back count held (Held rows masks) is = absurd (omega (arith, is.digit_is, held_named rows masks))
whole_back count held (Runs runs) is = absurd (omega (arith, is.digit_is, runs_named runs))

-- rows with masks

masks_read : (held : List ℕ) → List ℕ
masks_read held = take 32 (drop 128 held)

abbrev IsMasked : (count : ℕ) (held : List ℕ) → Type 0
IsMasked count held = AreListed count held (rows_read count held) (masks_read held) × AreMasks (masks_read held) (length (rows_read count held))

masked_found : (count : ℕ) (held : List ℕ) → IsMasked count held → Spells 50 count held
unfolding held_bytes
masked_found count held is =
    let rows : ArrayVec ℕ = record { items = rows_read count held } in
    let masks = masks_read held in (
      Held rows masks,
      record {
        formed = masked_formed rows masks is.0.1.0 is.1;
        rows = is.0.0;
        digit_is = sym (held_named rows masks);
        count_is = is.0.1.1.0;
        held_is = is.0.1.1.1;
      },
    )

masked_back : (count : ℕ) (held : List ℕ) (form : Form) → IsSpelled 50 count held form → IsMasked count held
unfolding held_bytes masks_read
masked_back count held (Whole rows) is = absurd (omega (arith, is.digit_is, whole_named rows))
masked_back count held (Held rows masks) is =
    let of = is.formed.held rows masks refl in
    let same = rows_read_back rows.items masks held count is.rows of.0 is.count_is is.held_is in
    let alike : masks_read held ≡ masks = ap (λ (xs : List ℕ). take 32 (drop 128 xs)) is.held_is ∙ masks_in rows.items masks of.0 of.1.long in
    subst (λ (m : List ℕ). AreListed count held (rows_read count held) m × AreMasks m (length (rows_read count held))) (sym alike)
    (subst (λ (l : List ℕ). AreListed count held l masks × AreMasks masks (length l)) (sym same) ((is.rows, (of.0, (is.count_is, is.held_is))), of.1))
masked_back count held (Runs runs) is = absurd (omega (arith, is.digit_is, runs_named runs))

masked_or_not : (count : ℕ) (held : List ℕ) → IsMasked count held ⊎ ¬ IsMasked count held
masked_or_not count held =
    both_or_not _ _ (listed_or_not count held (rows_read count held) (masks_read held)) (masks_or_not (masks_read held) (length (rows_read count held)))

-- runs

runs_read : (count : ℕ) (held : List ℕ) → List Run
runs_read count held = map (run_in held) (range_with_len 0 count)

abbrev AreSpelledRuns : (count : ℕ) (held : List ℕ) → List Run → Type 0
AreSpelledRuns count held list = AreRuns list × ((count ≡ length list) × (held ≡ runs_bytes list))

runs_found : (count : ℕ) (held : List ℕ) (list : List Run) → AreSpelledRuns count held list → Spells 51 count held
unfolding held_bytes
runs_found count held list is =
    let runs : of_runs.Runs = record { list = record { items = list }; allowed = is.0 } in
    (Runs runs, record { formed = runs_formed runs; rows = runs_rows list is.0; digit_is = sym (runs_named runs); count_is = is.1.0; held_is = is.1.1 })

runs_read_back : (count : ℕ) (held : List ℕ) (list : List Run) → AreSpelledRuns count held list → runs_read count held ≡ list
unfolding runs_read
runs_read_back count held list is =
    ap (λ (xs : List ℕ). map (run_in xs) (range_with_len 0 count)) is.1.1 ∙ ap (λ (n : ℕ). map (run_in (runs_bytes list)) (range_with_len 0 n)) is.1.0
    ∙ sym (runs_back list is.0)

spelled_back : (count : ℕ) (held : List ℕ) (form : Form) → IsSpelled 51 count held form → AreSpelledRuns count held (runs_read count held)
unfolding held_bytes
spelled_back count held (Whole rows) is = absurd (omega (arith, is.digit_is, whole_named rows))
spelled_back count held (Held rows masks) is = absurd (omega (arith, is.digit_is, held_named rows masks))
spelled_back count held (Runs runs) is =
    let spelled : AreSpelledRuns count held runs.list.items = (runs.allowed, (is.count_is, is.held_is)) in
    subst (AreSpelledRuns count held) (sym (runs_read_back count held runs.list.items spelled)) spelled

spelled_or_not : (count : ℕ) (held : List ℕ) (list : List Run) → AreSpelledRuns count held list ⊎ ¬ AreSpelledRuns count held list
spelled_or_not count held list =
    both_or_not _ _ (are_runs_or_not list) (both_or_not _ _ (cases_eq count (length list)) (same_bytes held (runs_bytes list)))

-- no form has another digit
other_digit : (digit count : ℕ) (held : List ℕ) (form : Form) → digit ≢ 49 → digit ≢ 50 → digit ≢ 51 → ¬ IsSpelled digit count held form
other_digit digit count held (Whole rows) one two three is = one (is.digit_is ∙ whole_named rows)
other_digit digit count held (Held rows masks) one two three is = two (is.digit_is ∙ held_named rows masks)
other_digit digit count held (Runs runs) one two three is = three (is.digit_is ∙ runs_named runs)

-- a form is spelled there, or none
pub spells_or_not : (digit count : ℕ) (held : List ℕ) → Spells digit count held ⊎ ¬ Spells digit count held
spells_or_not digit count held = elim (cases_eq digit 49) [
  | inl one ↦ subst (λ (d : ℕ). Spells d count held ⊎ ¬ Spells d count held) (sym one)
      (as_decided (IsWhole count held) (Spells 49 count held) (whole_found count held, λ spells. whole_back count held spells.0 spells.1)
      (listed_or_not count held (rows_read count held) (zeros 32)))
  | inr not_one ↦ elim (cases_eq digit 50) [
    | inl two ↦ subst (λ (d : ℕ). Spells d count held ⊎ ¬ Spells d count held) (sym two)
        (as_decided (IsMasked count held) (Spells 50 count held) (masked_found count held, λ spells. masked_back count held spells.0 spells.1)
        (masked_or_not count held))
    | inr not_two ↦ elim (cases_eq digit 51) [
      | inl three ↦ subst (λ (d : ℕ). Spells d count held ⊎ ¬ Spells d count held) (sym three)
          (as_decided (AreSpelledRuns count held (runs_read count held)) (Spells 51 count held)
          (runs_found count held (runs_read count held), λ spells. spelled_back count held spells.0 spells.1)
          (spelled_or_not count held (runs_read count held)))
      | inr not_three ↦ inr (λ spells. other_digit digit count held spells.0 not_one not_two not_three spells.1)
    ]
  ]
]
