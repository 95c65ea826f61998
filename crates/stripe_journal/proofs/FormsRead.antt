-- A form is read back: by the digit of its mark, its count and the bytes of what is held.
use Rattle.std.proofs.Common.{◌≡◌, ◌≢◌, ℕ, ◌≤◌, List, length, take, drop, get_or, refl, sym, subst, ap, ◌∙◌, arith, Option, Some, None}
use Rattle.std.specs.Prelude.{IfSome}
use Rattle.arrayvec.specs.ArrayVec.{ArrayVec}
use Rattle.layout_map.specs.declared.sizes.TheConstants.{ENTRY_ROWS}
use Rattle.entry_runs.specs.Spelling.{runs_bytes}
use Rattle.entry_runs.specs.declared.runs.Runs as of_runs
use Rattle.stripe_journal.specs.declared.form.Form.{Form}
use Rattle.stripe_journal.specs.declared.form.Form.TheVariants.{Held, Runs, Whole}
use Rattle.stripe_journal.specs.Forms.{AreMasks, IsForm, rows_in}
use Rattle.stripe_journal.specs.Seals.{AreRows}
use Rattle.stripe_journal.specs.Spelling.{count_in, first_mark, held_bytes, listed_bytes, zeros}
use Rattle.stripe_journal.proofs.Spellings.{held_named, masks_in, runs_named, whole_named}

-- what is read is the form that is spelled
abbrev pub ReadsForm : (mark count : ℕ) (held : List ℕ) → Option Form → Type 0
ReadsForm mark count held result = (form : Form) → IsForm form → AreRows (rows_in form) → mark ≡ get_or (first_mark form) 7 0 → count ≡ count_in form
    → held ≡ held_bytes form → result ≡ Some form

-- these are the rows that are listed
abbrev pub ReadsRows : (count : ℕ) (held found : List ℕ) → Type 0
ReadsRows count held found = (rows masks : List ℕ) → AreRows rows → length rows ≤ ENTRY_ROWS → count ≡ length rows → held ≡ listed_bytes rows masks
    → found ≡ rows

-- runs are these runs, or none are there

abbrev ReadsRuns : (count : ℕ) (held : List ℕ) → Option of_runs.Runs → Type 0
ReadsRuns count held result = (runs : of_runs.Runs) → held ≡ runs_bytes runs.list.items → count ≡ length runs.list.items → result ≡ Some runs

pub runs_read : (mark count : ℕ) (held : List ℕ) (found : of_runs.Runs) → mark ≡ 51 → ReadsRuns count held (Some found)
    → ReadsForm mark count held (Some (Runs found))
unfolding held_bytes
runs_read mark count held found digit exact (Whole rows) formed are named counted is = absurd (omega (arith, digit, named, whole_named rows))
runs_read mark count held found digit exact (Held rows masks) formed are named counted is = absurd (omega (arith, digit, named, held_named rows masks))
runs_read mark count held found digit exact (Runs runs) formed are named counted is =
    let same : found ≡ runs = same_runs_found (exact runs is counted) in
    ap (λ (r : of_runs.Runs). Some (Runs r)) same
  where
    same_runs_found : {a b : of_runs.Runs} → Some a ≡ Some b → a ≡ b
    same_runs_found is = cc

pub no_runs_read : (mark count : ℕ) (held : List ℕ) → mark ≡ 51 → ReadsRuns count held None → ReadsForm mark count held None
unfolding held_bytes
no_runs_read mark count held digit exact (Whole rows) formed are named counted is = absurd (omega (arith, digit, named, whole_named rows))
no_runs_read mark count held digit exact (Held rows masks) formed are named counted is = absurd (omega (arith, digit, named, held_named rows masks))
no_runs_read mark count held digit exact (Runs runs) formed are named counted is = let none = exact runs is counted in absurd (cc)

-- rows that are none of an entry

pub no_rows_read : (mark count : ℕ) (held found : List ℕ) → mark ≢ 51 → ReadsRows count held found → ¬ AreRows found → ReadsForm mark count held None
unfolding held_bytes
no_rows_read mark count held found digit read bad (Whole rows) formed are named counted is =
    absurd (bad (subst AreRows (sym (read rows.items (zeros 32) are (formed.whole rows refl) counted is)) are))
no_rows_read mark count held found digit read bad (Held rows masks) formed are named counted is =
    absurd (bad (subst AreRows (sym (read rows.items masks are (formed.held rows masks refl).0 counted is)) are))
no_rows_read mark count held found digit read bad (Runs runs) formed are named counted is = absurd (digit (named ∙ runs_named runs))

-- rows with masks

pub masked_read : (mark count : ℕ) (held : List ℕ) (rows : ArrayVec ℕ) (result : Option Form) → mark ≡ 50 → ReadsRows count held rows.items
    → (AreMasks (take 32 (drop 128 held)) (length rows.items) → result ≡ Some (Held rows (take 32 (drop 128 held)))) → ReadsForm mark count held result
unfolding held_bytes
masked_read mark count held rows result digit read exact (Whole own) formed are named counted is = absurd (omega (arith, digit, named, whole_named own))
masked_read mark count held rows result digit read exact (Held own masks) formed are named counted is =
    let of = formed.held own masks refl in
    let same : rows.items ≡ own.items = read own.items masks are of.0 counted is in
    let bytes : take 32 (drop 128 held) ≡ masks = ap (λ (xs : List ℕ). take 32 (drop 128 xs)) is ∙ masks_in own.items masks of.0 of.1.long in
    exact (subst (λ (m : List ℕ). AreMasks m (length rows.items)) (sym bytes) (subst (λ (l : List ℕ). AreMasks masks (length l)) (sym same) of.1))
    ∙ ap (λ (m : List ℕ). Some (Held rows m)) bytes
    ∙ ap (λ (l : List ℕ). Some (Held (record { items = l }) masks)) same
masked_read mark count held rows result digit read exact (Runs runs) formed are named counted is = absurd (omega (arith, digit, named, runs_named runs))

-- whole rows

pub whole_read : (mark count : ℕ) (held : List ℕ) (rows : ArrayVec ℕ) → mark ≢ 51 → mark ≢ 50 → ReadsRows count held rows.items
    → ReadsForm mark count held (Some (Whole rows))
unfolding held_bytes
whole_read mark count held rows runs masked read (Whole own) formed are named counted is =
    ap (λ (l : List ℕ). Some (Whole (record { items = l }))) (read own.items (zeros 32) are (formed.whole own refl) counted is)
whole_read mark count held rows runs masked read (Held own masks) formed are named counted is = absurd (masked (named ∙ held_named own masks))
whole_read mark count held rows runs masked read (Runs own) formed are named counted is = absurd (runs (named ∙ runs_named own))

-- whole rows are a form, and runs are

pub whole_formed : (rows : ArrayVec ℕ) → length rows.items ≤ ENTRY_ROWS → IsForm (Whole rows)
whole_formed rows few = record {
  whole = λ own is. let same : rows ≡ own = cc in omega (arith, few, ap (λ (r : ArrayVec ℕ). length r.items) same);
  held = λ own masks is. absurd (cc);
}

pub runs_formed : (runs : of_runs.Runs) → IsForm (Runs runs)
runs_formed runs = record {
  whole = λ rows is. absurd (cc);
  held = λ rows masks is. absurd (cc);
}

-- a form with the rows of an entry has them
pub formed_as : (found : Option Form) (rows : List ℕ) → IfSome found (λ form. IsForm form × (rows_in form ≡ rows)) → AreRows rows
    → IfSome found (λ form. IsForm form × AreRows (rows_in form))
formed_as None rows found are = tt
formed_as (Some form) rows found are = (found.0, subst AreRows (sym found.1) are)
