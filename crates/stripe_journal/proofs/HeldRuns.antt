-- What masks hold, one after another, and so what runs hold.
use Rattle.std.proofs.Common.{◌≡◌, ℕ, zero, suc, ◌+◌, ◌*◌, ◌<◌, ◌≤◌, List, [], ◌∷◌, ◌++◌, length, drop, take, replicate, refl, sym}
use Rattle.std.proofs.Common.{ap, ◌∙◌, arith}
use Rattle.std.specs.Prelude.{count_ones}
use Rattle.std.proofs.Math.Seq.{take-suc}
use Rattle.std.proofs.lemmas.List.{at_drop_more, take_all}
use Rattle.std.proofs.lemmas.Nat.{mul-le}
use Rattle.arrayvec.specs.ArrayVec.{ArrayVec}
use Rattle.entry_runs.specs.declared.run.Run.{Run}
use Rattle.entry_runs.specs.declared.runs.Runs as of_runs
use Rattle.entry_runs.specs.Body.{bits_below, has_bit}
use Rattle.entry_runs.specs.Runs.{AreRuns, held_in, run_at}
use Rattle.entry_runs.specs.WrittenOut.{masks_of_runs, rows_of_runs}
use Rattle.entry_runs.proofs.Bits.{all_bits}
use Rattle.entry_runs.proofs.Builds.{fit_end}
use Rattle.entry_runs.proofs.Counts.{count_grows}
use Rattle.entry_runs.proofs.Lookups.{fit_rise}
use Rattle.entry_runs.proofs.Rows.{length-masks, length-rows, rows_end, rows_rise}
use Rattle.layout_map.specs.Formats.{body_sectors}
use Rattle.layout_map.specs.declared.sizes.TheConstants.{MOST_MEMBERS}
use Rattle.stripe_journal.specs.declared.form.Form.{Form}
use Rattle.stripe_journal.specs.declared.form.Form.TheVariants.{Held, Runs, Whole}
use Rattle.stripe_journal.specs.Forms.{IsForm, format_of, held_before, held_by_masks, in_body, mask_at, rows_in}
use Rattle.stripe_journal.specs.Seals.{AreRows}
use Rattle.stripe_journal.proofs.Masks.{before_few, count_agrees}

-- masks after masks
pub held_by_both : (members : ℕ) (front back : List ℕ) → held_by_masks members (front ++ back) ≡ held_by_masks members front + held_by_masks members back
held_by_both members [] back = omega arith
held_by_both members (mask ∷ front) back = omega (arith, held_by_both members front back)

-- one mask more
pub held_by_next : (members : ℕ) (masks : List ℕ) (i : ℕ) → i < length masks
    → held_by_masks members (take (suc i) masks) ≡ held_by_masks members (take i masks) + bits_below (mask_at masks i) members
held_by_next members masks i within =
    ap (held_by_masks members) (take-suc masks i 0 within) ∙ held_by_both members (take i masks) (mask_at masks i ∷ []) ∙ omega arith

-- what the rows before one hold is what the masks before its hold
pub before_masks : (members : ℕ) (form : Form) (masks : List ℕ) (i : ℕ) → ((k m : ℕ) → in_body members form k m ≡ has_bit (mask_at masks k) m)
    → i ≤ length masks → held_before members form i ≡ held_by_masks members (take i masks)
before_masks members form masks zero by_masks within = refl
before_masks members form masks (suc i) by_masks within =
    omega (
      arith,
      before_masks members form masks i by_masks (omega (arith, within)),
      count_agrees (in_body members form i) (has_bit (mask_at masks i)) members (λ m below. by_masks i m),
      held_by_next members masks i (omega (arith, within)),
    )

-- so many rows with one mask
pub held_by_same : (members n mask : ℕ) (rest : List ℕ) → held_by_masks members (replicate n mask ++ rest) ≡ n * bits_below mask members
    + held_by_masks members rest
held_by_same members zero mask rest = omega arith
held_by_same members (suc n) mask rest =
    more (bits_below mask members) n (held_by_masks members rest) (held_by_masks members (replicate n mask ++ rest)) (held_by_same members n mask rest)
  where
    more : (w n r x : ℕ) → x ≡ n * w + r → w + x ≡ suc n * w + r
    more w n r x is = omega arith

-- the rows of a run, and those of the runs after it
pub held_by_first : (members : ℕ) (run : Run) (runs : List Run) → held_by_masks members (masks_of_runs (run ∷ runs)) ≡ run.length * bits_below run.mask members
    + held_by_masks members (masks_of_runs runs)
held_by_first members run runs = held_by_same members run.length run.mask (masks_of_runs runs)

-- the same of the runs from one on
pub held_by_drop : (members : ℕ) (runs : List Run) (i : ℕ) → i < length runs
    → held_by_masks members (masks_of_runs (drop i runs)) ≡ (run_at runs i).length * bits_below (run_at runs i).mask members
    + held_by_masks members (masks_of_runs (drop (i + 1) runs))
held_by_drop members runs i within =
    at_drop_more (λ (xs : List Run). held_by_masks members (masks_of_runs xs)) runs i (record { first = 0; length = 0; mask = 0 }) within
    ∙ held_by_first members (run_at runs i) (drop (i + 1) runs)

-- a run more is counted
pub held_by_on : (members : ℕ) (runs : List Run) (i count long bits : ℕ) → i < length runs
    → held_by_masks members (masks_of_runs runs) ≡ count + held_by_masks members (masks_of_runs (drop i runs))
    → long ≡ (run_at runs i).length → bits ≡ bits_below (run_at runs i).mask members
    → held_by_masks members (masks_of_runs runs) ≡ count + long * bits + held_by_masks members (masks_of_runs (drop (i + 1) runs))
held_by_on members runs i count long bits within so_far long_is bits_are =
    more (held_by_masks members (masks_of_runs runs)) count (long * bits) (held_by_masks members (masks_of_runs (drop i runs)))
    (held_by_masks members (masks_of_runs (drop (i + 1) runs))) so_far
    (held_by_drop members runs i within
    ∙ ap (λ (n : ℕ). n * bits_below (run_at runs i).mask members + held_by_masks members (masks_of_runs (drop (i + 1) runs))) (sym long_is)
    ∙ ap (λ (n : ℕ). long * n + held_by_masks members (masks_of_runs (drop (i + 1) runs))) (sym bits_are))
  where
    more : (all count one rest after : ℕ) → all ≡ count + rest → rest ≡ one + after → all ≡ count + one + after
    more all count one rest after is next = omega arith

-- no more than all the masks' bits
pub bits_few : (members mask : ℕ) → members ≤ MOST_MEMBERS → mask < 256 → bits_below mask members ≤ count_ones mask
bits_few members mask few byte = omega (arith, count_grows (has_bit mask) members 8 few, all_bits mask byte)

pub held_by_few : (members : ℕ) (runs : List Run) → members ≤ MOST_MEMBERS → ((i : ℕ) → i < length runs → (run_at runs i).mask < 256)
    → held_by_masks members (masks_of_runs runs) ≤ held_in runs
held_by_few members [] few bytes = omega arith
held_by_few members (run ∷ runs) few bytes =
    omega (
      arith,
      held_by_first members run runs,
      mul-le run.length (bits_below run.mask members) run.length (count_ones run.mask) (omega arith) (bits_few members run.mask few (bytes 0 (omega arith))),
      held_by_few members runs few (λ i within. bytes (suc i) (omega (arith, within))),
    )

-- all rows of runs
pub held_runs : (members : ℕ) (runs : of_runs.Runs) → held_before members (Runs runs) (length (rows_of_runs runs.list.items)) ≡ held_by_masks members
    (masks_of_runs runs.list.items)
held_runs members runs =
    let list = runs.list.items in
    let count = length (rows_of_runs list) in
    before_masks members (Runs runs) (masks_of_runs list) count (λ k m. refl) (omega (arith, length-masks list))
    ∙ ap (held_by_masks members) (take_all count (masks_of_runs list) (omega (arith, length-masks list)))

-- and of rows with masks
pub held_listed : (members : ℕ) (rows : ArrayVec ℕ) (masks : List ℕ) (i : ℕ) → i ≤ length masks
    → held_before members (Held rows masks) i ≡ held_by_masks members (take i masks)
held_listed members rows masks i within = before_masks members (Held rows masks) masks i (λ k m. refl) within

-- the body of an entry that a seal may have fits the half of its format
pub body_few : (members : ℕ) (form : Form) → members ≤ MOST_MEMBERS → IsForm form
    → held_before members form (length (rows_in form)) ≤ body_sectors (format_of form)
body_few members (Whole rows) few formed = before_few members (Whole rows) (length rows.items) few (formed.whole rows refl)
body_few members (Held rows masks) few formed = before_few members (Held rows masks) (length rows.items) few (formed.held rows masks refl).0
body_few members (Runs runs) few formed =
    let list = runs.list.items in
    omega (
      arith,
      held_runs members runs,
      held_by_few members list few (λ i within. (runs.allowed.fit.each i within).mask_most),
      runs.allowed.fit.held_most,
    )

-- the rows of an entry's runs are such as a seal has
pub runs_rows : (list : List Run) → AreRuns list → AreRows (rows_of_runs list)
runs_rows list are = record {
  least = some list are;
  each = λ i within. omega (arith, rows_end list i (fit_rise list are.fit) within, fit_end list are.fit);
  rising = rows_rise list (fit_rise list are.fit);
}
  where
    some : (list : List Run) → AreRuns list → 1 ≤ length (rows_of_runs list)
    some [] are = absurd (omega (arith, are.some))
    some (run ∷ runs) are = omega (arith, length-rows run runs, (are.fit.each 0 (omega arith)).long)
