-- The rows of an entry in memory, written out: their masks, and how many sectors stand before each.
use Rattle.std.proofs.Common.{◌≡◌, inl, inr, ℕ, zero, suc, ◌+◌, ◌-◌, ◌<◌, ◌≤◌, List, [], ◌∷◌, ◌++◌, length, take, refl, ◌∙◌, ap, arith}
use Rattle.std.specs.Prelude.{count_ones, true}
use Rattle.std.proofs.lemmas.Bool.{cases_lt}
use Rattle.std.proofs.lemmas.List.{get_or_append_left, get_or_at, take_all}
use Rattle.entry_runs.specs.declared.run.Run.{Run}
use Rattle.entry_runs.specs.declared.sizes.TheConstants.{MOST_HELD}
use Rattle.entry_runs.specs.Body.{bits_below, has_bit}
use Rattle.entry_runs.specs.Built.{runs_in}
use Rattle.entry_runs.specs.Runs.{run_at}
use Rattle.entry_runs.specs.WrittenOut.{bits_in, masks_of_runs, rows_of_runs}
use Rattle.entry_runs.proofs.Bits.{all_bits}
use Rattle.entry_runs.proofs.Builds.{fit_end}
use Rattle.entry_runs.proofs.Lookups.{fit_rise}
use Rattle.entry_runs.proofs.Rows.{length-masks, mask_first, mask_rest, rows_end, rows_rise}
use Rattle.layout_map.specs.declared.sizes.TheConstants.{MOST_MEMBERS}
use Rattle.stripe_journal.specs.declared.entry.Entry.{Entry}
use Rattle.stripe_journal.specs.Entries.{form_of, masks_of, numbers_of, place_at, row_mask}
use Rattle.stripe_journal.specs.Forms.{held_before, held_by_masks, mask_at}
use Rattle.stripe_journal.specs.Seals.{AreRows}
use Rattle.stripe_journal.proofs.HeldRuns.{held_by_few, held_listed}
use Rattle.stripe_journal.proofs.Masks.{before_grows, rank_before}

-- each mask is a byte

runs_bytes : (runs : List Run) (i : ℕ) → ((k : ℕ) → k < length runs → (run_at runs k).mask < 256) → mask_at (masks_of_runs runs) i < 256
runs_bytes [] i bytes = omega arith
runs_bytes (run ∷ runs) i bytes = elim (cases_lt i run.length) [
  | inl within ↦ omega (arith, mask_first run runs i within, bytes 0 (omega arith))
  | inr past ↦ omega (arith, mask_rest run runs i past, runs_bytes runs (i - run.length) (λ k below. bytes (suc k) (omega (arith, below))))
]

runs_few : (entry : Entry) (k : ℕ) → k < length (runs_in entry.runs) → (run_at (runs_in entry.runs) k).mask < 256
runs_few entry k within = (entry.runs.fit.each k within).mask_most

pub mask_byte : (entry : Entry) (i : ℕ) → row_mask entry i < 256
mask_byte entry i = runs_bytes (runs_in entry.runs) i (runs_few entry)

-- so eight members have all its bits
pub all_held : (entry : Entry) (i : ℕ) → bits_below (row_mask entry i) MOST_MEMBERS ≡ count_ones (row_mask entry i)
all_held entry i = all_bits (row_mask entry i) (mask_byte entry i)

before_bits : (masks : List ℕ) (i : ℕ) → ((k : ℕ) → mask_at masks k < 256) → held_by_masks MOST_MEMBERS (take i masks) ≡ bits_in (take i masks)
before_bits [] zero bytes = refl
before_bits [] (suc i) bytes = refl
before_bits (mask ∷ masks) zero bytes = refl
before_bits (mask ∷ masks) (suc i) bytes = omega (arith, all_bits mask (bytes 0), before_bits masks i (λ k. bytes (suc k)))

within_masks : (entry : Entry) (i : ℕ) → i ≤ length (numbers_of entry) → i ≤ length (masks_of entry)
within_masks entry i within = omega (arith, length-masks (runs_in entry.runs), within)

-- the bits of the masks before a row's are what stands before it
pub before_row : (entry : Entry) (i : ℕ) → i ≤ length (numbers_of entry) → held_before MOST_MEMBERS (form_of entry) i ≡ bits_in (take i (masks_of entry))
before_row entry i within =
    held_listed MOST_MEMBERS (record { items = numbers_of entry }) (masks_of entry) i (within_masks entry i within)
    ∙ before_bits (masks_of entry) i (mask_byte entry)

-- and no more than an entry has room for
pub before_held : (members : ℕ) (entry : Entry) (i : ℕ) → members ≤ MOST_MEMBERS → i ≤ length (numbers_of entry)
    → held_before members (form_of entry) i ≤ MOST_HELD
before_held members entry i few within =
    let count = length (numbers_of entry) in
    let masks = masks_of entry in
    let all : held_before members (form_of entry) count ≡ held_by_masks members masks =
    held_listed members (record { items = numbers_of entry }) masks count (within_masks entry count (omega arith))
    ∙ ap (held_by_masks members) (take_all count masks (omega (arith, length-masks (runs_in entry.runs)))) in
    omega (
      arith,
      before_grows members (form_of entry) i count within,
      all,
      held_by_few members (runs_in entry.runs) few (runs_few entry),
      entry.runs.fit.held_most,
    )

-- each sector that it has has a place
pub place_within : (entry : Entry) (i member : ℕ) → i < length (numbers_of entry) → member < MOST_MEMBERS → has_bit (row_mask entry i) member ≡ true
    → place_at entry i member < MOST_HELD
place_within entry i member below within held =
    omega (
      arith,
      rank_before MOST_MEMBERS (form_of entry) i member (length (numbers_of entry)) held within below,
      before_held MOST_MEMBERS entry (length (numbers_of entry)) (omega arith) (omega arith),
    )

-- the masks of a row more

pub pushed_mask : (old new : List Run) (mask : ℕ) → masks_of_runs new ≡ masks_of_runs old ++ mask ∷ []
    → mask_at (masks_of_runs new) (length (rows_of_runs old)) ≡ mask
pushed_mask old new mask is =
    ap (λ (masks : List ℕ). mask_at masks (length (rows_of_runs old))) is
    ∙ get_or_at (masks_of_runs old) mask [] 0 (length (rows_of_runs old)) (length-masks old)

pub pushed_masks : (old new : List Run) (mask : ℕ) → masks_of_runs new ≡ masks_of_runs old ++ mask ∷ [] → (i : ℕ) → i < length (rows_of_runs old)
    → mask_at (masks_of_runs new) i ≡ mask_at (masks_of_runs old) i
pushed_masks old new mask is i within =
    ap (λ (masks : List ℕ). mask_at masks i) is ∙ get_or_append_left (masks_of_runs old) (mask ∷ []) 0 i (omega (arith, within, length-masks old))

-- the rows of an entry that has some are such as a seal has
pub entry_rows : (entry : Entry) → 1 ≤ length (numbers_of entry) → AreRows (numbers_of entry)
entry_rows entry some =
    let runs = runs_in entry.runs in
    let fit = entry.runs.fit in
    record {
      least = some;
      each = λ i within. omega (arith, rows_end runs i (fit_rise runs fit) within, fit_end runs fit);
      rising = rows_rise runs (fit_rise runs fit);
    }
