-- Rows and places run by run, and mask by mask.
use Rattle.std.proofs.Common.{◌≡◌, inl, inr, ℕ, zero, suc, ◌+◌, ◌-◌, ◌*◌, ◌<◌, ◌≤◌, true, List, [], ◌∷◌, ◌++◌, length, take, replicate, get_or, Some, refl}
use Rattle.std.proofs.Common.{sym, ap, ◌∙◌, arith}
use Rattle.std.proofs.Math.Seq.{take-append-add}
use Rattle.std.proofs.lemmas.Bool.{cases_lt}
use Rattle.std.proofs.lemmas.List.{append-nil, length-replicate, take-append-le, take-replicate}
use Rattle.std.specs.Int.RustNames.{count_ones}
use Rattle.entry_runs.specs.declared.run.Run.{Run}
use Rattle.entry_runs.specs.Body.{bits_below, has_row, rank, rank_in_run, run_of}
use Rattle.entry_runs.specs.Runs.{end_of, held_in, held_of, run_at}
use Rattle.entry_runs.specs.WrittenOut.{bits_in, masks_of_runs, rows_of_runs}
use Rattle.entry_runs.proofs.Lookups.{Rise, later_row, rank_here, rank_later, rise_rest, row_beyond, row_in, row_is_in, run_here, run_later}
use Rattle.entry_runs.proofs.Rows.{length-rows, mask_of_row, mask_first, mask_rest, row_first, row_rest}

-- each run begins after the first has ended
begins_after : (run : Run) (runs : List Run) (i : ℕ) → Rise (run ∷ runs) → i < length runs → end_of run ≤ (run_at runs i).first
begins_after run [] i rise within = absurd (omega (arith, within))
begins_after run (next ∷ runs) zero rise within = (rise.follow 0 (omega arith)).above
begins_after run (next ∷ runs) (suc i) rise within =
    omega (arith, begins_after next runs i (rise_rest run (next ∷ runs) rise) (omega (arith, within)), (rise.follow 0 (omega arith)).above)

-- so a row of a run is in none before it
not_first : (run : Run) (runs : List Run) (i row : ℕ) → Rise (run ∷ runs) → i < length runs → has_row (run_at runs i) row ≡ true → end_of run ≤ row
not_first run runs i row rise within here = omega (arith, begins_after run runs i rise within, (row_in (run_at runs i) row here).0)

pub run_found : (runs : List Run) (i row : ℕ) → Rise runs → i < length runs → has_row (run_at runs i) row ≡ true → run_of runs row ≡ Some (run_at runs i)
run_found [] i row rise within here = absurd (omega (arith, within))
run_found (run ∷ runs) zero row rise within here = run_here run runs row here
run_found (run ∷ runs) (suc i) row rise within here =
    run_later run runs row (row_beyond run row (not_first run runs i row rise (omega (arith, within)) here))
    ∙ run_found runs i row (rise_rest run runs rise) (omega (arith, within)) here

-- and its place is after what those hold

first_place : (a : ℕ) → a ≡ 0 + a
first_place a = omega arith

later_place : (a b c x : ℕ) → x ≡ b + c → a + x ≡ a + b + c
later_place a b c x is = omega arith

pub rank_found : (runs : List Run) (i row member : ℕ) → Rise runs → i < length runs → has_row (run_at runs i) row ≡ true
    → rank runs row member ≡ held_in (take i runs) + rank_in_run (run_at runs i) row member
rank_found [] i row member rise within here = absurd (omega (arith, within))
rank_found (run ∷ runs) zero row member rise within here = rank_here run runs row member here ∙ first_place (rank_in_run run row member)
rank_found (run ∷ runs) (suc i) row member rise within here =
    rank_later run runs row member (row_beyond run row (not_first run runs i row rise (omega (arith, within)) here))
    ∙ later_place (held_of run) (held_in (take i runs)) (rank_in_run (run_at runs i) row member) (rank runs row member)
    (rank_found runs i row member (rise_rest run runs rise) (omega (arith, within)) here)

pub row_found : (runs : List Run) (i k : ℕ) → i < length runs → k < (run_at runs i).length
    → get_or (rows_of_runs runs) (length (rows_of_runs (take i runs)) + k) 0 ≡ (run_at runs i).first + k
row_found [] i k within inner = absurd (omega (arith, within))
row_found (run ∷ runs) zero k within inner = ap (λ (n : ℕ). get_or (rows_of_runs (run ∷ runs)) n 0) (omega arith) ∙ row_first run runs k inner
row_found (run ∷ runs) (suc i) k within inner =
    let before = length (rows_of_runs (take i runs)) in
    let place : length (rows_of_runs (run ∷ take i runs)) + k ≡ run.length + (before + k) = omega (arith, length-rows run (take i runs)) in
    let back : run.length + (before + k) - run.length ≡ before + k = omega arith in
    ap (λ (n : ℕ). get_or (rows_of_runs (run ∷ runs)) n 0) place ∙ row_rest run runs (run.length + (before + k)) (omega arith)
    ∙ ap (λ (n : ℕ). get_or (rows_of_runs runs) n 0) back ∙ row_found runs i k (omega (arith, within)) inner

-- bits of masks, of which so many are the same

bits_repeated : (n mask : ℕ) (rest : List ℕ) → bits_in (replicate n mask ++ rest) ≡ n * count_ones mask + bits_in rest
bits_repeated zero mask rest = omega arith
bits_repeated (suc n) mask rest = more (count_ones mask) n (bits_in rest) (bits_in (replicate n mask ++ rest)) (bits_repeated n mask rest)
  where
    more : (w n r x : ℕ) → x ≡ n * w + r → w + x ≡ suc n * w + r
    more w n r x is = omega arith

pub held_bits : (runs : List Run) → held_in runs ≡ bits_in (masks_of_runs runs)
held_bits [] = refl
held_bits (run ∷ runs) = ap (λ (n : ℕ). held_of run + n) (held_bits runs) ∙ sym (bits_repeated run.length run.mask (masks_of_runs runs))

-- the bits before a row of the first run, and before one of the runs after it

pub bits_before_first : (run : Run) (runs : List Run) (i : ℕ) → i ≤ run.length → bits_in (take i (masks_of_runs (run ∷ runs))) ≡ i * count_ones run.mask
bits_before_first run runs i within =
    ap bits_in (take-append-le i (replicate run.length run.mask) (masks_of_runs runs) (omega (arith, length-replicate run.length run.mask, within))
    ∙ take-replicate i run.length run.mask within ∙ sym (append-nil (replicate i run.mask)))
    ∙ bits_repeated i run.mask [] ∙ omega arith

pub bits_before_rest : (run : Run) (runs : List Run) (i : ℕ) → run.length ≤ i
    → bits_in (take i (masks_of_runs (run ∷ runs))) ≡ held_of run + bits_in (take (i - run.length) (masks_of_runs runs))
bits_before_rest run runs i beyond =
    let front = replicate run.length run.mask in
    let place : i ≡ length front + (i - run.length) = omega (arith, length-replicate run.length run.mask, beyond) in
    ap (λ (n : ℕ). bits_in (take n (front ++ masks_of_runs runs))) place
    ∙ ap bits_in (take-append-add front (masks_of_runs runs) (i - run.length))
    ∙ bits_repeated run.length run.mask (take (i - run.length) (masks_of_runs runs))

pub rank_bits : (runs : List Run) (i member : ℕ) → Rise runs → i < length (rows_of_runs runs)
    → rank runs (get_or (rows_of_runs runs) i 0) member ≡ bits_in (take i (masks_of_runs runs)) + bits_below (get_or (masks_of_runs runs) i 0) member
rank_bits [] i member rise within = absurd (omega (arith, within))
rank_bits (run ∷ runs) i member rise within = elim (cases_lt i run.length) [
  | inl inner ↦
      let row = row_first run runs i inner in
      let here = row_is_in run (run.first + i) (omega arith) (omega (arith, inner)) in
      let back : run.first + i - run.first ≡ i = omega arith in
      ap (λ (r : ℕ). rank (run ∷ runs) r member) row ∙ rank_here run runs (run.first + i) member here
      ∙ ap (λ (k : ℕ). k * count_ones run.mask + bits_below run.mask member) back
      ∙ ap (λ (n : ℕ). n + bits_below run.mask member) (sym (bits_before_first run runs i (omega (arith, inner))))
      ∙ ap (λ (m : ℕ). bits_in (take i (masks_of_runs (run ∷ runs))) + bits_below m member) (sym (mask_first run runs i inner))
  | inr outer ↦
      let row = row_rest run runs i outer in
      let at = get_or (rows_of_runs runs) (i - run.length) 0 in
      let rest : i - run.length < length (rows_of_runs runs) = omega (arith, within, length-rows run runs, outer) in
      let found = mask_of_row runs (i - run.length) (rise_rest run runs rise) rest in
      let later = row_beyond run at (later_row run runs at found.0 rise found.1) in
      ap (λ (r : ℕ). rank (run ∷ runs) r member) row ∙ rank_later run runs at member later
      ∙ later_place (held_of run) (bits_in (take (i - run.length) (masks_of_runs runs)))
      (bits_below (get_or (masks_of_runs runs) (i - run.length) 0) member) (rank runs at member)
      (rank_bits runs (i - run.length) member (rise_rest run runs rise) rest)
      ∙ ap (λ (n : ℕ). n + bits_below (get_or (masks_of_runs runs) (i - run.length) 0) member) (sym (bits_before_rest run runs i outer))
      ∙ ap (λ (m : ℕ). bits_in (take i (masks_of_runs (run ∷ runs))) + bits_below m member) (sym (mask_rest run runs i outer))
]
