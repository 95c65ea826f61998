-- The rows of runs, and their masks, written out.
use Rattle.std.proofs.Common.{◌≡◌, inl, inr, ℕ, ◌+◌, ◌-◌, ◌<◌, ◌≤◌, List, [], ◌∷◌, length, drop, replicate, get_or, Some, refl, sym, ap, ◌∙◌, arith}
use Rattle.std.proofs.Common.{length-append}
use Rattle.std.specs.List.{range_with_len}
use Rattle.std.specs.List.Sorted.{IsStrictlyIncreasing}
use Rattle.std.proofs.lemmas.Bool.{cases_Bool, cases_lt, cases_order}
use Rattle.std.proofs.lemmas.List.{drop_at, get_or_append_left, get_or-append_right, get_or-replicate, length-replicate}
use Rattle.std.proofs.lemmas.List.FromFn.{get_or-range_with_len, length-range_with_len}
use Rattle.entry_runs.specs.declared.run.Run.{Run}
use Rattle.entry_runs.specs.Body.{has_row, run_of}
use Rattle.entry_runs.specs.Runs.{end_of, end_of_runs}
use Rattle.entry_runs.specs.WrittenOut.{masks_of_runs, rows_of_runs}
use Rattle.entry_runs.proofs.Lookups.{Rise, later_row, rise_rest, row_beyond, row_in, row_is_in, run_here, run_later}
use Rattle.entry_runs.proofs.Same.{same_run}

-- how many there are

pub length-rows : (run : Run) (runs : List Run) → length (rows_of_runs (run ∷ runs)) ≡ run.length + length (rows_of_runs runs)
length-rows run runs =
    length-append (range_with_len run.first run.length) (rows_of_runs runs)
    ∙ ap (λ (n : ℕ). n + length (rows_of_runs runs)) (length-range_with_len run.first run.length)

pub length-masks : (runs : List Run) → length (masks_of_runs runs) ≡ length (rows_of_runs runs)
length-masks [] = refl
length-masks (run ∷ runs) =
    length-append (replicate run.length run.mask) (masks_of_runs runs)
    ∙ omega (arith, length-replicate run.length run.mask, length-masks runs, length-rows run runs)

-- what stands at a place: a row of the first run, or one of the runs after it

pub row_first : (run : Run) (runs : List Run) (i : ℕ) → i < run.length → get_or (rows_of_runs (run ∷ runs)) i 0 ≡ run.first + i
row_first run runs i within =
    get_or_append_left (range_with_len run.first run.length) (rows_of_runs runs) 0 i (omega (arith, length-range_with_len run.first run.length, within))
    ∙ get_or-range_with_len run.first run.length i 0 within

pub row_rest : (run : Run) (runs : List Run) (i : ℕ) → run.length ≤ i → get_or (rows_of_runs (run ∷ runs)) i 0 ≡ get_or (rows_of_runs runs) (i - run.length) 0
row_rest run runs i beyond =
    get_or-append_right (range_with_len run.first run.length) (rows_of_runs runs) run.length i 0 (length-range_with_len run.first run.length) beyond

pub mask_first : (run : Run) (runs : List Run) (i : ℕ) → i < run.length → get_or (masks_of_runs (run ∷ runs)) i 0 ≡ run.mask
mask_first run runs i within =
    get_or_append_left (replicate run.length run.mask) (masks_of_runs runs) 0 i (omega (arith, length-replicate run.length run.mask, within))
    ∙ get_or-replicate run.length i run.mask 0 within

pub mask_rest : (run : Run) (runs : List Run) (i : ℕ) → run.length ≤ i
    → get_or (masks_of_runs (run ∷ runs)) i 0 ≡ get_or (masks_of_runs runs) (i - run.length) 0
mask_rest run runs i beyond =
    get_or-append_right (replicate run.length run.mask) (masks_of_runs runs) run.length i 0 (length-replicate run.length run.mask) beyond

-- and at the first place of the runs after it

row_next : (run next : Run) (runs : List Run) → 1 ≤ next.length → get_or (rows_of_runs (run ∷ next ∷ runs)) run.length 0 ≡ next.first
row_next run next runs some =
    row_rest run (next ∷ runs) run.length (omega arith)
    ∙ ap (λ (i : ℕ). get_or (rows_of_runs (next ∷ runs)) i 0) (none_left run.length)
    ∙ row_first next runs 0 some ∙ omega arith
  where
    none_left : (n : ℕ) → n - n ≡ 0
    none_left n = omega arith

mask_next : (run next : Run) (runs : List Run) → 1 ≤ next.length → get_or (masks_of_runs (run ∷ next ∷ runs)) run.length 0 ≡ next.mask
mask_next run next runs some =
    mask_rest run (next ∷ runs) run.length (omega arith)
    ∙ ap (λ (i : ℕ). get_or (masks_of_runs (next ∷ runs)) i 0) (none_left run.length)
    ∙ mask_first next runs 0 some
  where
    none_left : (n : ℕ) → n - n ≡ 0
    none_left n = omega arith

-- rows with their masks are those of one list of runs

not_longer : (a : Run) (these : List Run) (b : Run) (those : List Run) → Rise (a ∷ these) → rows_of_runs (a ∷ these) ≡ rows_of_runs (b ∷ those)
    → masks_of_runs (a ∷ these) ≡ masks_of_runs (b ∷ those) → a.first ≡ b.first → a.mask ≡ b.mask → a.length < b.length → ⊥
not_longer a [] b those rise rows masks first mask shorter =
    omega (arith, ap length rows, length-rows a [], length-rows b those, shorter)
not_longer a (next ∷ these) b those rise rows masks first mask shorter =
    let some = rise.long 1 (omega arith) in
    let row = sym (row_next a next these some) ∙ ap (λ (xs : List ℕ). get_or xs a.length 0) rows ∙ row_first b those a.length shorter in
    let one = sym (mask_next a next these some) ∙ ap (λ (xs : List ℕ). get_or xs a.length 0) masks ∙ mask_first b those a.length shorter in
    (rise.follow 0 (omega arith)).differs (omega (arith, row, first)) (mask ∙ sym one)

pub one_list : (these those : List Run) → Rise these → Rise those → rows_of_runs these ≡ rows_of_runs those
    → masks_of_runs these ≡ masks_of_runs those → these ≡ those
one_list [] [] rise rise' rows masks = refl
one_list [] (b ∷ those) rise rise' rows masks = absurd (omega (arith, ap length rows, length-rows b those, rise'.long 0 (omega arith)))
one_list (a ∷ these) [] rise rise' rows masks = absurd (omega (arith, ap length rows, length-rows a these, rise.long 0 (omega arith)))
one_list (a ∷ these) (b ∷ those) rise rise' rows masks =
    let row = sym (row_first a these 0 (rise.long 0 (omega arith))) ∙ ap (λ (xs : List ℕ). get_or xs 0 0) rows ∙ row_first b those 0
    (rise'.long 0 (omega arith)) in
    let mask = sym (mask_first a these 0 (rise.long 0 (omega arith))) ∙ ap (λ (xs : List ℕ). get_or xs 0 0) masks
    ∙ mask_first b those 0 (rise'.long 0 (omega arith)) in
    let first : a.first ≡ b.first = omega (arith, row) in
    let long : a.length ≡ b.length = elim (cases_order a.length b.length) [
      | inl same ↦ same
      | inr (inl shorter) ↦ absurd (not_longer a these b those rise rows masks first mask shorter)
      | inr (inr longer) ↦ absurd (not_longer b those a these rise' (sym rows) (sym masks) (sym first) (sym mask) longer)
    ] in
    let rest = one_list these those (rise_rest a these rise) (rise_rest b those rise')
    (sym (drop_at (range_with_len a.first a.length) (rows_of_runs these) a.length (length-range_with_len a.first a.length))
    ∙ ap (drop a.length) rows
    ∙ drop_at (range_with_len b.first b.length) (rows_of_runs those) a.length (length-range_with_len b.first b.length ∙ sym long))
    (sym (drop_at (replicate a.length a.mask) (masks_of_runs these) a.length (length-replicate a.length a.mask))
    ∙ ap (drop a.length) masks
    ∙ drop_at (replicate b.length b.mask) (masks_of_runs those) a.length (length-replicate b.length b.mask ∙ sym long)) in
    ap (λ (r : Run). r ∷ these) (same_run a b first long mask) ∙ ap (λ (rs : List Run). b ∷ rs) rest

-- rows rise

first_row : (run : Run) (runs : List Run) → Rise (run ∷ runs) → 0 < length (rows_of_runs runs) → end_of run ≤ get_or (rows_of_runs runs) 0 0
first_row run [] rise some = absurd (omega (arith, some))
first_row run (next ∷ runs) rise some =
    omega (arith, row_first next runs 0 (rise.long 1 (omega arith)), (rise.follow 0 (omega arith)).above)

pub rows_rise : (runs : List Run) → Rise runs → IsStrictlyIncreasing (rows_of_runs runs)
rows_rise [] rise = λ k within. absurd (omega (arith, within))
rows_rise (run ∷ runs) rise = λ k within. elim (cases_lt (k + 1) run.length) [
  | inl inner ↦ omega (arith, row_first run runs k (omega (arith, inner)), row_first run runs (k + 1) inner)
  | inr outer ↦
      let next = row_rest run runs (k + 1) outer in
      elim (cases_lt k run.length) [
        | inl last ↦
            let none : k + 1 - run.length ≡ 0 = omega (arith, last, outer) in
            let some : 0 < length (rows_of_runs runs) = omega (arith, within, length-rows run runs, outer) in
            let at : get_or (rows_of_runs (run ∷ runs)) (k + 1) 0 ≡ get_or (rows_of_runs runs) 0 0 =
            next ∙ ap (λ (i : ℕ). get_or (rows_of_runs runs) i 0) none in
            omega (arith, row_first run runs k last, at, first_row run runs rise some, last)
        | inr beyond ↦
            let step : k + 1 - run.length ≡ k - run.length + 1 = omega (arith, beyond) in
            let here = row_rest run runs k beyond in
            let there : get_or (rows_of_runs (run ∷ runs)) (k + 1) 0 ≡ get_or (rows_of_runs runs) (k - run.length + 1) 0 =
            next ∙ ap (λ (i : ℕ). get_or (rows_of_runs runs) i 0) step in
            let rises = rows_rise runs (rise_rest run runs rise) (k - run.length) (omega (arith, within, length-rows run runs, beyond)) in
            omega (arith, here, there, rises)
      ]
]

-- and end with the last run

first_below : (run : Run) (runs : List Run) → Rise (run ∷ runs) → end_of run ≤ end_of_runs (run ∷ runs)
first_below run [] rise = omega arith
first_below run (next ∷ runs) rise =
    let rest = first_below next runs (rise_rest run (next ∷ runs) rise) in
    omega (arith, rest, (rise.follow 0 (omega arith)).above)

rest_below : (run : Run) (runs : List Run) → 0 < length (rows_of_runs runs) → end_of_runs (run ∷ runs) ≡ end_of_runs runs
rest_below run [] some = absurd (omega (arith, some))
rest_below run (next ∷ runs) some = refl

pub rows_end : (runs : List Run) (i : ℕ) → Rise runs → i < length (rows_of_runs runs) → get_or (rows_of_runs runs) i 0 < end_of_runs runs
rows_end [] i rise within = absurd (omega (arith, within))
rows_end (run ∷ runs) i rise within = elim (cases_lt i run.length) [
  | inl inner ↦ omega (arith, row_first run runs i inner, inner, first_below run runs rise)
  | inr outer ↦
      let rest : i - run.length < length (rows_of_runs runs) = omega (arith, within, length-rows run runs, outer) in
      omega (arith, row_rest run runs i outer, rows_end runs (i - run.length) (rise_rest run runs rise) rest, rest_below run runs (omega (arith, rest)))
]

-- the run of a row that is written out has the mask beside it
pub mask_of_row : (runs : List Run) (i : ℕ) → Rise runs → i < length (rows_of_runs runs)
    → (run : Run) × (run_of runs (get_or (rows_of_runs runs) i 0) ≡ Some run) × (run.mask ≡ get_or (masks_of_runs runs) i 0)
mask_of_row [] i rise within = absurd (omega (arith, within))
mask_of_row (run ∷ runs) i rise within = elim (cases_lt i run.length) [
  | inl inner ↦
      let row = row_first run runs i inner in (
        run,
        run_here run runs (get_or (rows_of_runs (run ∷ runs)) i 0)
            (row_is_in run (get_or (rows_of_runs (run ∷ runs)) i 0) (omega (arith, row)) (omega (arith, row, inner))),
        sym (mask_first run runs i inner),
      )
  | inr outer ↦
      let found = mask_of_row runs (i - run.length) (rise_rest run runs rise) (omega (arith, within, length-rows run runs, outer)) in
      let row = row_rest run runs i outer in
      let of_row : run_of runs (get_or (rows_of_runs (run ∷ runs)) i 0) ≡ Some found.0 = ap (run_of runs) row ∙ found.1 in
      let beyond = later_row run runs (get_or (rows_of_runs (run ∷ runs)) i 0) found.0 rise of_row in (
        found.0,
        run_later run runs (get_or (rows_of_runs (run ∷ runs)) i 0) (row_beyond run (get_or (rows_of_runs (run ∷ runs)) i 0) beyond) ∙ of_row,
        found.2 ∙ sym (mask_rest run runs i outer),
      )
]

-- a row of a run is written out
pub row_written : (runs : List Run) (row : ℕ) (run : Run) → run_of runs row ≡ Some run
    → (i : ℕ) × (i < length (rows_of_runs runs)) × (get_or (rows_of_runs runs) i 0 ≡ row)
row_written [] row run is = absurd (cc)
row_written (first ∷ runs) row run is = elim (cases_Bool (has_row first row)) [
  | inl here ↦
      let rows = row_in first row here in
      let inner : row - first.first < first.length = omega (arith, rows.0, rows.1) in
      (row - first.first, omega (arith, inner, length-rows first runs), row_first first runs (row - first.first) inner ∙ omega (arith, rows.0))
  | inr later ↦
      let found = row_written runs row run (sym (run_later first runs row later) ∙ is) in
      let back : first.length + found.0 - first.length ≡ found.0 = omega arith in (
        first.length + found.0,
        omega (arith, found.1, length-rows first runs),
        row_rest first runs (first.length + found.0) (omega arith) ∙ ap (λ (i : ℕ). get_or (rows_of_runs runs) i 0) back ∙ found.2,
      )
]
