-- The rows of runs of zeros, written out: there is one list of runs that has them.
use Rattle.std.proofs.Common.{◌≡◌, inl, inr, ℕ, zero, suc, ◌+◌, ◌-◌, ◌<◌, ◌≤◌, List, [], ◌∷◌, length, sym, ◌∙◌, ap, arith}
use Rattle.std.specs.Prelude.{slice_index_or}
use Rattle.std.proofs.lemmas.Bool.{cases_lt}
use Rattle.std.proofs.lemmas.List.{ext_get_or, take_all}
use Rattle.entry_runs.specs.declared.run.Run.{Run}
use Rattle.entry_runs.specs.Runs.{end_of, run_at}
use Rattle.entry_runs.specs.WrittenOut.{masks_of_runs, rows_of_runs}
use Rattle.entry_runs.proofs.Rows.{length-masks, length-rows, mask_first, mask_rest, one_list, row_first, row_rest, rows_rise}
use Rattle.batch.specs.Places.{HasRow, row_of}
use Rattle.batch.specs.ZeroRows.{AreRowsOf, AreZeroRuns, HasMore, HasZeroRow}
use Rattle.batch.proofs.OnePlan.{prefix_is, rises}
use Rattle.batch.proofs.ZeroOrder.{AreSpread, spread_rise}

-- a row of a run is written out
row_listed : (runs : List Run) (row i : ℕ) → i < length runs → (run_at runs i).first ≤ row → row < end_of (run_at runs i) → HasRow (rows_of_runs runs) row
row_listed [] row i inside from below = absurd (omega (arith, inside))
row_listed (run ∷ runs) row zero inside from below = record {
  place = row - run.first;
  within = omega (arith, length-rows run runs, from, below);
  is = row_first run runs (row - run.first) (omega (arith, from, below)) ∙ omega (arith, from);
}
row_listed (run ∷ runs) row (suc i) inside from below =
    let rest = row_listed runs row i (omega (arith, inside)) from below in
    let back : run.length + rest.place - run.length ≡ rest.place = omega arith in
    record {
      place = run.length + rest.place;
      within = omega (arith, length-rows run runs, rest.within);
      is = row_rest run runs (run.length + rest.place) (omega arith) ∙ ap (row_of (rows_of_runs runs)) back ∙ rest.is;
    }

pub has_listed : (runs : List Run) (row : ℕ) → HasZeroRow runs row → HasRow (rows_of_runs runs) row
has_listed runs row has = row_listed runs row has.which has.within has.from has.below

-- and what is written out is a row of a run
pub listed_row : (runs : List Run) (i : ℕ) → i < length (rows_of_runs runs) → HasZeroRow runs (row_of (rows_of_runs runs) i)
listed_row [] i inside = absurd (omega (arith, inside))
listed_row (run ∷ runs) i inside = elim (cases_lt i run.length) [
  | inl inner ↦
      let at = row_first run runs i inner in
      record { which = 0; within = omega arith; from = omega (arith, at); below = omega (arith, at, inner) }
  | inr outer ↦
      let at = row_rest run runs i outer in
      let rest = listed_row runs (i - run.length) (omega (arith, inside, length-rows run runs, outer)) in
      record { which = suc rest.which; within = omega (arith, rest.within); from = omega (arith, at, rest.from); below = omega (arith, at, rest.below) }
]

-- each has the mask 0
pub mask_zero : (runs : List Run) (i : ℕ) → ((k : ℕ) → k < length runs → (run_at runs k).mask ≡ 0) → i < length (rows_of_runs runs)
    → slice_index_or (masks_of_runs runs) i 0 ≡ 0
mask_zero [] i zeros inside = absurd (omega (arith, inside))
mask_zero (run ∷ runs) i zeros inside = elim (cases_lt i run.length) [
  | inl inner ↦ mask_first run runs i inner ∙ zeros 0 (omega arith)
  | inr outer ↦ mask_rest run runs i outer
      ∙ mask_zero runs (i - run.length) (λ k within. zeros (suc k) (omega (arith, within))) (omega (arith, inside, length-rows run runs, outer))
]

pub are_rows : (runs : List Run) → AreZeroRuns runs → AreRowsOf runs (rows_of_runs runs) (masks_of_runs runs)
are_rows runs are = record {
  each = listed_row runs;
  all = has_listed runs;
  as_many = length-masks runs;
  zeros = λ i inside. mask_zero runs i are.zeros inside;
  some = λ some.
      let long = (are.fit.each 0 (omega (arith, some))).long in
      let has = has_listed runs (run_at runs 0).first (record { which = 0; within = omega (arith, some); from = omega arith; below = omega (arith, long) }) in
      omega (arith, has.within);
}

-- runs with the same rows are the same
pub same_runs : (these those : List Run) → AreSpread these → AreSpread those → ((row : ℕ) → HasZeroRow these row → HasZeroRow those row)
    → ((row : ℕ) → HasZeroRow those row → HasZeroRow these row) → these ≡ those
same_runs these those are are' there back =
    let rows = rows_of_runs these in
    let all = rows_of_runs those in
    let one = rises rows (rows_rise these (spread_rise these are)) in
    let other = rises all (rows_rise those (spread_rise those are')) in
    let first = prefix_is rows all one other (λ i inside. has_listed those (row_of rows i) (there (row_of rows i) (listed_row these i inside)))
    (λ j inside. inl (has_listed these (row_of all j) (back (row_of all j) (listed_row those j inside)))) in
    let second = prefix_is all rows other one (λ i inside. has_listed these (row_of all i) (back (row_of all i) (listed_row those i inside)))
    (λ j inside. inl (has_listed those (row_of rows j) (there (row_of rows j) (listed_row these j inside)))) in
    let same : rows ≡ all = sym first.1 ∙ take_all (length rows) all second.0 in
    let masks = ext_get_or 0 (masks_of_runs these) (masks_of_runs those) (length-masks these ∙ ap length same ∙ sym (length-masks those)) (λ i inside.
    let inner : i < length rows = omega (arith, inside, length-masks these) in
    mask_zero these i are.zeros inner ∙ sym (mask_zero those i are'.zeros (omega (arith, inner, ap length same)))) in
    one_list these those (spread_rise these are) (spread_rise those are') same masks

-- so there is one list with more rows
pub one_more : (old these those : List Run) (first count : ℕ) → AreSpread these → AreSpread those → HasMore old first count these
    → HasMore old first count those → these ≡ those
one_more old these those first count are are' more more' = same_runs these those are are' (over these those more more') (over those these more' more)
  where
    over : (these those : List Run) → HasMore old first count these → HasMore old first count those → (row : ℕ) → HasZeroRow these row → HasZeroRow those row
    over these those more more' row has = elim (more.only row has) [
      | inl was ↦ more'.kept row was
      | inr given ↦ more'.added row given.0 given.1
    ]
