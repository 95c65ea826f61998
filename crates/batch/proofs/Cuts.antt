-- The first so many rows of an entry's runs are those of runs that fit an entry too.
use Rattle.std.proofs.Common.{◌≡◌, inl, inr, ℕ, zero, suc, ◌+◌, ◌-◌, ◌<◌, ◌≤◌, ◌==◌, Bool, true, false, cond, List, [], ◌∷◌, ◌++◌, length, take, replicate}
use Rattle.std.proofs.Common.{refl, sym, ◌∙◌, ap, arith}
use Rattle.std.proofs.Math.Nat.{mul-le-mul_right}
use Rattle.std.proofs.Math.Seq.{take-append-add}
use Rattle.std.proofs.lemmas.Bool.{cases_eq, cases_lt}
use Rattle.std.proofs.lemmas.List.{append-nil, ext_get_or, get_or-take, length-replicate, length-take-le, take-append-le, take-replicate}
use Rattle.std.proofs.lemmas.List.FromFn.{get_or-range_with_len, length-range_with_len}
use Rattle.std.specs.List.{range_with_len}
use Rattle.std.specs.Prelude.{count_ones}
use Rattle.entry_runs.specs.declared.run.Run.{Run}
use Rattle.entry_runs.specs.Runs.{AreEach, FitEntry, Follows, held_in, masked_in, run_at}
use Rattle.entry_runs.specs.WrittenOut.{masks_of_runs, rows_of_runs}
use Rattle.entry_runs.proofs.Rows.{length-rows}

-- each run follows the one before
abbrev AllFollow : List Run → Type 0
AllFollow runs = (i : ℕ) → suc i < length runs → Follows (run_at runs i) (run_at runs (suc i))

-- runs with the first so many rows of others, which keep what those keep
pub record IsCut (runs : List Run) (n : ℕ) (cut : List Run) : Type 0 where
  pub rows : rows_of_runs cut ≡ take n (rows_of_runs runs)
  pub masks : masks_of_runs cut ≡ take n (masks_of_runs runs)
  pub few : length cut ≤ length runs
  pub each : AreEach runs → AreEach cut
  pub starts : 1 ≤ length cut → (1 ≤ length runs) × ((run_at cut 0).first ≡ (run_at runs 0).first) × ((run_at cut 0).mask ≡ (run_at runs 0).mask)
  pub follow : ((i : ℕ) → suc i < length runs → Follows (run_at runs i) (run_at runs (suc i)))
      → (i : ℕ) → suc i < length cut → Follows (run_at cut i) (run_at cut (suc i))
  pub masked : masked_in cut ≤ masked_in runs
  pub held : held_in cut ≤ held_in runs

-- no rows

no_rows : (runs : List Run) (n : ℕ) → n ≡ 0 → IsCut runs n []
no_rows runs n none = record {
  rows = sym (ap (λ (m : ℕ). take m (rows_of_runs runs)) none);
  masks = sym (ap (λ (m : ℕ). take m (masks_of_runs runs)) none);
  few = omega arith;
  each = λ each i inside. absurd (omega (arith, inside));
  starts = λ some. absurd (omega (arith, some));
  follow = λ follow i inside. absurd (omega (arith, inside));
  masked = omega arith;
  held = omega arith;
}

-- some of the first run's

take_range : (a n k : ℕ) → k ≤ n → take k (range_with_len a n) ≡ range_with_len a k
take_range a n k within =
    let all = length-range_with_len a n in
    let long = length-take-le k (range_with_len a n) (omega (arith, all, within)) in
    ext_get_or 0 (take k (range_with_len a n)) (range_with_len a k) (long ∙ sym (length-range_with_len a k)) (λ i inside.
    let below : i < k = omega (arith, inside, long) in
    get_or-take k (range_with_len a n) i 0 below ∙ get_or-range_with_len a n i 0 (omega (arith, below, within)) ∙ sym (get_or-range_with_len a k i 0 below))

-- a run with fewer rows
abbrev shorter : Run → (n : ℕ) → Run
shorter run n = record run { length = n }

fewer_masked : (b : Bool) (m n : ℕ) → m ≤ n → cond b 0 m ≤ cond b 0 n
fewer_masked true m n least = omega arith
fewer_masked false m n least = omega (arith, least)

some_rows : (run : Run) (runs : List Run) (n : ℕ) → 1 ≤ n → n ≤ run.length → IsCut (run ∷ runs) n (shorter run n ∷ [])
some_rows run runs n some within =
    let rows = range_with_len run.first run.length in
    let masks = replicate run.length run.mask in
    record {
      rows = append-nil (range_with_len run.first n) ∙ sym (take_range run.first run.length n within)
          ∙ sym (take-append-le n rows (rows_of_runs runs) (omega (arith, length-range_with_len run.first run.length, within)));
      masks = append-nil (replicate n run.mask) ∙ sym (take-replicate n run.length run.mask within)
          ∙ sym (take-append-le n masks (masks_of_runs runs) (omega (arith, length-replicate run.length run.mask, within)));
      few = omega arith;
      each = λ each i inside. one each i inside;
      starts = λ is. (omega arith, refl, refl);
      follow = λ follow i inside. absurd (omega (arith, inside));
      masked = omega (arith, fewer_masked (run.mask == 0) n run.length within);
      held = omega (arith, mul-le-mul_right {m = n} {n = run.length} (count_ones run.mask) within);
    }
  where
    one : AreEach (run ∷ runs) → AreEach (shorter run n ∷ [])
    one each zero inside =
        let is = each 0 (omega arith) in
        record {
          long = some;
          length_most = omega (arith, is.length_most, within);
          mask_most = is.mask_most;
          masked = is.masked;
          below = omega (arith, is.below, within);
        }
    one each (suc i) inside = absurd (omega (arith, inside))

-- the first run, and some of the rest

run_more : (run : Run) (runs cut : List Run) (n : ℕ) → run.length < n → IsCut runs (n - run.length) cut → IsCut (run ∷ runs) n (run ∷ cut)
run_more run runs cut n beyond is =
    let rows = range_with_len run.first run.length in
    let masks = replicate run.length run.mask in
    let by_rows : n ≡ length rows + (n - run.length) = omega (arith, length-range_with_len run.first run.length, beyond) in
    let by_masks : n ≡ length masks + (n - run.length) = omega (arith, length-replicate run.length run.mask, beyond) in
    record {
      rows = ap (λ (list : List ℕ). rows ++ list) is.rows ∙ sym (take-append-add rows (rows_of_runs runs) (n - run.length))
          ∙ sym (ap (λ (m : ℕ). take m (rows ++ rows_of_runs runs)) by_rows);
      masks = ap (λ (list : List ℕ). masks ++ list) is.masks ∙ sym (take-append-add masks (masks_of_runs runs) (n - run.length))
          ∙ sym (ap (λ (m : ℕ). take m (masks ++ masks_of_runs runs)) by_masks);
      few = omega (arith, is.few);
      each = each_one;
      starts = λ some. (omega arith, refl, refl);
      follow = follow_on;
      masked = omega (arith, is.masked);
      held = omega (arith, is.held);
    }
  where
    each_one : AreEach (run ∷ runs) → AreEach (run ∷ cut)
    each_one each zero inside = each 0 (omega arith)
    each_one each (suc i) inside = is.each (λ k within. each (suc k) (omega (arith, within))) i (omega (arith, inside))

    first_follows : Follows run (run_at runs 0) → (run_at cut 0).first ≡ (run_at runs 0).first → (run_at cut 0).mask ≡ (run_at runs 0).mask
        → Follows run (run_at cut 0)
    first_follows follows first mask = record {
      above = omega (arith, follows.above, first);
      differs = λ touch same. follows.differs (omega (arith, touch, first)) (same ∙ mask);
    }

    follow_on : AllFollow (run ∷ runs) → AllFollow (run ∷ cut)
    follow_on follow zero inside =
        let starts = is.starts (omega (arith, inside)) in
        first_follows (follow 0 (omega (arith, starts.0))) starts.1 starts.2
    follow_on follow (suc i) inside = is.follow (λ k within. follow (suc k) (omega (arith, within))) i (omega (arith, inside))

pub cut_at : (runs : List Run) (n : ℕ) → n ≤ length (rows_of_runs runs) → (cut : List Run) × IsCut runs n cut
cut_at [] n within = ([], no_rows [] n (omega (arith, within)))
cut_at (run ∷ runs) n within = elim (cases_lt run.length n) [
  | inl beyond ↦
      let rest = cut_at runs (n - run.length) (omega (arith, within, length-rows run runs)) in
      (run ∷ rest.0, run_more run runs rest.0 n beyond rest.1)
  | inr inner ↦ elim (cases_eq n 0) [
    | inl none ↦ ([], no_rows (run ∷ runs) n none)
    | inr some ↦ (shorter run n ∷ [], some_rows run runs n (omega (arith, some)) inner)
  ]
]

-- they fit an entry where those do
pub cut_fits : (runs cut : List Run) (n : ℕ) → IsCut runs n cut → FitEntry runs → FitEntry cut
cut_fits runs cut n is fit = record {
  few = omega (arith, is.few, fit.few);
  each = is.each fit.each;
  follow = is.follow fit.follow;
  rows_most = omega (arith, is.masked, fit.rows_most);
  held_most = omega (arith, is.held, fit.held_most);
}
