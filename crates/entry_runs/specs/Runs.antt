-- What the runs of an entry may be.
use Rattle.std.specs.Prelude.{◌≡◌, ◌≢◌, ℕ, suc, ◌+◌, ◌*◌, ◌^◌, ◌<◌, ◌≤◌, ◌==◌, if◌then◌else◌, List, [], ◌∷◌, length, slice_index_or, count_ones}
use Rattle.entry_runs.specs.declared.run.Run.{Run}
use Rattle.entry_runs.specs.declared.sizes.TheConstants.{MOST_HELD, MOST_ROWS, MOST_RUNS}

-- the run of this number in a list, and a run of no rows where the list has none
abbrev pub run_at : List Run → (i : ℕ) → Run
run_at runs i = slice_index_or runs i (record { first = 0; length = 0; mask = 0 })

-- the row after a run's last
abbrev pub end_of : Run → ℕ
end_of run = run.first + run.length

-- the row after the last of all, 0 where there is no run
abbrev pub end_of_runs : List Run → ℕ
end_of_runs [] = 0
end_of_runs (run ∷ []) = end_of run
end_of_runs (run ∷ next ∷ runs) = end_of_runs (next ∷ runs)

-- how many rows of a run have a mask
abbrev pub masked_of : Run → ℕ
masked_of run = if run.mask == 0 then 0 else run.length

abbrev pub masked_in : List Run → ℕ
masked_in [] = 0
masked_in (run ∷ runs) = masked_of run + masked_in runs

-- how many sectors of a body the rows of a run have: one for each bit of the mask, so a run of zeros has none
abbrev pub held_of : Run → ℕ
held_of run = run.length * count_ones run.mask

abbrev pub held_in : List Run → ℕ
held_in [] = 0
held_in (run ∷ runs) = held_of run + held_in runs

-- A run has rows, each below 2^32, and a mask of two members at least, or the mask 0 of a run of zeros.
pub record IsRun (run : Run) : Type 0 where
  pub long : 1 ≤ run.length
  pub length_most : run.length < 2 ^ 16
  pub mask_most : run.mask < 2 ^ 8
  pub masked : run.mask ≢ 0 → 2 ≤ count_ones run.mask
  pub below : end_of run ≤ 2 ^ 32

-- each of these is a run
abbrev pub AreEach : List Run → Type 0
AreEach runs = (i : ℕ) → i < length runs → IsRun (run_at runs i)

-- the rows of a run are above those of the one before, and where no row lies between them their masks differ
pub record Follows (run next : Run) : Type 0 where
  pub above : end_of run ≤ next.first
  pub differs : end_of run ≡ next.first → run.mask ≢ next.mask

-- These runs fit an entry: they are few, each is a run and follows the one before, and the rows that have a mask and the sectors that
-- those rows hold are not too many.
pub record FitEntry (runs : List Run) : Type 0 where
  pub few : length runs ≤ MOST_RUNS
  pub each : AreEach runs
  pub follow : (i : ℕ) → suc i < length runs → Follows (run_at runs i) (run_at runs (suc i))
  pub rows_most : masked_in runs ≤ MOST_ROWS
  pub held_most : held_in runs ≤ MOST_HELD

-- the runs of an entry: one at least, and they fit
pub record AreRuns (runs : List Run) : Type 0 where
  pub some : 1 ≤ length runs
  pub fit : FitEntry runs
