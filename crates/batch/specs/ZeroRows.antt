-- Whole rows that one entry makes zero.
use Rattle.std.specs.Prelude.{◌≡◌, ◌⊎◌, ℕ, ◌+◌, ◌-◌, ◌^◌, ◌<◌, ◌≤◌, List, ◌∷◌, ◌++◌, length, take, drop, slice_index_or}
use Rattle.entry_runs.specs.declared.run.Run.{Run}
use Rattle.entry_runs.specs.Runs.{FitEntry, end_of, run_at}
use Rattle.batch.specs.declared.zero_rows.Joined.{Joined}
use Rattle.batch.specs.Places.{HasRow, row_of}

-- one of these runs has the row
pub record HasZeroRow (runs : List Run) (row : ℕ) : Type 0 where
  pub which : ℕ
  pub within : which < length runs
  pub from : (run_at runs which).first ≤ row
  pub below : row < end_of (run_at runs which)

-- runs of zeros that fit an entry: their rows rise, and none touches the next
pub record AreZeroRuns (runs : List Run) : Type 0 where
  pub fit : FitEntry runs
  pub zeros : (i : ℕ) → i < length runs → (run_at runs i).mask ≡ 0

-- none of the rows from the first on, so many, is one of theirs
abbrev pub AreNew : List Run → (first count : ℕ) → Type 0
AreNew runs first count = (row : ℕ) → first ≤ row → row < first + count → ¬ HasZeroRow runs row

-- Their rows are those of others and the rows from the first on, so many.
pub record HasMore (old : List Run) (first count : ℕ) (new : List Run) : Type 0 where
  pub kept : (row : ℕ) → HasZeroRow old row → HasZeroRow new row
  pub added : (row : ℕ) → first ≤ row → row < first + count → HasZeroRow new row
  pub only : (row : ℕ) → HasZeroRow new row → HasZeroRow old row ⊎ ((first ≤ row) × (row < first + count))

-- no entry has them all
abbrev pub NoneHas : List Run → (first count : ℕ) → Type 0
NoneHas old first count = (runs : List Run) → AreZeroRuns runs → ¬ HasMore old first count runs

-- These rows and masks are those of the runs, written out.
pub record AreRowsOf (runs : List Run) (rows masks : List ℕ) : Type 0 where
  pub each : (i : ℕ) → i < length rows → HasZeroRow runs (row_of rows i)
  pub all : (row : ℕ) → HasZeroRow runs row → HasRow rows row
  pub as_many : length masks ≡ length rows
  pub zeros : (i : ℕ) → i < length rows → slice_index_or masks i 0 ≡ 0
  pub some : 1 ≤ length runs → 1 ≤ length rows

-- How many runs end by a row: those before end by it, and no other does.
pub record GoesBetween (runs : List Run) (row number : ℕ) : Type 0 where
  pub within : number ≤ length runs
  pub before : (i : ℕ) → i < number → end_of (run_at runs i) ≤ row
  pub others : (i : ℕ) → number ≤ i → i < length runs → row < end_of (run_at runs i)

-- Where rows that begin with this one, after so many runs, begin together with the run before that they touch, and its number.
pub record JoinsBefore (runs : List Run) (number first : ℕ) (joined : ℕ × ℕ) : Type 0 where
  pub most : joined.0 ≤ number
  pub least : joined.1 ≤ first
  pub before : (i : ℕ) → i < joined.0 → end_of (run_at runs i) < joined.1
  pub inside : (i : ℕ) → joined.0 ≤ i → i < number → joined.1 ≤ (run_at runs i).first
  pub only : (row : ℕ) → joined.1 ≤ row → row < first → HasZeroRow runs row

-- Where rows that end before this one, with so many runs before them, end together with the run after that they touch, and the number after its own.
pub record JoinsAfter (runs : List Run) (number end : ℕ) (joined : ℕ × ℕ) : Type 0 where
  pub least : number ≤ joined.0
  pub within : joined.0 ≤ length runs
  pub most : end ≤ joined.1
  pub after : (i : ℕ) → joined.0 ≤ i → i < length runs → joined.1 < (run_at runs i).first
  pub inside : (i : ℕ) → number ≤ i → i < joined.0 → end_of (run_at runs i) ≤ joined.1
  pub only : (row : ℕ) → end ≤ row → row < joined.1 → HasZeroRow runs row
  pub below : joined.1 ≤ 2 ^ 32

-- What rows make together with the runs that they touch: those before it end before it, those after it begin after it, and it has the rows of the others and no
-- row but theirs and the given.
pub record IsJoined (runs : List Run) (first count : ℕ) (joined : Joined) : Type 0 where
  pub order : joined.from ≤ joined.to
  pub within : joined.to ≤ length runs
  pub least : joined.first ≤ first
  pub most : first + count ≤ joined.end
  pub before : (i : ℕ) → i < joined.from → end_of (run_at runs i) < joined.first
  pub after : (i : ℕ) → joined.to ≤ i → i < length runs → joined.end < (run_at runs i).first
  pub begins : (i : ℕ) → joined.from ≤ i → i < joined.to → joined.first ≤ (run_at runs i).first
  pub ends : (i : ℕ) → joined.from ≤ i → i < joined.to → end_of (run_at runs i) ≤ joined.end
  pub only : (row : ℕ) → joined.first ≤ row → row < joined.end → HasZeroRow runs row ⊎ ((first ≤ row) × (row < first + count))
  pub below : joined.end ≤ 2 ^ 32

-- runs with one in place of those from one number up to another
abbrev pub replaced : List Run → (from to : ℕ) → Run → List Run
replaced runs from to run = take from runs ++ run ∷ drop to runs

-- with the joined one in place of those that it is made from
abbrev pub with_joined : List Run → Joined → List Run
with_joined runs joined = replaced runs joined.from joined.to (record { first = joined.first; length = joined.end - joined.first; mask = 0 })
