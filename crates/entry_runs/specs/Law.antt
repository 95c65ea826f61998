-- What the spelling of runs and the places in a body keep.
use Rattle.std.specs.Prelude.{◌≡◌, ◌⊎◌, ℕ, ◌+◌, ◌<◌, true, List, length, take, slice_index, Some}
use Rattle.std.specs.List.Sorted.{IsStrictlyIncreasing}
use Rattle.entry_runs.specs.declared.run.Run.{Run}
use Rattle.entry_runs.specs.declared.sizes.TheConstants.{RUNS_BYTES}
use Rattle.entry_runs.specs.Body.{bits_below, has_row, holds, in_body, rank, rank_in_run, run_of}
use Rattle.entry_runs.specs.Runs.{AreRuns, FitEntry, end_of_runs, held_in, run_at}
use Rattle.entry_runs.specs.Spelling.{runs_bytes}
use Rattle.entry_runs.specs.WrittenOut.{bits_in, masks_of_runs, rows_of_runs}

-- the spelling of runs has 464 bytes
abbrev pub FillsItsBytes : Type 0
FillsItsBytes = (runs : List Run) → AreRuns runs → length (runs_bytes runs) ≡ RUNS_BYTES

-- the same bytes and the same count spell the same runs
abbrev pub SpellsOneList : Type 0
SpellsOneList = (first second : List Run) → AreRuns first → AreRuns second → runs_bytes first ≡ runs_bytes second → length first ≡ length second
    → first ≡ second

-- rows with their masks are those of one list of runs
abbrev pub AreOfOneList : Type 0
AreOfOneList = (first second : List Run) → FitEntry first → FitEntry second → rows_of_runs first ≡ rows_of_runs second
    → masks_of_runs first ≡ masks_of_runs second → first ≡ second

-- each row has one mask, and rows rise
abbrev pub RowsRise : Type 0
RowsRise = (runs : List Run) → FitEntry runs → (length (masks_of_runs runs) ≡ length (rows_of_runs runs)) × IsStrictlyIncreasing (rows_of_runs runs)

-- each is below the row at which the runs end
abbrev pub RowsEnd : Type 0
RowsEnd = (runs : List Run) (i : ℕ) → FitEntry runs → i < length (rows_of_runs runs) → slice_index (rows_of_runs runs) i < end_of_runs runs

-- the run of a row that is written out has the mask that stands beside the row
abbrev pub RowsHaveTheirMasks : Type 0
RowsHaveTheirMasks = (runs : List Run) (i : ℕ) → FitEntry runs → i < length (rows_of_runs runs)
    → (run : Run) × (run_of runs (slice_index (rows_of_runs runs) i) ≡ Some run) × (run.mask ≡ slice_index (masks_of_runs runs) i)

-- a row of a run is one that is written out
abbrev pub RowsAreWrittenOut : Type 0
RowsAreWrittenOut = (runs : List Run) (row : ℕ) (run : Run) → run_of runs row ≡ Some run
    → (i : ℕ) × (i < length (rows_of_runs runs)) × (slice_index (rows_of_runs runs) i ≡ row)

-- a row of the i-th run is found in it
abbrev pub RunsAreFound : Type 0
RunsAreFound = (runs : List Run) (i row : ℕ) → FitEntry runs → i < length runs → has_row (run_at runs i) row ≡ true → run_of runs row ≡ Some (run_at runs i)

-- the rows of the i-th run stand after those of the runs before it
abbrev pub RowsStandByRun : Type 0
RowsStandByRun = (runs : List Run) (i k : ℕ) → i < length runs → k < (run_at runs i).length
    → slice_index (rows_of_runs runs) (length (rows_of_runs (take i runs)) + k) ≡ (run_at runs i).first + k

-- what a body has is held
abbrev pub BodiesAreHeld : Type 0
BodiesAreHeld = (members : ℕ) (runs : List Run) (row member : ℕ) → in_body runs row member ≡ true → holds members runs row member ≡ true

-- one sector comes before another in a body: its row is lower, or its member in the same row
abbrev pub Before : (row member row' member' : ℕ) → Type 0
Before row member row' member' = (row < row') ⊎ ((row ≡ row') × (member < member'))

-- each sector of a body has a place in it
abbrev pub RanksAreWithin : Type 0
RanksAreWithin = (runs : List Run) (row member : ℕ) → FitEntry runs → in_body runs row member ≡ true → rank runs row member < held_in runs

-- a sector that comes before another has a lower place
abbrev pub RanksRise : Type 0
RanksRise = (runs : List Run) (row member row' member' : ℕ) → FitEntry runs → in_body runs row member ≡ true → in_body runs row' member' ≡ true
    → Before row member row' member' → rank runs row member < rank runs row' member'

-- a place is that of one sector
abbrev pub RanksLieApart : Type 0
RanksLieApart = (runs : List Run) (row member row' member' : ℕ) → FitEntry runs → in_body runs row member ≡ true → in_body runs row' member' ≡ true
    → rank runs row member ≡ rank runs row' member' → (row ≡ row') × (member ≡ member')

-- each place is that of a sector: a body has no gap
abbrev pub RanksFill : Type 0
RanksFill = (runs : List Run) (k : ℕ) → FitEntry runs → k < held_in runs
    → (row : ℕ) × (member : ℕ) × (in_body runs row member ≡ true) × (rank runs row member ≡ k)

-- a sector of the i-th run stands after what the runs before it hold
abbrev pub RanksStandByRun : Type 0
RanksStandByRun = (runs : List Run) (i row member : ℕ) → FitEntry runs → i < length runs → has_row (run_at runs i) row ≡ true
    → rank runs row member ≡ held_in (take i runs) + rank_in_run (run_at runs i) row member

-- A body has a sector for each bit of the masks that are written out.
abbrev pub BodiesFollowMasks : Type 0
BodiesFollowMasks = (runs : List Run) → held_in runs ≡ bits_in (masks_of_runs runs)

-- before a sector of a row that is written out stand those of the masks before its, and those of the members below it
abbrev pub RanksFollowMasks : Type 0
RanksFollowMasks = (runs : List Run) (i member : ℕ) → FitEntry runs → i < length (rows_of_runs runs)
    → rank runs (slice_index (rows_of_runs runs) i) member ≡ bits_in (take i (masks_of_runs runs)) + bits_below (slice_index (masks_of_runs runs) i) member
