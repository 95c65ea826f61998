-- What a scrub promises.
use Rattle.std.specs.Prelude.{◌≡◌, ◌⊎◌, ℕ, ◌+◌, ◌-◌, ◌<◌, ◌≤◌, min, List, map, length, slice_get, Contains, Option, Result, Ok, Err}
use Rattle.std.specs.List.{range_with_len}
use Rattle.std.specs.List.Sorted.{IsStrictlyIncreasing}
use Rattle.sector_model.specs.declared.refusal.Refusal.{Refusal}
use Rattle.sector_model.specs.declared.refusal.Refusal.TheVariants.{Incomplete, TwoLost, Worn}
use Rattle.sector_model.specs.History.{Bytes, Slots, disk_of, sector_of}
use Rattle.sector_model.specs.Readable.{readable}
use Rattle.sector_model.specs.Reads.{HasRead}
use Rattle.layout_map.specs.declared.sizes.TheConstants.{FIRST_ROW}
use Rattle.parity.specs.Xor.{IsSoundRow}
use Rattle.superblock.specs.declared.table.Table.{Table}
use Rattle.superblock.specs.NextTables.{IsComplete}
use Rattle.array_io.specs.Believed.Holds.{row_count}
use Rattle.array_io.specs.Believed.ArrayCalls.{KeepsTheList}
use Rattle.array_io.specs.Believed.Views.{ArrayView, GoesOn, HasEnded, IsEndOf, StaysButForFailures}

-- the sectors of the members in a row, as they stand
abbrev pub row_in : Table → Slots → (row : ℕ) → List Bytes
row_in table image row = map (λ member. sector_of (disk_of (image member)) (FIRST_ROW + row))
    (range_with_len 0 table.geometry.members)

-- exactly the rows that are not sound, rising
pub record AreUnsound (table : Table) (image : Slots) (rows : List ℕ) : Type 0 where
  pub rising : IsStrictlyIncreasing rows
  pub unsound : (row : ℕ) → Contains rows row → (row < row_count table) × ¬ IsSoundRow (row_in table image row)
  pub all : (row : ℕ) → row < row_count table → Contains rows row ⊎ IsSoundRow (row_in table image row)

-- how many rows a part has, of so many from `first` on: none past the set's last
abbrev pub rows_in_part : (all first rows : ℕ) → ℕ
rows_in_part all first rows = min rows (all - first)

-- a row of such a part
pub record IsInPart (all first rows row : ℕ) : Type 0 where
  pub from_first : first ≤ row
  pub before_end : row < first + rows
  pub of_set : row < all

-- exactly the rows of a part that are not sound, rising
pub record AreUnsoundIn (table : Table) (image : Slots) (first count : ℕ) (rows : List ℕ) : Type 0 where
  pub rising : IsStrictlyIncreasing rows
  pub unsound : (row : ℕ) → Contains rows row → IsInPart (row_count table) first count row
      × ¬ IsSoundRow (row_in table image row)
  pub all : (row : ℕ) → IsInPart (row_count table) first count row → Contains rows row
      ⊎ IsSoundRow (row_in table image row)

-- what a scrub tells: how many rows it looked at, how many of them are not sound, and which of these is the first
pub record Report : Type 0 where
  pub rows : ℕ
  pub bad : ℕ
  pub first_bad : Option ℕ

-- it tells of these unsound rows
pub record Tells (table : Table) (unsound : List ℕ) (report : Report) : Type 0 where
  pub rows : report.rows ≡ row_count table
  pub bad : report.bad ≡ length unsound
  pub first_bad : report.first_bad ≡ slice_get unsound 0

-- A scrub's report: on any bank it tells of some rows of the set, each of them once, and on an honest one of exactly
-- those that are not sound.
pub record IsReport (honest : Type 0) (table : Table) (image : Slots) (report : Report) : Type 0 where
  pub rows : List ℕ
  pub rising : IsStrictlyIncreasing rows
  pub of_set : (row : ℕ) → Contains rows row → row < row_count table
  pub tells : Tells table rows report
  pub are : honest → AreUnsound table image rows

-- A part's report: on any bank it tells of some rows of the part, each of them once and by its number in the set, and
-- on an honest one of exactly those that are not sound.
pub record IsPartReport (honest : Type 0) (first count : ℕ) (table : Table) (image : Slots) (report : Report) : Type 0 where
  pub rows : List ℕ
  pub rising : IsStrictlyIncreasing rows
  pub of_part : (row : ℕ) → Contains rows row → IsInPart (row_count table) first count row
  pub looked_at : report.rows ≡ rows_in_part (row_count table) first count
  pub bad : report.bad ≡ length rows
  pub first_bad : report.first_bad ≡ slice_get rows 0
  pub are : honest → AreUnsoundIn table image first count rows

-- why a scrub was refused
abbrev pub IsNoScrub : (old new : ArrayView) → Refusal → Type 0
IsNoScrub old new Incomplete = ¬ IsComplete new.table
IsNoScrub old new TwoLost = IsEndOf old new ⊥ TwoLost
IsNoScrub old new Worn = IsEndOf old new ⊥ Worn
IsNoScrub old new refusal = ⊥

-- What a scrub promises whose report is to say this of the members' sectors as they are, whether or not the array is
-- settled. 13, 15, 16.
pub record LooksAtRows (honest : Type 0) (IsTold : Table → Slots → Report → Type 0) (old new : ArrayView)
    (answer : Result Report Refusal) : Type 0 where
  pub goes_on : GoesOn old new
  pub number : new.number ≡ old.number
  pub stays : StaysButForFailures honest old new (HasEnded answer)
  -- of a set that is not complete it looks at no device
  pub incomplete : ¬ IsComplete old.table → (answer ≡ Err Incomplete) × (new ≡ old)
  pub complete : (report : Report) → answer ≡ Ok report → IsComplete new.table
  pub told : (report : Report) → answer ≡ Ok report → IsTold new.table (readable new.history) report
  -- it repairs nothing: unless it marks a slot missing it only reads, whatever it answers
  pub reads : honest → new.table ≡ old.table → HasRead old.history new.history
  pub keeps : KeepsTheList honest old new (HasEnded answer)
  pub cause : (refusal : Refusal) → answer ≡ Err refusal → IsNoScrub old new refusal

-- `scrub(array)`: of a complete set exactly the unsound rows
abbrev pub Scrubs : (honest : Type 0) (old new : ArrayView) → Result Report Refusal → Type 0
Scrubs honest old new answer = LooksAtRows honest (IsReport honest) old new answer

-- `scrub_part(array, first, rows)`: of a complete set exactly the unsound rows among so many from `first` on
abbrev pub ScrubsPart : (honest : Type 0) (first rows : ℕ) (old new : ArrayView) → Result Report Refusal → Type 0
ScrubsPart honest first rows old new answer = LooksAtRows honest (IsPartReport honest first rows) old new answer
