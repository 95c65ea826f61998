-- What each call of an array promises.
use Rattle.std.specs.Prelude.{◌≡◌, ◌≢◌, ◌⊎◌, ℕ, ◌+◌, ◌≤◌, true, List, [], ◌∷◌, slice_index_or, slice_set, Option, Result, Ok, Err, ◌<◌, length}
use Rattle.sector_model.specs.declared.calls.TheConstants.{GREATEST_COUNT}
use Rattle.sector_model.specs.declared.refusal.Refusal.{Refusal}
use Rattle.sector_model.specs.History.{Bytes}
use Rattle.layout_map.specs.declared.format.Format.TheVariants.{One}
use Rattle.layout_map.specs.Placement.{data_sectors_of}
use Rattle.layout_map.specs.declared.sizes.TheConstants.{ENTRY_ROWS}
use Rattle.superblock.specs.declared.state.State.TheVariants.{Missing}
use Rattle.superblock.specs.declared.table.Table.{Table}
use Rattle.superblock.specs.Tables.{state_at}
use Rattle.superblock.specs.Cases.{Lost, MayBeOut, lost_from}
use Rattle.superblock.specs.Counted.{IsChosen}
use Rattle.superblock.specs.Losses.{InEachImage}
use Rattle.superblock.specs.NextTables.{IsMarked, IsOut}
use Rattle.array_io.specs.Believed.Moments.{HoldsNow, HoldsThroughout}
use Rattle.array_io.specs.Believed.Views.{ArrayView, GoesOn, HasEnded, IsEndOf, RestsAfter, RestsOn, StaysButForFailures}

-- what a call without an answer of its own gives
abbrev pub Answer : Type 0
Answer = Result (Unit {0}) Refusal

-- a logical list with these sectors written, the first of the list last
abbrev pub written : List Bytes → List (ℕ × Bytes) → List Bytes
written V [] = V
written V (sector ∷ sectors) = slice_set (written V sectors) sector.0 sector.1

-- From a set settled on some list, the call keeps that list at each moment, and at Ok is settled on it.
pub record KeepsTheList (honest : Type 0) (old new : ArrayView) (ends : Type 0) : Type 0 where
  pub moments : honest → (lost : Option Lost) (V : List Bytes) → RestsOn old lost V
      → HoldsThroughout old.table old.panel.devices lost (V ∷ []) old.history new.history
  pub rests : honest → ¬ ends → (lost : Option Lost) (V : List Bytes) → RestsOn old lost V → RestsAfter lost new V

-- `read(logical, to)` of a logical sector of the set (its condition): at Ok `to` holds the sector. 15, 16.
pub record Reads (honest : Type 0) (logical : ℕ) (old new : ArrayView) (to : Bytes) (answer : Answer) : Type 0 where
  pub goes_on : GoesOn old new
  pub stays : StaysButForFailures honest old new (HasEnded answer)
  pub number : new.number ≡ old.number
  pub keeps : KeepsTheList honest old new (HasEnded answer)
  pub sector : honest → answer ≡ Ok tt → (lost : Option Lost) (V : List Bytes) → RestsOn old lost V → to ≡ slice_index_or V logical []
  pub cause : (refusal : Refusal) → answer ≡ Err refusal → IsEndOf old new ⊥ refusal

-- what may be written by one entry: logical sectors of the set, 1 at least and none twice; in a set of format 1 at most 32
pub record MayForm (table : Table) (sectors : List (ℕ × Bytes)) : Type 0 where
  pub least : 1 ≤ length sectors
  pub few : table.geometry.format ≡ One → length sectors ≤ ENTRY_ROWS
  pub of_set : (i : ℕ) → i < length sectors → (slice_index_or sectors i (0, [])).0 < data_sectors_of table.geometry.members table.geometry.chunk
      table.geometry.stripes
  pub apart : (i j : ℕ) → i < j → j < length sectors → (slice_index_or sectors i (0, [])).0 ≢ (slice_index_or sectors j (0, [])).0

-- the condition of `commit`: 1 to 32 distinct logical sectors of the set
pub record MayCommit (table : Table) (sectors : List (ℕ × Bytes)) : Type 0 where
  pub least : 1 ≤ length sectors
  pub most : length sectors ≤ ENTRY_ROWS
  pub of_set : (i : ℕ) → i < length sectors → (slice_index_or sectors i (0, [])).0 < data_sectors_of table.geometry.members table.geometry.chunk
      table.geometry.stripes
  pub apart : (i j : ℕ) → i < j → j < length sectors → (slice_index_or sectors i (0, [])).0 ≢ (slice_index_or sectors j (0, [])).0

-- `commit(sectors)`: all of the sectors or none at each moment, and all at Ok. 15; 16 also where the entry's number stands at 2^62.
pub record Commits (honest : Type 0) (sectors : List (ℕ × Bytes)) (old new : ArrayView) (answer : Answer) : Type 0 where
  pub goes_on : GoesOn old new
  pub stays : StaysButForFailures honest old new (HasEnded answer)
  pub number : answer ≡ Ok tt → new.number ≡ old.number + 1
  pub moments : honest → (lost : Option Lost) (V : List Bytes) → RestsOn old lost V
      → HoldsThroughout old.table old.panel.devices lost (V ∷ written V sectors ∷ []) old.history new.history
  pub rests : honest → answer ≡ Ok tt → (lost : Option Lost) (V : List Bytes) → RestsOn old lost V → RestsAfter lost new (written V sectors)
  pub cause : (refusal : Refusal) → answer ≡ Err refusal → IsEndOf old new (GREATEST_COUNT ≤ old.number) refusal

-- the array's table with this slot missing: the same where it is missing already
abbrev pub IsWithout : Table → ℕ → Table → Type 0
IsWithout old slot new = ((state_at old.states slot ≡ Missing) × (new ≡ old)) ⊎ ((state_at old.states slot ≢ Missing) × IsMarked old slot new)

-- each weakened image chooses the array's table
abbrev pub AllChooseIts : ArrayView → Option Lost → Type 0
AllChooseIts array lost = InEachImage array.panel.devices array.table array.history lost
    (λ image. IsChosen array.table.id array.panel.devices image array.table)

-- the condition of `mark_missing`: every other slot is in sync, or the device is down
abbrev pub MayMark : ArrayView → ℕ → Type 0
MayMark array slot = ((other : ℕ) → IsOut array.table other → other ≡ slot) ⊎ (array.panel.down slot ≡ true)

-- The slot may be given up, and for these lists all cases that a crash now may leave hold with it lost, each image choosing the array's table.
pub record MayGiveUp (array : ArrayView) (slot : ℕ) (lost : Option Lost) (X : List (List Bytes)) : Type 0 where
  pub may : MayBeOut lost slot
  pub chosen : AllChooseIts array (lost_from lost slot)
  pub holds : HoldsNow array.table array.panel.devices (lost_from lost slot) X array.history

-- `mark_missing(slot)`: the slot counts as lost from the start of the call, with nothing away where none was lost. 15, 16.
-- For whatever lists all cases that a crash may leave hold, they do so at each moment, as long as each image chooses the array's table.
-- The new table is in memory before the first device call, so that a 15 is true of it.
pub record MarksMissing (honest : Type 0) (slot : ℕ) (old new : ArrayView) (answer : Answer) : Type 0 where
  pub goes_on : GoesOn old new
  pub number : new.number ≡ old.number
  pub marked : answer ≡ Ok tt → IsWithout old.table slot new.table
  pub marked_or_not : (new.table ≡ old.table) ⊎ IsMarked old.table slot new.table
  pub untouched : state_at old.table.states slot ≡ Missing → (answer ≡ Ok tt) × (new ≡ old)
  pub moments : honest → (lost : Option Lost) (X : List (List Bytes)) → MayGiveUp old slot lost X
      → HoldsThroughout old.table old.panel.devices (lost_from lost slot) X old.history new.history
  pub chosen : honest → answer ≡ Ok tt → (lost : Option Lost) (X : List (List Bytes)) → MayGiveUp old slot lost X → AllChooseIts new (lost_from lost slot)
  pub rests : honest → answer ≡ Ok tt → (lost : Option Lost) (V : List Bytes) → MayBeOut lost slot → RestsOn old lost V → RestsAfter (lost_from lost slot) new V
  pub cause : MayMark old slot → (refusal : Refusal) → answer ≡ Err refusal → IsEndOf old new ⊥ refusal
