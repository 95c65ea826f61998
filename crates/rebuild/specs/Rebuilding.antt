-- What replacing a device and a step of a rebuild promise.
use Rattle.std.specs.Prelude.{◌≡◌, ◌≢◌, ◌⊎◌, ℕ, ◌+◌, ◌-◌, ◌/◌, ◌<◌, ◌≤◌, min, true, Result, Ok, Err}
use Rattle.sector_model.specs.declared.refusal.Refusal.{Refusal}
use Rattle.sector_model.specs.declared.refusal.Refusal.TheVariants.{NotMissing, NothingToRebuild, NotUsable, TwoLost, Worn}
use Rattle.sector_model.specs.declared.calls.TheConstants.{GREATEST_COUNT}
use Rattle.layout_map.specs.declared.format.Format.{Format}
use Rattle.layout_map.specs.Formats.{rebuild_rows}
use Rattle.superblock.specs.declared.state.State.TheVariants.{Missing, Rebuilding}
use Rattle.superblock.specs.declared.table.Table.{Table}
use Rattle.superblock.specs.Tables.{incarnation_at, state_at}
use Rattle.superblock.specs.Counted.{least_sectors}
use Rattle.superblock.specs.NextTables.{IsJoined, IsMarked, IsMoved, IsRebuilt, slots_of}
use Rattle.array_io.specs.Believed.Holds.{row_count}
use Rattle.array_io.specs.Believed.ArrayCalls.{Answer, KeepsTheList}
use Rattle.array_io.specs.Believed.Views.{ArrayView, DeviceFailed, GoesOn, HasEnded, IsEndOf, KeepsItsState}

-- how far a rebuild is: the rows below this position are done, or all are
pub data Progress : Type 0 where
  Position : ℕ → Progress
  Complete : Progress

-- the position after a step of so many rows: at most as many as a step may have, and none past the last
abbrev pub stepped : (most all_rows rows position : ℕ) → ℕ
stepped most all_rows rows position = position + min (min rows most) (all_rows - position)

-- the same by a set's table, whose format says how many rows a step may have
abbrev pub end_of_step : Table → (rows : ℕ) → ℕ
end_of_step table rows = stepped (rebuild_rows table.geometry.format) (row_count table) rows table.position

-- how many steps of so many rows each are left at this position of all rows, the last counting where it is not full
abbrev pub steps_left_of : (each position rows : ℕ) → ℕ
steps_left_of each position rows = (rows - position + (each - 1)) / each

-- the same by the set's format
abbrev pub steps_left : Format → (position rows : ℕ) → ℕ
steps_left format position rows = steps_left_of (rebuild_rows format) position rows

-- the slots but one keep their states, unless their devices are down
abbrev pub OthersKeepTheirs : ArrayView → ArrayView → ℕ → Type 0
OthersKeepTheirs old new slot = (other : ℕ) → other < slots_of old.table → other ≢ slot → KeepsItsState old new other

-- the slot is no slot of the set, or is not missing
abbrev pub IsNotMissing : Table → ℕ → Type 0
IsNotMissing table slot = (slots_of table ≤ slot) ⊎ (state_at table.states slot ≢ Missing)

-- the device of a slot is down, or too short
abbrev pub IsUnusable : ArrayView → ℕ → Type 0
IsUnusable array slot = (array.panel.down slot ≡ true) ⊎ (array.panel.sectors slot < least_sectors array.table.geometry slot)

-- why `replace` was refused
abbrev pub IsNoReplacing : (old new : ArrayView) → ℕ → Refusal → Type 0
IsNoReplacing old new slot NotMissing = IsNotMissing old.table slot × (new ≡ old)
IsNoReplacing old new slot NotUsable = ¬ IsNotMissing old.table slot × IsUnusable new slot × (state_at new.table.states slot ≡ Missing)
IsNoReplacing old new slot TwoLost = IsEndOf old new (GREATEST_COUNT ≤ incarnation_at old.table.incarnations slot) TwoLost
IsNoReplacing old new slot Worn = IsEndOf old new (GREATEST_COUNT ≤ incarnation_at old.table.incarnations slot) Worn
IsNoReplacing old new slot refusal = ⊥

-- The table where `replace` was refused: the old one, or the slot has joined, or it has joined and is missing again.
abbrev pub IsJoinedOrNot : (old : Table) → ℕ → (new : Table) → Type 0
IsJoinedOrNot old slot new = (new ≡ old) ⊎ IsJoined old slot new ⊎ ((mid : Table) × IsJoined old slot mid × IsMarked mid slot new)

-- what failed in a call that did not end the array is missing
abbrev pub IsFailedMissing : (old new : ArrayView) → Type 0
IsFailedMissing old new = (slot : ℕ) → slot < slots_of old.table → DeviceFailed slot old.panel new.panel → state_at new.table.states slot ≡ Missing

-- `replace(array, slot)`: at Ok the slot has joined with whatever device is there: its incarnation is one more, a member is rebuilding from
-- position 0, a journal in sync. 10, 11, 15, 16. The old table stays in memory unless all devices get the new one, or the slot's own fails as the
-- last, so that a 15 is true of it; in a step that completes a rebuild, too.
pub record Replaces (honest : Type 0) (slot : ℕ) (old new : ArrayView) (answer : Answer) : Type 0 where
  pub goes_on : GoesOn old new
  pub number : new.number ≡ old.number
  pub others : OthersKeepTheirs old new slot
  pub joined : answer ≡ Ok tt → IsJoined old.table slot new.table
  pub may_join : answer ≡ Ok tt → ¬ IsNotMissing old.table slot × ¬ IsUnusable old slot × ¬ IsUnusable new slot
  pub refused : (refusal : Refusal) → answer ≡ Err refusal → IsJoinedOrNot old.table slot new.table
  pub failure : honest → ¬ HasEnded answer → IsFailedMissing old new
  pub nothing : IsNotMissing old.table slot → (answer ≡ Err NotMissing) × (new ≡ old)
  pub keeps : KeepsTheList honest old new (HasEnded answer)
  pub cause : (refusal : Refusal) → answer ≡ Err refusal → IsNoReplacing old new slot refusal

-- this member is rebuilding
pub record IsRebuilding (table : Table) (member : ℕ) : Type 0 where
  pub of_set : member < table.geometry.members
  pub state : state_at table.states member ≡ Rebuilding

-- no member is rebuilding, at the start or because its device went down
abbrev pub IsNothingToRebuild : ArrayView → Type 0
IsNothingToRebuild array = (member : ℕ) → ¬ IsRebuilding array.table member

-- a member that was rebuilding is missing, its device being down
abbrev pub IsRebuildingLost : (old new : ArrayView) → Type 0
IsRebuildingLost old new = (member : ℕ) → IsRebuilding old.table member
    → (new.panel.down member ≡ true) × (state_at new.table.states member ≡ Missing)

-- why a step was refused
abbrev pub IsNoStep : (old new : ArrayView) → Refusal → Type 0
IsNoStep old new NothingToRebuild = IsNothingToRebuild new × IsRebuildingLost old new
IsNoStep old new TwoLost = IsEndOf old new ⊥ TwoLost
IsNoStep old new Worn = IsEndOf old new ⊥ Worn
IsNoStep old new refusal = ⊥

-- the table after a step: the same where no row was to be done, else with the new position, or with the member in sync where that is the last
abbrev pub IsAfterStep : (old : Table) → (member rows : ℕ) → Progress → (new : Table) → Type 0
IsAfterStep old member rows (Position q) new =
    (q ≡ end_of_step old rows) × (q < row_count old) × (((rows ≡ 0) × (new ≡ old)) ⊎ ((1 ≤ rows) × IsMoved old q new))
IsAfterStep old member rows Complete new = (end_of_step old rows ≡ row_count old) × IsRebuilt old member new

-- the table with the step done: the new position, or the member in sync where that is after the last row
abbrev pub IsSteppedOn : (old : Table) → (member rows : ℕ) → (new : Table) → Type 0
IsSteppedOn old member rows new = ((end_of_step old rows < row_count old) × IsMoved old (end_of_step old rows) new)
    ⊎ ((end_of_step old rows ≡ row_count old) × IsRebuilt old member new)

-- The table where a step was refused: the old one, or with the step done; or one of these with the member missing.
abbrev pub IsSteppedOrNot : (old : Table) → (member rows : ℕ) → (new : Table) → Type 0
IsSteppedOrNot old member rows new = (new ≡ old) ⊎ IsSteppedOn old member rows new ⊎ IsMarked old member new
    ⊎ ((mid : Table) × IsSteppedOn old member rows mid × IsMarked mid member new)

-- `rebuild_step(array, rows)`: so many rows of the rebuilding member, at most as many as a step may have, are written before the position is published.
-- 12, 15, 16.
pub record StepsRebuild (honest : Type 0) (rows : ℕ) (old new : ArrayView) (answer : Result Progress Refusal) : Type 0 where
  pub goes_on : GoesOn old new
  pub number : new.number ≡ old.number
  pub others : (member : ℕ) → IsRebuilding old.table member → OthersKeepTheirs old new member
  pub stepped : (progress : Progress) → answer ≡ Ok progress → (member : ℕ) → IsRebuilding old.table member
      → IsAfterStep old.table member rows progress new.table
  pub has_member : (progress : Progress) → answer ≡ Ok progress → ¬ IsNothingToRebuild old
  pub refused : (refusal : Refusal) → answer ≡ Err refusal → (member : ℕ) → IsRebuilding old.table member → IsSteppedOrNot old.table member rows new.table
  pub failure : honest → ¬ HasEnded answer → IsFailedMissing old new
  -- the member itself is given up only where its device is down
  pub own : (refusal : Refusal) → answer ≡ Err refusal → (member : ℕ) → IsRebuilding old.table member
      → (new.panel.down member ≡ true) ⊎ (state_at new.table.states member ≢ Missing)
  pub nothing : IsNothingToRebuild old → (answer ≡ Err NothingToRebuild) × (new ≡ old)
  pub keeps : KeepsTheList honest old new (HasEnded answer)
  pub cause : (refusal : Refusal) → answer ≡ Err refusal → IsNoStep old new refusal
