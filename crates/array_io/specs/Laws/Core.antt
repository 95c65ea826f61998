-- A small core, from which a case holds.
use Rattle.std.specs.Prelude.{◌≡◌, ◌≢◌, ◌⊎◌, ℕ, ◌+◌, ◌<◌, ◌≤◌, List, Option, Some, None, Contains}
use Rattle.sector_model.specs.History.{Bytes, Slots}
use Rattle.superblock.specs.declared.table.Table.{Table}
use Rattle.superblock.specs.declared.table.Superblock.{Superblock}
use Rattle.superblock.specs.Tables.{incarnation_at}
use Rattle.superblock.specs.Counted.{Content, Counts, IsChosen, IsInFull, IsLive}
use Rattle.stripe_journal.specs.declared.seal.Seal.{Seal}
use Rattle.stripe_journal.specs.LastEntry.{IsLastSealed}
use Rattle.degraded.specs.RowValue.{Rows, AreSound, logical_list}
use Rattle.superblock.specs.Cases.{Case, HasWholeSectors, IsLostIn, Lost, MayBeOut, away_of, with_slot}
use Rattle.superblock.specs.NextTables.{slots_of}
use Rattle.array_io.specs.Believed.Holds.{AreInStep, AreRowsBy, IsLiveJournal, OneCounts, devices_of, row_count}

-- the rows of an image are sound, and their logical list is one of X, by the last entry of these journals
pub record HasRows (devices : ℕ) (table : Table) (X : List (List Bytes)) (journals : ℕ → Type 0) (image : Slots) : Type 0 where
  pub sound : (rows : Rows) → AreRowsBy devices table journals image rows → AreSound rows (row_count table)
  pub listed : (rows : Rows) → AreRowsBy devices table journals image rows → Contains X (logical_list table.geometry rows)

-- live journals are in step
abbrev pub AreJournalsInStep : ℕ → Table → Slots → Type 0
AreJournalsInStep devices table image = (first second : ℕ) (a b : Option Seal)
    → IsLiveJournal devices table image first → IsLiveJournal devices table image second
    → IsLastSealed table.id table.geometry (image first) a → IsLastSealed table.id table.geometry (image second) b
    → AreInStep table.geometry.members (image first) (image second) a b

-- a live journal of an image, but not this slot
abbrev pub IsLiveBut : ℕ → Table → Slots → (out slot : ℕ) → Type 0
IsLiveBut devices table image out slot = IsLiveJournal devices table image slot × (slot ≢ out)

-- what a slot has says nothing that the table doesn't know: no counted superblock is newer, one as new has the table, and none has
-- a higher incarnation of the slot
pub record IsKnown (devices : ℕ) (table : Table) (slot : ℕ) (content : Content) : Type 0 where
  pub no_newer : (place : ℕ) (superblock : Superblock) → Counts table.id devices slot content place superblock
      → superblock.table.generation ≤ table.generation
  pub as_new : (place : ℕ) (superblock : Superblock) → Counts table.id devices slot content place superblock
      → superblock.table.generation ≡ table.generation → superblock.table ≡ table
  pub no_higher : (place : ℕ) (superblock : Superblock) → Counts table.id devices slot content place superblock
      → incarnation_at superblock.table.incarnations slot ≤ incarnation_at table.incarnations slot

-- the slot is not the lost one
abbrev pub IsKept : Option Lost → ℕ → Type 0
IsKept None slot = Unit {0}
IsKept (Some lost) slot = slot ≢ lost.slot

-- The core: the lost slot is one of the set; the table is chosen, also without each slot that may be out; what each slot has, and what is away, is known to the
-- table; all slots but the lost one are live and in sync; sectors are whole; the rows are sound and in X by the last entry of the live
-- journals, also without the journal that may be out, and with a live device that is away back in its slot; live journals are in
-- step; and of the known devices of a slot that may be out it is settled which are live, and at most one counts.
pub record Core (devices : ℕ) (table : Table) (case : Case) (X : List (List Bytes)) : Type 0 where
  pub lost_in_set : IsLostIn (slots_of table) case.lost
  pub chosen : IsChosen table.id devices case.image table
  pub chosen_without : (slot : ℕ) → MayBeOut case.lost slot → IsChosen table.id devices (with_slot case.image slot None) table
  pub known : (slot : ℕ) → IsKnown devices table slot (case.image slot)
  pub known_away : (slot : ℕ) (disk : List Bytes) → MayBeOut case.lost slot → Contains (away_of case.lost) disk → IsKnown devices table slot (Some disk)
  pub in_full : (slot : ℕ) → slot < table.geometry.members + 2 → IsKept case.lost slot → IsInFull devices table slot (case.image slot)
  pub whole : HasWholeSectors case.image
  pub rows : HasRows devices table X (IsLiveJournal devices table case.image) case.image
  pub rows_without : (slot : ℕ) → MayBeOut case.lost slot → HasRows devices table X (IsLiveBut devices table case.image slot) case.image
  pub in_step : AreJournalsInStep devices table case.image
  pub rows_away : (slot : ℕ) (disk : List Bytes) → MayBeOut case.lost slot → Contains (away_of case.lost) disk → IsLive devices table slot (Some disk)
      → HasRows devices table X (IsLiveJournal devices table (with_slot case.image slot (Some disk))) (with_slot case.image slot (Some disk))
  pub in_step_away : (slot : ℕ) (disk : List Bytes) → MayBeOut case.lost slot → Contains (away_of case.lost) disk → IsLive devices table slot (Some disk)
      → AreJournalsInStep devices table (with_slot case.image slot (Some disk))
  pub decided : (slot : ℕ) (disk : List Bytes) → MayBeOut case.lost slot → Contains (devices_of case slot) disk
      → IsLive devices table slot (Some disk) ⊎ ¬ IsLive devices table slot (Some disk)
  pub one_counts : OneCounts devices table case case.lost
