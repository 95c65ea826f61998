-- A case holds for some logical lists: X is a list of them, and so a finite set. A logical list is a list of sectors.
use Rattle.std.specs.Prelude.{◌≡◌, ◌≢◌, ◌⊎◌, ℕ, ◌+◌, ◌<◌, ◌≤◌, ◌↔◌, IsTrue, List, [], ◌∷◌, ◌++◌, Contains, Option, Some, None, option_to_list}
use Rattle.sector_model.specs.History.{Bytes, Slots, disk_of, sector_of}
use Rattle.layout_map.specs.Placement.{rows_of}
use Rattle.layout_map.specs.declared.sizes.TheConstants.{FIRST_ROW}
use Rattle.superblock.specs.declared.state.State.TheVariants.{Missing, Rebuilding}
use Rattle.superblock.specs.declared.table.Table.{Table}
use Rattle.superblock.specs.declared.table.Superblock.{Superblock}
use Rattle.superblock.specs.Tables.{state_at, incarnation_at}
use Rattle.superblock.specs.Counted.{Content, Counts, IsChosen, IsInFull, IsLive, IsStale}
use Rattle.stripe_journal.specs.declared.seal.Seal.{Seal}
use Rattle.stripe_journal.specs.LastEntry.{Entry, IsLastEntry, IsLastSealed, sector_in, sector_of_last}
use Rattle.degraded.specs.RowValue.{Rows, AreSound, logical_list}
use Rattle.superblock.specs.Cases.{Case, IsLostIn, Lost, MayBeOut, MayStand, away_of, with_slot}
use Rattle.superblock.specs.NextTables.{IsNotOlder, slots_of}

-- the number of rows of a table's set
abbrev pub row_count : Table → ℕ
row_count table = rows_of table.geometry.chunk table.geometry.stripes

-- the slot is a journal of the table's set, and what it has is live
pub record IsLiveJournal (devices : ℕ) (table : Table) (image : Slots) (slot : ℕ) : Type 0 where
  pub beyond_members : table.geometry.members ≤ slot
  pub of_set : slot < table.geometry.members + 2
  pub live : IsLive devices table slot (image slot)

-- the member's own sector counts in this row
pub record IsTrusted (devices : ℕ) (table : Table) (image : Slots) (row member : ℕ) : Type 0 where
  pub live : IsLive devices table member (image member)
  pub rebuilt : state_at table.states member ≡ Rebuilding → row < table.position

-- where the rows of an image come from, by a table and the last entry of these journals
pub record AreRowsBy (devices : ℕ) (table : Table) (journals : ℕ → Type 0) (image : Slots) (rows : Rows) : Type 0 where
  pub width : rows.members ≡ table.geometry.members
  pub own_sector : (row member : ℕ) → member < table.geometry.members → rows.own row member ≡ sector_of (disk_of (image member)) (FIRST_ROW + row)
  pub trust : (row member : ℕ) → member < table.geometry.members → IsTrue (rows.trusted row member) ↔ IsTrusted devices table image row member
  pub last : Option Entry
  pub is_last : IsLastEntry table.id table.geometry journals image last
  pub in_entry : (row member : ℕ) → rows.entry row member ≡ sector_of_last table.geometry.members image last row member

-- the same, by the last entry of all live journals
abbrev pub AreRowsOf : ℕ → Table → Slots → Rows → Type 0
AreRowsOf devices table image rows = AreRowsBy devices table (IsLiveJournal devices table image) image rows

-- the bodies beside two seals of equal numbers are equal
abbrev pub HaveEqualBodies : ℕ → Content → Content → Seal → Type 0
HaveEqualBodies members first second seal = (row member : ℕ) → member < members
    → sector_in members first seal row member ≡ sector_in members second seal row member

-- the last entries of two journals are the same, or one is the next after the other
abbrev pub AreInStep : ℕ → Content → Content → Option Seal → Option Seal → Type 0
AreInStep members first second None None = Unit {0}
AreInStep members first second (Some a) None = a.number ≡ 1
AreInStep members first second None (Some b) = b.number ≡ 1
AreInStep members first second (Some a) (Some b) =
    ((a ≡ b) × HaveEqualBodies members first second a) ⊎ (a.number + 1 ≡ b.number) ⊎ (b.number + 1 ≡ a.number)

-- What each image of a case has to be, by the case's table: it chooses that table; at most one slot is not live and in sync; no
-- counted superblock has an incarnation of its slot above the table's, and one of the table's generation has the table; the rows
-- are sound, and their logical list is one of X; and live journals are in step.
pub record HoldsIn (devices : ℕ) (table : Table) (X : List (List Bytes)) (image : Slots) : Type 0 where
  pub chosen : IsChosen table.id devices image table
  pub one_out : (first second : ℕ) → first < table.geometry.members + 2 → second < table.geometry.members + 2
      → ¬ IsInFull devices table first (image first) → ¬ IsInFull devices table second (image second) → first ≡ second
  pub none_higher : (slot place : ℕ) (superblock : Superblock) → Counts table.id devices slot (image slot) place superblock
      → incarnation_at superblock.table.incarnations slot ≤ incarnation_at table.incarnations slot
  pub one_content : (slot place : ℕ) (superblock : Superblock) → Counts table.id devices slot (image slot) place superblock
      → superblock.table.generation ≡ table.generation → superblock.table ≡ table
  pub sound : (rows : Rows) → AreRowsOf devices table image rows → AreSound rows (row_count table)
  pub listed : (rows : Rows) → AreRowsOf devices table image rows → Contains X (logical_list table.geometry rows)
  pub in_step : (first second : ℕ) (a b : Option Seal) → IsLiveJournal devices table image first → IsLiveJournal devices table image second
      → IsLastSealed table.id table.geometry (image first) a → IsLastSealed table.id table.geometry (image second) b
      → AreInStep table.geometry.members (image first) (image second) a b

-- each of these devices of a slot is stale
abbrev pub AllStale : ℕ → Table → ℕ → List (List Bytes) → Type 0
AllStale devices table slot [] = Unit {0}
AllStale devices table slot (disk ∷ disks) = IsStale devices table slot (Some disk) × AllStale devices table slot disks

-- each of them is stale but for one at most
abbrev pub AllButOneStale : ℕ → Table → ℕ → List (List Bytes) → Type 0
AllButOneStale devices table slot [] = Unit {0}
AllButOneStale devices table slot (disk ∷ disks) =
    AllStale devices table slot disks ⊎ (IsStale devices table slot (Some disk) × AllButOneStale devices table slot disks)

-- the devices of a slot that are known: the one that stands there, and those that are away
abbrev pub devices_of : Case → ℕ → List (List Bytes)
devices_of case slot = option_to_list (case.image slot) ++ away_of case.lost

-- Of the known devices of the lost slot all are stale but one at most, where the table does not call the slot missing. So one at most is
-- live, and whatever is away when the slot is in sync again is stale for good.
abbrev pub OneCounts : ℕ → Table → Case → Option Lost → Type 0
OneCounts devices table case None = Unit {0}
OneCounts devices table case (Some lost) = state_at table.states lost.slot ≢ Missing → AllButOneStale devices table lost.slot (devices_of case lost.slot)

-- The case holds for X: it and all its weakened images have one table, that of the given one's set or a later one, and are as they have
-- to be; and the slot that is lost, if one is, is one of the set.
pub record Holds (base : Table) (devices : ℕ) (case : Case) (X : List (List Bytes)) : Type 0 where
  pub table : Table
  pub not_older : IsNotOlder base table
  pub lost_in_set : IsLostIn (slots_of table) case.lost
  pub whole : HoldsIn devices table X case.image
  pub weakened : (slot : ℕ) (content : Content) → MayBeOut case.lost slot → MayStand devices table case.lost slot content
      → HoldsIn devices table X (with_slot case.image slot content)
  pub one_counts : OneCounts devices table case case.lost
