-- Which superblocks of a set count, which table decides, and which devices are live.
use Rattle.std.specs.Prelude.{◌≡◌, ◌≢◌, ℕ, ◌+◌, ◌%◌, ◌<◌, ◌≤◌, nat_lt, if◌then◌else◌, List, length, Option}
use Rattle.sector_model.specs.History.{Bytes, Slots, disk_of, sector_of}
use Rattle.layout_map.specs.declared.sizes.TheConstants.{FIRST_ROW, SUPERBLOCK_PLACES}
use Rattle.layout_map.specs.declared.geometry.Geometry.{Geometry}
use Rattle.layout_map.specs.Formats.{journal_sectors}
use Rattle.layout_map.specs.Placement.{rows_of}
use Rattle.superblock.specs.declared.state.State.TheVariants.{Missing, InSync}
use Rattle.superblock.specs.declared.table.Table.{Table}
use Rattle.superblock.specs.declared.table.Superblock.{Superblock}
use Rattle.superblock.specs.Tables.{state_at, incarnation_at}
use Rattle.superblock.specs.Spelling.{superblock_sector}

-- what a slot has: no device, or the sectors of one
abbrev pub Content : Type 0
Content = Option (List Bytes)

-- A superblock counts in a place (0 or 1) of a slot: it stands there, with the set's id, in the place of its generation and in
-- the slot of its role, and the bank has all slots of its set.
pub record Counts (id : List ℕ) (devices slot : ℕ) (content : Content) (place : ℕ) (superblock : Superblock) : Type 0 where
  pub stands : sector_of (disk_of content) place ≡ superblock_sector superblock
  pub of_set : superblock.table.id ≡ id
  pub own_place : superblock.table.generation % SUPERBLOCK_PLACES ≡ place
  pub own_slot : superblock.role ≡ slot
  pub has_slots : superblock.table.geometry.members + 2 ≤ devices

-- The chosen table: that of the counted superblock with the greatest generation. Equal generations stand in equal places, so
-- the first of them is the one in the lowest slot.
pub record IsChosen (id : List ℕ) (devices : ℕ) (image : Slots) (table : Table) : Type 0 where
  pub slot : ℕ
  pub place : ℕ
  pub best : Superblock
  pub counted : Counts id devices slot (image slot) place best
  pub carried : best.table ≡ table
  pub greatest : (other at : ℕ) (superblock : Superblock) → Counts id devices other (image other) at superblock
      → superblock.table.generation ≤ table.generation
  pub first : (other at : ℕ) (superblock : Superblock) → Counts id devices other (image other) at superblock
      → superblock.table.generation ≡ table.generation → slot ≤ other

-- the own incarnation of what a slot has: by its counted superblock with the greatest generation
pub record HasIncarnation (id : List ℕ) (devices slot : ℕ) (content : Content) (incarnation : ℕ) : Type 0 where
  pub place : ℕ
  pub newest : Superblock
  pub counted : Counts id devices slot content place newest
  pub greatest : (at : ℕ) (superblock : Superblock) → Counts id devices slot content at superblock
      → superblock.table.generation ≤ newest.table.generation
  pub own : incarnation_at newest.table.incarnations slot ≡ incarnation

-- the least number of sectors of a device: a member's rows stand from sector 8 on, and a journal has the sectors of its format
abbrev pub least_sectors : Geometry → ℕ → ℕ
least_sectors geometry slot =
    if nat_lt slot geometry.members then FIRST_ROW + rows_of geometry.chunk geometry.stripes else journal_sectors geometry.format

-- what a slot has is live: it is long enough, the table does not call it missing, and its own incarnation is the table's
pub record IsLive (devices : ℕ) (table : Table) (slot : ℕ) (content : Content) : Type 0 where
  pub long_enough : least_sectors table.geometry slot ≤ length (disk_of content)
  pub not_missing : state_at table.states slot ≢ Missing
  pub incarnation : HasIncarnation table.id devices slot content (incarnation_at table.incarnations slot)

-- it is live and in sync: all of it counts
pub record IsInFull (devices : ℕ) (table : Table) (slot : ℕ) (content : Content) : Type 0 where
  pub live : IsLive devices table slot content
  pub in_sync : state_at table.states slot ≡ InSync

-- What a slot has is stale: each of its counted superblocks is older than the table, and was written by an earlier device of the
-- slot. A blank device is stale, and so is none.
pub record IsStale (devices : ℕ) (table : Table) (slot : ℕ) (content : Content) : Type 0 where
  pub older : (place : ℕ) (superblock : Superblock) → Counts table.id devices slot content place superblock
      → superblock.table.generation < table.generation
  pub earlier : (place : ℕ) (superblock : Superblock) → Counts table.id devices slot content place superblock
      → incarnation_at superblock.table.incarnations slot < incarnation_at table.incarnations slot
