-- A set that was just made.
use Rattle.std.specs.Prelude.{◌≡◌, ℕ, ◌+◌, ◌<◌, ◌≤◌, List, length, map}
use Rattle.std.specs.List.{range_with_len}
use Rattle.sector_model.specs.History.{Bytes, Slots, disk_of, sector_of}
use Rattle.layout_map.specs.declared.geometry.Geometry.{Geometry}
use Rattle.layout_map.specs.Placement.{data_sectors_of}
use Rattle.layout_map.specs.declared.sizes.TheConstants.{FIRST_ROW, FIRST_SEAL, HALVES}
use Rattle.parity.specs.Xor.{zero_sector}
use Rattle.superblock.specs.declared.state.State.TheVariants.{InSync}
use Rattle.superblock.specs.declared.table.Table.{Table}
use Rattle.superblock.specs.declared.table.Superblock.{Superblock}
use Rattle.superblock.specs.Tables.{state_at, incarnation_at}
use Rattle.superblock.specs.Counted.{Counts, least_sectors}
use Rattle.superblock.specs.Publishing.{StandsAt}
use Rattle.superblock.specs.Cases.{HasWholeSectors}
use Rattle.array_io.specs.Believed.Holds.{row_count}

-- The image that making a set leaves: the table has generation 1, every slot in sync and each device the first of its slot; each
-- slot has a device that is long enough, with the table's superblock in sector 1 and zeros in sector 0; the seals of journals and
-- the rows of members are zero; and no slot after the set's has a superblock of the set.
pub record IsFresh (devices : ℕ) (table : Table) (image : Slots) : Type 0 where
  pub first_table : table.generation ≡ 1
  pub has_slots : table.geometry.members + 2 ≤ devices
  pub in_sync : (slot : ℕ) → slot < table.geometry.members + 2 → state_at table.states slot ≡ InSync
  pub first_devices : (slot : ℕ) → slot < table.geometry.members + 2 → incarnation_at table.incarnations slot ≡ 1
  pub long_enough : (slot : ℕ) → slot < table.geometry.members + 2 → least_sectors table.geometry slot ≤ length (disk_of (image slot))
  pub superblocks : (slot : ℕ) → slot < table.geometry.members + 2 → StandsAt table slot (sector_of (disk_of (image slot)) 1)
  pub cleared_places : (slot : ℕ) → slot < table.geometry.members + 2 → sector_of (disk_of (image slot)) 0 ≡ zero_sector
  pub cleared_seals : (journal place : ℕ) → table.geometry.members ≤ journal → journal < table.geometry.members + 2 → place < HALVES
      → sector_of (disk_of (image journal)) (FIRST_SEAL + place) ≡ zero_sector
  pub cleared_rows : (member row : ℕ) → member < table.geometry.members → row < row_count table
      → sector_of (disk_of (image member)) (FIRST_ROW + row) ≡ zero_sector
  pub alone : (slot place : ℕ) (superblock : Superblock) → table.geometry.members + 2 ≤ slot
      → ¬ Counts table.id devices slot (image slot) place superblock
  pub whole : HasWholeSectors image

-- the logical list of zeros
abbrev pub zeros_of : Geometry → List Bytes
zeros_of geometry = map (λ logical. zero_sector) (range_with_len 0 (data_sectors_of geometry.members geometry.chunk geometry.stripes))
