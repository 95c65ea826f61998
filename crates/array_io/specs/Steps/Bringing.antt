-- Moments while the superblocks of a table are brought up.
use Rattle.std.specs.Prelude.{◌≡◌, ◌≢◌, ◌⊎◌, ℕ, ◌<◌, true}
use Rattle.sector_model.specs.History.{Bytes, History, MayHold, Slots, disk_of, is_down, sector_of, seen, start_of}
use Rattle.superblock.specs.declared.state.State.TheVariants.{Missing}
use Rattle.superblock.specs.declared.table.Table.{Table}
use Rattle.superblock.specs.NextTables.{slots_of}
use Rattle.superblock.specs.Publishing.{StandsAt, place_of}
use Rattle.superblock.specs.Tables.{state_at}

-- a slot of the set that the table doesn't call missing
pub record CountsOn (table : Table) (slot : ℕ) : Type 0 where
  pub of_set : slot < slots_of table
  pub there : state_at table.states slot ≢ Missing

-- the table's own superblock of such a slot, in its place
pub record IsOwnThere (table : Table) (sectors : ℕ → Bytes) (device at : ℕ) (value : Bytes) : Type 0 where
  pub counted : CountsOn table device
  pub in_place : at ≡ place_of table
  pub is : value ≡ sectors device

-- A moment while superblocks are brought up since `old`: a crash leaves in each sector what it might have left before, or the table's own
-- superblock in its place; the devices are the same; what was down is down, and only a device that the table counts on may have gone down.
pub record IsBringing (table : Table) (sectors : ℕ → Bytes) (old h : History) : Type 0 where
  pub holds : (device at : ℕ) (value : Bytes) → MayHold h device at value → MayHold old device at value ⊎ IsOwnThere table sectors device at value
  pub start : (device : ℕ) → start_of h device ≡ start_of old device
  pub stays_down : (device : ℕ) → is_down old device ≡ true → is_down h device ≡ true
  pub others_stay : (device : ℕ) → ¬ CountsOn table device → is_down h device ≡ is_down old device
  -- reads give what they gave, or the table's own superblock in its place
  pub reads : (device at : ℕ) → (sector_of (seen h device) at ≡ sector_of (seen old device) at)
      ⊎ IsOwnThere table sectors device at (sector_of (seen h device) at)

-- each slot of the set carries the table
pub record CarriesAll (table : Table) (image : Slots) : Type 0 where
  pub stands : (slot : ℕ) → slot < slots_of table → StandsAt table slot (sector_of (disk_of (image slot)) (place_of table))
