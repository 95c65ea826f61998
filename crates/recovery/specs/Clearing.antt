-- What clearing the devices of a set leaves.
use Rattle.std.specs.Prelude.{◌≡◌, ℕ, ◌+◌, ◌<◌, ◌≤◌, true, false, replicate}
use Rattle.sector_model.specs.declared.sector.Stop.{Stop}
use Rattle.sector_model.specs.declared.sector.Stop.TheVariants.{Down, Worn}
use Rattle.sector_model.specs.declared.calls.TheConstants.{GREATEST_COUNT}
use Rattle.sector_model.specs.Bank.{Panel}
use Rattle.sector_model.specs.History.{Bytes, History, MayHold, is_down, sector_of, seen, start_of}
use Rattle.layout_map.specs.declared.sizes.TheConstants.{FIRST_ROW, FIRST_SEAL, HALVES, SUPERBLOCK_PLACES}
use Rattle.layout_map.specs.declared.geometry.Geometry.{Geometry}
use Rattle.layout_map.specs.Placement.{rows_of}
use Rattle.superblock.specs.Counted.{least_sectors}

-- reads of a sector give zeros
abbrev pub IsZeroAt : History → (device at : ℕ) → Type 0
IsZeroAt h device at = sector_of (seen h device) at ≡ replicate 512 0

-- the sectors from one up to another are zero
abbrev pub AreZero : History → (device from end : ℕ) → Type 0
AreZero h device from end = (at : ℕ) → from ≤ at → at < end → IsZeroAt h device at

-- a crash now leaves on a device what reads of it give
abbrev pub IsFlushed : History → (device : ℕ) → Type 0
IsFlushed h device = (at : ℕ) (value : Bytes) → MayHold h device at value → value ≡ sector_of (seen h device) at

-- From the one run to the other only zeros were written, to the first so many devices, and no device went down.
pub record HasCleared (slots : ℕ) (old new : History) : Type 0 where
  pub start : (device : ℕ) → start_of new device ≡ start_of old device
  pub down : (device : ℕ) → is_down new device ≡ is_down old device
  pub beyond : (device at : ℕ) (value : Bytes) → slots ≤ device → MayHold new device at value → MayHold old device at value
  pub zeros : (device at : ℕ) → IsZeroAt old device at → IsZeroAt new device at

-- a slot's places for superblocks are zero, a journal's seals, and a member's rows
pub record IsClearedSlot (geometry : Geometry) (h : History) (slot : ℕ) : Type 0 where
  pub places : AreZero h slot 0 SUPERBLOCK_PLACES
  pub seals : geometry.members ≤ slot → AreZero h slot FIRST_SEAL (FIRST_SEAL + HALVES)
  pub rows : slot < geometry.members → AreZero h slot FIRST_ROW (FIRST_ROW + rows_of geometry.chunk geometry.stripes)

-- the first so many slots are slots of the bank, and long enough for a set of this geometry
pub record HasRoom (geometry : Geometry) (panel : Panel) : Type 0 where
  pub of_bank : geometry.members + 2 ≤ panel.devices
  pub fit : (slot : ℕ) → slot < geometry.members + 2 → least_sectors geometry slot ≤ panel.sectors slot

-- the same, and all of them are up
pub record IsUsable (geometry : Geometry) (panel : Panel) : Type 0 where
  pub room : HasRoom geometry panel
  pub up : (slot : ℕ) → slot < geometry.members + 2 → panel.down slot ≡ false

-- why a row of calls ended before its last: one of the first so many slots is down, or no further call can be counted
abbrev pub IsStopIn : ℕ → Panel → Stop → Type 0
IsStopIn slots panel (Down slot) = (slot < slots) × (panel.down slot ≡ true)
IsStopIn slots panel Worn = GREATEST_COUNT ≤ panel.calls
