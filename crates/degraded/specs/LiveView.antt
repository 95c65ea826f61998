-- Which devices are live, as a view of what a program has of it, and what reading a row asks.
use Rattle.std.specs.Prelude.{◌≡◌, ℕ, ◌+◌, ◌^◌, ◌<◌, ◌≤◌, true, false, Option, Some, None, slice_index_or}
use Rattle.sector_model.specs.declared.calls.TheConstants.{GREATEST_COUNT}
use Rattle.sector_model.specs.declared.sector.Stop.{Stop}
use Rattle.sector_model.specs.declared.sector.Stop.TheVariants.{Down, Worn}
use Rattle.sector_model.specs.Bank.{Panel}
use Rattle.layout_map.specs.declared.sizes.TheConstants.{FIRST_ROW}
use Rattle.degraded.specs.declared.live.Live.{Live}
use Rattle.degraded.specs.ReadMember.{LiveSlots, RebuildingMember, is_read}

-- the member that is rebuilding, as a view
abbrev pub rebuilding_of : Option (ℕ × ℕ) → Option RebuildingMember
rebuilding_of None = None
rebuilding_of (Some rebuilding) = Some (record { member = rebuilding.0; position = rebuilding.1 })

-- which devices are live, and which member is rebuilding below which row
abbrev pub slots_of : Live → LiveSlots
slots_of live = record {
  members = live.members;
  live = λ member. slice_index_or live.live member false;
  rebuilding = rebuilding_of live.rebuilding;
}

-- in no row are there two members whose own sectors don't count
abbrev pub AtMostOneOut : LiveSlots → Type 0
AtMostOneOut slots = (row first second : ℕ) → first < slots.members → second < slots.members → is_read slots row first ≡ false
    → is_read slots row second ≡ false → first ≡ second

-- What reading a member's row asks: each member has a slot, the row is one of each live device that is up, and at most one
-- member is out.
pub record CanRead (slots : LiveSlots) (row : ℕ) (panel : Panel) : Type 0 where
  pub devices : slots.members ≤ panel.devices
  pub small : FIRST_ROW + row < 2 ^ 32
  pub within : (member : ℕ) → member < slots.members → slots.live member ≡ true → panel.down member ≡ false → FIRST_ROW + row < panel.sectors member
  pub one_out : AtMostOneOut slots

-- why reading a member's row ended before its last call: a device is down whose sector counts, or no further call can be counted
abbrev pub IsStopOf : LiveSlots → (row : ℕ) → Panel → Stop → Type 0
IsStopOf slots row panel (Down d) = (d < slots.members) × (is_read slots row d ≡ true) × (panel.down d ≡ true)
IsStopOf slots row panel Worn = GREATEST_COUNT ≤ panel.calls
