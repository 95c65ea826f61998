-- With which cases a next run may begin.
use Rattle.std.specs.Prelude.{◌≡◌, ◌⊎◌, ℕ, ◌+◌, ◌<◌, ◌≤◌, List, None, Some}
use Rattle.sector_model.specs.History.{Bytes, Slots}
use Rattle.superblock.specs.declared.table.Table.{Table}
use Rattle.superblock.specs.Counted.{Content, IsStale}
use Rattle.superblock.specs.Cases.{Case, HasNone, MayBeOut, with_slot}
use Rattle.array_io.specs.Believed.Holds.{devices_of}
use Rattle.array_io.specs.Believed.DeviceRules.{IsBack}

-- What a run finds in a slot, and which of the slot's known devices are then away: no device and all of them are away, or one of
-- them and the rest are away, or another one, blank or stale, and all of them are away.
abbrev pub IsFound : ℕ → Table → ℕ → List (List Bytes) → Content → List (List Bytes) → Type 0
IsFound devices table slot known content rest =
    ((content ≡ None) × (rest ≡ known)) ⊎ IsBack known content rest ⊎ (IsStale devices table slot content × (rest ≡ known))

-- the next run begins with something else in one slot of the set, which is then the lost one
pub record BeginsWith (devices : ℕ) (table : Table) (old new : Case) : Type 0 where
  pub slot : ℕ
  pub of_set : slot < table.geometry.members + 2
  pub content : Content
  pub may_be_out : MayBeOut old.lost slot
  pub image : new.image ≡ with_slot old.image slot content
  pub away : List (List Bytes)
  pub lost : new.lost ≡ Some record { slot = slot; away = away }
  pub found : IsFound devices table slot (devices_of old slot) content away

-- what stands after the set's slots may differ, but that nothing of the set comes there
pub record DiffersBeyond (devices : ℕ) (table : Table) (old new : Slots) : Type 0 where
  pub of_set : (slot : ℕ) → slot < table.geometry.members + 2 → new slot ≡ old slot
  pub beyond : (slot : ℕ) → table.geometry.members + 2 ≤ slot → (new slot ≡ old slot) ⊎ HasNone table.id devices slot (new slot)

-- With which case the next run may begin: what stands after the set's slots may differ; and in one slot of the set there may be
-- something else. A device that is known to none is stale: it was replaced, and the set was complete after that.
pub record Starts (devices : ℕ) (table : Table) (old new : Case) : Type 0 where
  pub image : Slots
  pub differs : DiffersBeyond devices table old.image image
  pub begins : (new ≡ record { image = image; lost = old.lost }) ⊎ BeginsWith devices table (record { image = image; lost = old.lost }) new
