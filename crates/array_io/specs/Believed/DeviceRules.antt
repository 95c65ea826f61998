-- With what the next run may begin, by the rules on devices alone: they know of no table.
use Rattle.std.specs.Prelude.{◌≡◌, ◌⊎◌, ℕ, ◌<◌, ◌≤◌, List, Contains, Some, None, ◌∷◌, ◌++◌}
use Rattle.sector_model.specs.History.{Bytes, Slots}
use Rattle.superblock.specs.Cases.{Case, HasNone, MayBeOut, with_slot}
use Rattle.superblock.specs.Counted.{Content}
use Rattle.array_io.specs.Believed.Holds.{devices_of}

-- one of these devices is back in its slot, and the rest are away
pub record IsBack (known : List (List Bytes)) (content : Content) (rest : List (List Bytes)) : Type 0 where
  pub before : List (List Bytes)
  pub disk : List Bytes
  pub after : List (List Bytes)
  pub among : known ≡ before ++ disk ∷ after
  pub holds : content ≡ Some disk
  pub left : rest ≡ before ++ after

-- a device that was replaced, by its slot, with what it last held
pub record Replaced : Type 0 where
  pub slot : ℕ
  pub disk : List Bytes

-- the device of this slot was replaced, and holds what it last held
pub record WasReplaced (replaced : List Replaced) (slot : ℕ) (content : Content) : Type 0 where
  pub device : Replaced
  pub listed : Contains replaced device
  pub own_slot : device.slot ≡ slot
  pub holds : content ≡ Some device.disk

-- a replacement has no superblock of the set, or is a device of the slot that was replaced before
abbrev pub IsReplacement : List ℕ → (devices : ℕ) → List Replaced → ℕ → Content → Type 0
IsReplacement id devices replaced slot content = HasNone id devices slot content ⊎ WasReplaced replaced slot content

-- What a run finds in the slot, and which of the slot's known devices are then away: no device, one of them, or a replacement.
abbrev pub MayBeFound : List ℕ → (devices : ℕ) → List Replaced → ℕ → (known : List (List Bytes)) → Content → (rest : List (List Bytes)) → Type 0
MayBeFound id devices replaced slot known content rest =
    ((content ≡ None) × (rest ≡ known)) ⊎ IsBack known content rest ⊎ (IsReplacement id devices replaced slot content × (rest ≡ known))

-- one slot of the set has something else: any slot where none is lost, else the lost one
pub record HasAnother (id : List ℕ) (devices slots : ℕ) (replaced : List Replaced) (old new : Case) : Type 0 where
  pub slot : ℕ
  pub of_set : slot < slots
  pub may_be_out : MayBeOut old.lost slot
  pub content : Content
  pub image : new.image ≡ with_slot old.image slot content
  pub away : List (List Bytes)
  pub lost : new.lost ≡ Some record { slot = slot; away = away }
  pub found : MayBeFound id devices replaced slot (devices_of old slot) content away

-- after the set's slots devices may come and go, but none with a superblock of the set comes
pub record IsSameInSet (id : List ℕ) (devices slots : ℕ) (old new : Slots) : Type 0 where
  pub of_set : (slot : ℕ) → slot < slots → new slot ≡ old slot
  pub beyond : (slot : ℕ) → slots ≤ slot → (new slot ≡ old slot) ⊎ HasNone id devices slot (new slot)

-- With which case the next run may begin, after a crash left the old one.
pub record MayBegin (id : List ℕ) (devices slots : ℕ) (replaced : List Replaced) (old new : Case) : Type 0 where
  pub image : Slots
  pub same : IsSameInSet id devices slots old.image image
  pub begins : (new ≡ record { image = image; lost = old.lost }) ⊎ HasAnother id devices slots replaced (record { image = image; lost = old.lost }) new
