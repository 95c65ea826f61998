-- What a crash leaves of a set, and what may be lost of it besides.
use Rattle.std.specs.Prelude.{◌≡◌, ◌⊎◌, ℕ, ◌<◌, ◌==◌, if◌then◌else◌, List, [], Option, Some, None, Contains, length}
use Rattle.sector_model.specs.History.{Bytes, IsSector, Slots, disk_of, sector_of}
use Rattle.superblock.specs.declared.table.Table.{Table}
use Rattle.superblock.specs.declared.table.Superblock.{Superblock}
use Rattle.superblock.specs.Counted.{Content, Counts, IsStale}
use Rattle.superblock.specs.NextTables.{IsComplete, IsOut}

-- each sector in a slot has 512 bytes
abbrev pub HasWholeSectors : Slots → Type 0
HasWholeSectors image = (slot a : ℕ) → a < length (disk_of (image slot)) → IsSector (sector_of (disk_of (image slot)) a)

-- a lost slot, and the last contents of its devices that are away
pub record Lost : Type 0 where
  pub slot : ℕ
  pub away : List (List Bytes)

-- what stands in the slots, and which slot is lost, if one is
pub record Case : Type 0 where
  pub image : Slots
  pub lost : Option Lost

-- the contents that are away, of no device where no slot is lost
abbrev pub away_of : Option Lost → List (List Bytes)
away_of None = []
away_of (Some lost) = lost.away

-- an image with something else in one slot
abbrev pub with_slot : Slots → ℕ → Content → Slots
with_slot image slot content = λ d. if d == slot then content else image d

-- no superblock of the set counts in what a slot has
abbrev pub HasNone : List ℕ → (devices slot : ℕ) → Content → Type 0
HasNone id devices slot content = (place : ℕ) (superblock : Superblock) → ¬ Counts id devices slot content place superblock

-- the slot may be without its device: any slot where none is lost, else the lost one
abbrev pub MayBeOut : Option Lost → ℕ → Type 0
MayBeOut None slot = Unit {0}
MayBeOut (Some lost) slot = slot ≡ lost.slot

-- the last content of a device of the slot that is away
pub record IsAway (away : List (List Bytes)) (content : Content) : Type 0 where
  pub disk : List Bytes
  pub holds : content ≡ Some disk
  pub listed : Contains away disk

-- what may stand in such a slot in place of what stands there: nothing, something stale, or what an away device holds
abbrev pub MayStand : ℕ → Table → Option Lost → ℕ → Content → Type 0
MayStand devices table lost slot content = (content ≡ None) ⊎ IsStale devices table slot content ⊎ IsAway (away_of lost) content

-- the lost slot, if one is, is a slot of a set with so many
abbrev pub IsLostIn : ℕ → Option Lost → Type 0
IsLostIn slots None = Unit {0}
IsLostIn slots (Some lost) = lost.slot < slots

-- what is lost when a slot is given up: it, with nothing away, where none was lost before
abbrev pub lost_from : Option Lost → ℕ → Option Lost
lost_from None slot = Some record { slot = slot; away = [] }
lost_from (Some lost) slot = Some lost

-- the table lacks the slot that is lost: the one that was lost before, or the one that is out now, with nothing away
abbrev pub IsStillLost : Option Lost → Table → Option Lost → Type 0
IsStillLost None table after = (slot : ℕ) × IsOut table slot × (after ≡ Some record { slot = slot; away = [] })
IsStillLost (Some lost) table after = IsOut table lost.slot × (after ≡ Some lost)

-- Which slot is lost after a call, by what was lost before and by the table then: none where the table is complete, and else the one
-- that is not in sync. So a loss ends when the set is complete, and no other way.
abbrev pub IsLostAfter : Option Lost → Table → Option Lost → Type 0
IsLostAfter before table after = (IsComplete table × (after ≡ None)) ⊎ IsStillLost before table after
