-- The newest superblock that counts in a slot, and what there is where none counts.
use Rattle.layout_map.specs.declared.sizes.TheConstants.{SUPERBLOCK_PLACES}
use Rattle.std.specs.Prelude.{◌≡◌, ℕ, ◌+◌, ◌%◌, ◌≤◌, nat_lt, if◌then◌else◌, List, Option, Some, None}
use Rattle.sector_model.specs.History.{Bytes, Slots}
use Rattle.superblock.specs.declared.table.Superblock.{Superblock}
use Rattle.superblock.specs.Spelling.{superblock_sector}
use Rattle.superblock.specs.Counted.{Content, Counts}

-- a superblock is of the set, and the bank has the set's slots
pub record IsOfSet (id : List ℕ) (devices : ℕ) (superblock : Superblock) : Type 0 where
  pub of_set : superblock.table.id ≡ id
  pub has_slots : superblock.table.geometry.members + 2 ≤ devices

-- it belongs into this place of this slot
pub record BelongsAt (slot place : ℕ) (superblock : Superblock) : Type 0 where
  pub own_slot : superblock.role ≡ slot
  pub own_place : superblock.table.generation % SUPERBLOCK_PLACES ≡ place

-- a sector spells this superblock, which counts where the sector is the one in this place of this slot
pub record CountsIn (id : List ℕ) (devices slot place : ℕ) (sector : Bytes) (superblock : Superblock) : Type 0 where
  pub spelled : sector ≡ superblock_sector superblock
  pub of_set : IsOfSet id devices superblock
  pub belongs : BelongsAt slot place superblock

-- no superblock counts in this place of what a slot has
abbrev pub CountsNone : List ℕ → ℕ → ℕ → Content → ℕ → Type 0
CountsNone id devices slot content place = (superblock : Superblock) → ¬ Counts id devices slot content place superblock

-- nor in any place of it
abbrev pub SlotCountsNone : List ℕ → ℕ → ℕ → Content → Type 0
SlotCountsNone id devices slot content = (place : ℕ) → CountsNone id devices slot content place

-- nor in any slot
abbrev pub ImageCountsNone : List ℕ → ℕ → Slots → Type 0
ImageCountsNone id devices image = (slot : ℕ) → SlotCountsNone id devices slot (image slot)

-- the newest superblock that counts in what a slot has
pub record IsNewest (id : List ℕ) (devices slot : ℕ) (content : Content) (newest : Superblock) : Type 0 where
  pub place : ℕ
  pub counted : Counts id devices slot content place newest
  pub greatest : (at : ℕ) (superblock : Superblock) → Counts id devices slot content at superblock
      → superblock.table.generation ≤ newest.table.generation

-- the newer of two superblocks: of two equally new ones the first
abbrev pub newer_of : Option Superblock → Option Superblock → Option Superblock
newer_of None second = second
newer_of (Some first) None = Some first
newer_of (Some first) (Some second) = if nat_lt first.table.generation second.table.generation then Some second else Some first
