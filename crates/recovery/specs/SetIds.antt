-- Of which sets a bank has superblocks.
use Rattle.std.specs.Prelude.{◌≡◌, ◌⊎◌, ℕ, ◌<◌, ◌≤◌, List, Option, Some, None, Result, Ok, Err}
use Rattle.std.specs.Int.{from_be_bytes, w128}
use Rattle.sector_model.specs.declared.refusal.Refusal.{Refusal}
use Rattle.sector_model.specs.declared.refusal.Refusal.TheVariants.{Worn}
use Rattle.sector_model.specs.declared.calls.TheConstants.{GREATEST_COUNT}
use Rattle.sector_model.specs.Bank.{IsLater}
use Rattle.sector_model.specs.History.{Bytes, Slots}
use Rattle.sector_model.specs.Readable.{readable}
use Rattle.sector_model.specs.Reads.{HasRead}
use Rattle.superblock.specs.declared.table.Superblock.{Superblock}
use Rattle.superblock.specs.Counted.{Content, Counts}
use Rattle.superblock.specs.Newest.{CountsIn}
use Rattle.array_io.specs.Believed.ReadWhole.{NoDeviceFailed}
use Rattle.recovery.specs.Making.{BankView}

-- an id as a number, its first byte the greatest: ids rise as their texts do
abbrev pub id_number : List ℕ → ℕ
id_number id = from_be_bytes w128 id

-- it is above this one, if one is given
abbrev pub IsAbove : Option (List ℕ) → List ℕ → Type 0
IsAbove None id = Unit {0}
IsAbove (Some other) id = id_number other < id_number id

-- one was found that is not above this one
abbrev pub IsAtMost : Option (List ℕ) → List ℕ → Type 0
IsAtMost None id = ⊥
IsAtMost (Some found) id = id_number found ≤ id_number id

-- a superblock of the set of this id counts in what a slot has
pub record IsIdIn (devices slot : ℕ) (content : Content) (id : List ℕ) : Type 0 where
  pub place : ℕ
  pub superblock : Superblock
  pub counted : Counts id devices slot content place superblock

-- or in some slot of an image
pub record IsIdOn (devices : ℕ) (image : Slots) (id : List ℕ) : Type 0 where
  pub slot : ℕ
  pub here : IsIdIn devices slot (image slot) id

-- the id of the superblock that a sector spells, where it counts in this place of this slot; none where none counts there
pub record IsIdOf (devices slot place : ℕ) (sector : Bytes) (found : Option (List ℕ)) : Type 0 where
  pub counts : (id : List ℕ) → found ≡ Some id → (superblock : Superblock) × CountsIn id devices slot place sector superblock
  pub only : (id : List ℕ) (superblock : Superblock) → CountsIn id devices slot place sector superblock → found ≡ Some id

-- A search of one place, by reads of its device alone: the id of the superblock that counted there; where no device went down between, none where none
-- did.
pub record ReadsId (honest : Type 0) (devices slot place : ℕ) (old new : BankView) (answer : Result (Option (List ℕ)) Refusal) : Type 0 where
  pub later : IsLater old.panel new.panel
  pub reads : honest → HasRead old.history new.history
  pub counts : honest → (id : List ℕ) → answer ≡ Ok (Some id)
      → (superblock : Superblock) × Counts id devices slot (readable old.history slot) place superblock
  pub only : honest → NoDeviceFailed old.panel new.panel → (found : Option (List ℕ)) → answer ≡ Ok found
      → (id : List ℕ) (superblock : Superblock) → Counts id devices slot (readable old.history slot) place superblock → found ≡ Some id
  pub cause : (refusal : Refusal) → answer ≡ Err refusal → (refusal ≡ Worn) × (GREATEST_COUNT ≤ new.panel.calls)

-- the lesser of the best id so far and a further one, where that is above this one
pub record IsLesser (above best further found : Option (List ℕ)) : Type 0 where
  pub one : (id : List ℕ) → found ≡ Some id → (best ≡ Some id) ⊎ ((further ≡ Some id) × IsAbove above id)
  pub kept : (id : List ℕ) → IsAtMost best id → IsAtMost found id
  pub least : (id : List ℕ) → further ≡ Some id → IsAbove above id → IsAtMost found id

-- A search of places by reads alone, for the least id above this one of those that may be sought: what is found is one of them, or the best one from
-- before; where no device went down between, it is not above any of them.
pub record FindsLeast (honest : Type 0) (above best : Option (List ℕ)) (MayBe : Slots → List ℕ → Type 0) (old new : BankView)
    (answer : Result (Option (List ℕ)) Refusal) : Type 0 where
  pub later : IsLater old.panel new.panel
  pub reads : honest → HasRead old.history new.history
  pub one : honest → (id : List ℕ) → answer ≡ Ok (Some id) → (best ≡ Some id) ⊎ (MayBe (readable old.history) id × IsAbove above id)
  pub kept : (found : Option (List ℕ)) → answer ≡ Ok found → (id : List ℕ) → IsAtMost best id → IsAtMost found id
  pub least : honest → NoDeviceFailed old.panel new.panel → (found : Option (List ℕ)) → answer ≡ Ok found
      → (id : List ℕ) → MayBe (readable old.history) id → IsAbove above id → IsAtMost found id
  pub cause : (refusal : Refusal) → answer ≡ Err refusal → (refusal ≡ Worn) × (GREATEST_COUNT ≤ new.panel.calls)

-- the ids of superblocks that count in a place of a slot, in a slot, in the slots below this one, on the bank
abbrev pub InPlace : (devices slot place : ℕ) → Slots → List ℕ → Type 0
InPlace devices slot place image id = (superblock : Superblock) × Counts id devices slot (image slot) place superblock

abbrev pub InSlot : (devices slot : ℕ) → Slots → List ℕ → Type 0
InSlot devices slot image id = IsIdIn devices slot (image slot) id

abbrev pub InSlotsBelow : (devices n : ℕ) → Slots → List ℕ → Type 0
InSlotsBelow devices n image id = (slot : ℕ) × (slot < n) × IsIdIn devices slot (image slot) id

-- The least id above this one of all of which a superblock counts on the bank, by reads alone.
abbrev pub FindsIdAbove : (honest : Type 0) (above : Option (List ℕ)) (old new : BankView) → Result (Option (List ℕ)) Refusal → Type 0
FindsIdAbove honest above old new answer = FindsLeast honest above None (IsIdOn old.panel.devices) old new answer
