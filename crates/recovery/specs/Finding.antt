-- What a search for superblocks by reads of a bank promises.
use Rattle.std.specs.Prelude.{◌≡◌, ◌≢◌, ℕ, ◌≤◌, false, List, length, Option, Some, None, Result, Ok, Err}
use Rattle.sector_model.specs.declared.refusal.Refusal.{Refusal}
use Rattle.sector_model.specs.declared.refusal.Refusal.TheVariants.{Worn}
use Rattle.sector_model.specs.declared.calls.TheConstants.{GREATEST_COUNT}
use Rattle.sector_model.specs.Bank.{IsLater}
use Rattle.sector_model.specs.History.{Bytes, History, Slots, disk_of, is_down, sector_of, seen}
use Rattle.sector_model.specs.Readable.{readable}
use Rattle.sector_model.specs.Reads.{HasRead}
use Rattle.superblock.specs.declared.table.Superblock.{Superblock}
use Rattle.superblock.specs.Counted.{Counts}
use Rattle.superblock.specs.Newest.{CountsNone, IsNewest, IsOfSet, SlotCountsNone}
use Rattle.array_io.specs.Believed.ReadWhole.{NoDeviceFailed}
use Rattle.recovery.specs.Making.{BankView}

-- A read of a place of a slot: it gives what stands there by what reads gave before; where it gives nothing, and no device went down between, nothing
-- stands there.
pub record ReadsPlace (honest : Type 0) (slot place : ℕ) (old new : BankView) (answer : Result (Option Bytes) Refusal) : Type 0 where
  pub later : IsLater old.panel new.panel
  pub reads : honest → HasRead old.history new.history
  pub stands : (sector : Bytes) → answer ≡ Ok (Some sector)
      → (old.panel.down slot ≡ false) × (honest → sector ≡ sector_of (seen old.history slot) place)
  pub nothing : honest → NoDeviceFailed old.panel new.panel → answer ≡ Ok None → length (disk_of (readable old.history slot)) ≤ place
  pub cause : (refusal : Refusal) → answer ≡ Err refusal → (refusal ≡ Worn) × (GREATEST_COUNT ≤ new.panel.calls)

-- what is found in a place of a slot: the superblock that counts there, or that none does
abbrev pub FoundAt : List ℕ → (devices slot place : ℕ) → Slots → Option Superblock → Type 0
FoundAt id devices slot place image None = CountsNone id devices slot (image slot) place
FoundAt id devices slot place image (Some superblock) = Counts id devices slot (image slot) place superblock

-- what is found in a slot: the newest superblock that counts there, or that none does
abbrev pub NewestFound : List ℕ → (devices slot : ℕ) → Slots → Option Superblock → Type 0
NewestFound id devices slot image None = SlotCountsNone id devices slot (image slot)
NewestFound id devices slot image (Some newest) = IsNewest id devices slot (image slot) newest

-- A search by reads alone. Where no device went down between, what is found is what was sought in what reads gave before, and so is that there is
-- none.
pub record Finds (honest : Type 0) (id : List ℕ) (devices : ℕ) (IsSought : Slots → Option Superblock → Type 0)
    (old new : BankView) (answer : Result (Option Superblock) Refusal) : Type 0 where
  pub later : IsLater old.panel new.panel
  pub fits : (superblock : Superblock) → answer ≡ Ok (Some superblock) → IsOfSet id devices superblock
  pub reads : honest → HasRead old.history new.history
  pub sought : honest → NoDeviceFailed old.panel new.panel → (found : Option Superblock) → answer ≡ Ok found → IsSought (readable old.history) found
  pub cause : (refusal : Refusal) → answer ≡ Err refusal → (refusal ≡ Worn) × (GREATEST_COUNT ≤ new.panel.calls)

-- of all devices but this one, each is up or down as before
abbrev pub OthersStay : ℕ → History → History → Type 0
OthersStay slot old new = (d : ℕ) → d ≢ slot → is_down new d ≡ is_down old d
