-- Superblocks of another set of the same id, after the slots of one that is to be made; and a set that is made where there is none.
use Rattle.std.specs.Prelude.{◌≡◌, ◌⊎◌, ◌+◌, ◌<◌, ◌≤◌, true, ℕ, List, Option, Some, None, Result, Ok, Err}
use Rattle.sector_model.specs.declared.refusal.Refusal.{Refusal}
use Rattle.sector_model.specs.declared.refusal.Refusal.TheVariants.{Worn}
use Rattle.sector_model.specs.declared.calls.TheConstants.{GREATEST_COUNT}
use Rattle.sector_model.specs.Bank.{IsLater}
use Rattle.sector_model.specs.History.{History, is_down, start_of}
use Rattle.sector_model.specs.Readable.{NothingPending, readable}
use Rattle.sector_model.specs.Reads.{HasRead}
use Rattle.layout_map.specs.declared.geometry.Geometry.{Geometry}
use Rattle.superblock.specs.declared.table.Superblock.{Superblock}
use Rattle.superblock.specs.Newest.{SlotCountsNone}
use Rattle.array_io.specs.Believed.Fresh.{zeros_of}
use Rattle.array_io.specs.Believed.ReadWhole.{NoDeviceFailed}
use Rattle.array_io.specs.Believed.Views.{RestsOn}
use Rattle.recovery.specs.Finding.{NewestFound}
use Rattle.recovery.specs.Making.{BankView, IsQuietBeyond}
use Rattle.device_files.specs.declared.FolderFault.{FolderFault}
use Rattle.device_files.specs.declared.FolderFault.TheVariants.{OtherSet, Refused}
use Rattle.raidtool.specs.Done.{MakesOn, RefusesMake}

-- what is found from a slot on: the lowest one in which a superblock of this id counts, or that there is none
abbrev pub IsFoundBeyond : (id : List ℕ) (first : ℕ) (bank : BankView) → Option ℕ → Type 0
IsFoundBeyond id first bank None = (slot : ℕ) → first ≤ slot → slot < bank.panel.devices
    → SlotCountsNone id bank.panel.devices slot (readable bank.history slot)
IsFoundBeyond id first bank (Some slot) = (superblock : Superblock) × NewestFound id bank.panel.devices slot (readable bank.history) (Some superblock)

-- The slots from one on were inspected, by reads alone. Where no device went down meanwhile, what is found is what reads gave before.
pub record InspectsBeyond (honest : Type 0) (id : List ℕ) (first : ℕ) (old new : BankView) (answer : Result (Option ℕ) Refusal) : Type 0 where
  pub later : IsLater old.panel new.panel
  pub reads : honest → HasRead old.history new.history
  pub finds : (found : Option ℕ) → answer ≡ Ok found → honest → NoDeviceFailed old.panel new.panel → IsFoundBeyond id first old found
  pub cause : (refusal : Refusal) → answer ≡ Err refusal → (refusal ≡ Worn) × (GREATEST_COUNT ≤ new.panel.calls)

-- a slot from this one on has another set, which was found there, or that could not be looked for
abbrev pub RefusesOther : (honest : Type 0) (id : List ℕ) (first : ℕ) (old new : BankView) → FolderFault → Type 0
RefusesOther honest id first old new (OtherSet slot) =
    (first ≤ slot) × (slot < old.panel.devices) × InspectsBeyond honest id first old new (Ok (Some slot))
RefusesOther honest id first old new (Refused refusal) = (refusal ≡ Worn) × InspectsBeyond honest id first old new (Err refusal)
RefusesOther honest id first old new fault = ⊥

-- on a bank that is honest where this holds, and whose run began so, no slot from one on was found to have a set of this id
abbrev pub IsAloneIn : (honest : Type 0) (Begins : History → Type 0) (id : List ℕ) (first : ℕ) → Type 0
IsAloneIn honest Begins id first = (old : BankView) × (new : BankView) × Begins old.history × InspectsBeyond honest id first old new (Ok None)

-- on such a bank of ten devices that could not be told, for this refusal
abbrev pub IsUntoldIn : (honest : Type 0) (Begins : History → Type 0) (id : List ℕ) (first : ℕ) → Refusal → Type 0
IsUntoldIn honest Begins id first refusal =
    (old : BankView) × Begins old.history × (old.panel.devices ≡ 10) × (new : BankView) × RefusesOther honest id first old new (Refused refusal)

-- nothing is pending, and each device after so many slots that was there at first is up: so it is with files that were just opened
pub record IsStillBeyond (slots : ℕ) (bank : BankView) : Type 0 where
  pub nothing_pending : NothingPending bank.history
  pub none_lost : (slot : ℕ) → slots ≤ slot → is_down bank.history slot ≡ true → start_of bank.history slot ≡ None

-- No slot after those of a set was found to have another one of its id, by reads alone, and then the set was made on this very bank. Where no device failed
-- meanwhile, the bank was as the headline asks, and the set is settled on zeros.
pub record MakesAlone (honest : Type 0) (id : List ℕ) (geometry : Geometry) (bank : BankView) : Type 0 where
  pub inspected : BankView
  pub alone : InspectsBeyond honest id (geometry.members + 2) bank inspected (Ok None)
  pub makes : MakesOn honest id geometry inspected
  pub quiet : honest → IsStillBeyond (geometry.members + 2) bank → NoDeviceFailed bank.panel inspected.panel
      → IsQuietBeyond id (geometry.members + 2) inspected
  pub rests : honest → IsStillBeyond (geometry.members + 2) bank → NoDeviceFailed bank.panel inspected.panel → RestsOn makes.array None (zeros_of geometry)

-- a set of this id and geometry was so made on a bank that is honest where this holds, and whose run began so
abbrev pub IsMadeAlone : (honest : Type 0) (Begins : History → Type 0) (id : List ℕ) → Geometry → Type 0
IsMadeAlone honest Begins id geometry = (bank : BankView) × Begins bank.history × MakesAlone honest id geometry bank

-- No slot after those of a set was found to have another one of its id, and then the set was not made on this very bank, for this refusal.
pub record RefusesMakeAlone (honest : Type 0) (id : List ℕ) (geometry : Geometry) (bank : BankView) (refusal : Refusal) : Type 0 where
  pub inspected : BankView
  pub alone : InspectsBeyond honest id (geometry.members + 2) bank inspected (Ok None)
  pub refuses : RefusesMake honest id geometry inspected refusal

-- what stopped the making of a set on a bank: a slot after its own has another one, or that could not be told, or the set could not be made
abbrev pub StopsMaking : (honest : Type 0) (id : List ℕ) (geometry : Geometry) (bank : BankView) → FolderFault → Type 0
StopsMaking honest id geometry bank fault = ((after : BankView) × RefusesOther honest id (geometry.members + 2) bank after fault)
    ⊎ ((refusal : Refusal) × (fault ≡ Refused refusal) × RefusesMakeAlone honest id geometry bank refusal)

-- a set of this id and geometry was so refused on a bank of ten devices that is honest where this holds, and whose run began so
abbrev pub IsRefusedMake : (honest : Type 0) (Begins : History → Type 0) (id : List ℕ) → Geometry → Refusal → Type 0
IsRefusedMake honest Begins id geometry refusal =
    (bank : BankView) × Begins bank.history × (bank.panel.devices ≡ 10) × StopsMaking honest id geometry bank (Refused refusal)
