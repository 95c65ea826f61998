-- What stops a command over the device files of a folder, and what is told of it.
use Rattle.std.specs.Prelude.{◌≡◌, ◌⊎◌, ◌≤◌, ◌<◌, ◌+◌, ℕ, List, Option, Some, Result, Ok, Err}
use Rattle.sector_model.specs.declared.refusal.Refusal.{Refusal}
use Rattle.sector_model.specs.declared.refusal.Refusal.TheVariants.{BadGeometry, Memory, NotUsable, Worn, WriteFault}
use Rattle.report.specs.Replies.{refusal_line}
use Rattle.device_files.specs.declared.FolderFault.{FolderFault}
use Rattle.device_files.specs.declared.FolderFault.TheVariants.{InUse, NoFile, NotOpened, NotRegular, NotSafe, NotSynced, OtherSet, Refused}
use Rattle.device_files.specs.declared.Reason.{Reason}
use Rattle.device_files.specs.declared.slot_files.CreateFault.{CreateFault}
use Rattle.device_files.specs.declared.slot_files.OpenFault.{OpenFault}
use Rattle.device_files.specs.DeviceFiles.{slot_path}
use Rattle.device_files.specs.Faults.{IsToldLine, Passes}

-- ---- what is told

-- the refusal's line was written, or a beginning of it
abbrev pub IsTold : Refusal → Option (List ℕ) → Option (List ℕ) → Type 0
IsTold refusal = IsToldLine (refusal_line refusal)

-- it was told which of a folder's files are passed over
abbrev pub HasPassed : {E : Type 0} → (contents : E → Option (List ℕ)) → (old new : E) → Type 0
HasPassed contents old new = (barred : List (Option Reason)) × Passes contents barred old new

-- after that a line was written, or a beginning of it
abbrev pub IsToldAfter : {E : Type 0} → (contents : E → Option (List ℕ)) → List ℕ → (old new : E) → Type 0
IsToldAfter contents line old new = (mid : _) × HasPassed contents old mid × IsToldLine line (contents mid) (contents new)

-- ---- what stops it

-- the file of a slot is named as not opened, or as in use, only where that is what opening its path came to, or creating it; as not made only where creating it
-- failed, or a call of a file did
abbrev pub IsBlamed : {F Made : Type 0} → (Opens : (path : List ℕ) → Result (Option F) OpenFault → Type 0)
    (Creates : (path : List ℕ) → Result Made CreateFault → Type 0)
    (HasFailed : F → Type 0) → (folder : List ℕ) → FolderFault → Type 0
IsBlamed Opens Creates HasFailed folder (NoFile slot) = Creates (slot_path folder slot) (Err CreateFault.Failed) ⊎ ((file : _) × HasFailed file)
IsBlamed Opens Creates HasFailed folder (InUse slot) = Opens (slot_path folder slot) (Err OpenFault.Busy)
    ⊎ Creates (slot_path folder slot) (Err CreateFault.Busy)
IsBlamed Opens Creates HasFailed folder (NotOpened slot reason) = Opens (slot_path folder slot) (Err (OpenFault.Barred reason))
IsBlamed Opens Creates HasFailed folder (NotRegular slot) = Opens (slot_path folder slot) (Err OpenFault.NotRegular)
IsBlamed Opens Creates HasFailed folder (NotSafe slot shortage) =
    ((opened : _) × Opens (slot_path folder slot) (Ok (Some opened))) × ((file : _) × HasFailed file)
IsBlamed Opens Creates HasFailed folder fault = Unit {0}

-- the file of a slot is named as not opened for reading only where that is what opening its path came to
abbrev pub IsInspectionBlamed : {F : Type 0} → (Inspects : (path : List ℕ) → Result (Option F) OpenFault → Type 0) → (folder : List ℕ) → FolderFault → Type 0
IsInspectionBlamed Inspects folder (InUse slot) = Inspects (slot_path folder slot) (Err OpenFault.Busy)
IsInspectionBlamed Inspects folder (NotOpened slot reason) = Inspects (slot_path folder slot) (Err (OpenFault.Barred reason))
IsInspectionBlamed Inspects folder (NotRegular slot) = Inspects (slot_path folder slot) (Err OpenFault.NotRegular)
IsInspectionBlamed Inspects folder fault = Unit {0}

-- the files of a set of so many members could not be made: the file of one of its slots, or a folder, or memory ran out
abbrev pub IsFileFault : ℕ → FolderFault → Type 0
IsFileFault members (NoFile slot) = slot < members + 2
IsFileFault members (InUse slot) = slot < members + 2
IsFileFault members NotSynced = Unit {0}
IsFileFault members (Refused refusal) = refusal ≡ Memory
IsFileFault members fault = ⊥

-- a slot from this one on has another set, or that could not be looked for
abbrev pub IsOtherFault : ℕ → FolderFault → Type 0
IsOtherFault first (OtherSet slot) = (first ≤ slot) × (slot < 10)
IsOtherFault first (Refused refusal) = (refusal ≡ Memory) ⊎ (refusal ≡ Worn)
IsOtherFault first fault = ⊥

-- what the making on a bank of devices can be refused with
abbrev pub IsMakingRefusal : Refusal → Type 0
IsMakingRefusal refusal = (refusal ≡ BadGeometry) ⊎ ((refusal ≡ NotUsable) ⊎ (refusal ≡ Worn))

-- what stops the making on a bank of so many devices: a slot after the set has another set, or such a refusal
abbrev pub IsMakingFault : (members devices : ℕ) → FolderFault → Type 0
IsMakingFault members devices (OtherSet slot) = (members + 2 ≤ slot) × (slot < devices)
IsMakingFault members devices (Refused refusal) = IsMakingRefusal refusal
IsMakingFault members devices fault = ⊥

-- what stops it on a bank over the files of ten slots: such a slot, such a refusal, or memory ran out
abbrev pub IsStoppedOver : (members : ℕ) → FolderFault → Type 0
IsStoppedOver members (OtherSet slot) = (members + 2 ≤ slot) × (slot < 10)
IsStoppedOver members (Refused refusal) = IsMakingRefusal refusal ⊎ (refusal ≡ Memory)
IsStoppedOver members fault = ⊥

-- what making can be refused with
abbrev pub IsMakeEnd : Refusal → Type 0
IsMakeEnd refusal = IsMakingRefusal refusal ⊎ ((refusal ≡ Memory) ⊎ (refusal ≡ WriteFault))

-- what stops the making of a set of so many members: a file of one of its slots, a slot after these, a folder, or this refusal
abbrev pub IsStoppedMaking : (End : Refusal → Type 0) → ℕ → FolderFault → Type 0
IsStoppedMaking End members (NoFile slot) = slot < members + 2
IsStoppedMaking End members (InUse slot) = slot < 10
IsStoppedMaking End members (NotOpened slot reason) = slot < 10
IsStoppedMaking End members (NotRegular slot) = slot < 10
IsStoppedMaking End members (NotSafe slot shortage) = slot < 10
IsStoppedMaking End members (OtherSet slot) = (members + 2 ≤ slot) × (slot < 10)
IsStoppedMaking End members NotSynced = Unit {0}
IsStoppedMaking End members (Refused refusal) = End refusal
IsStoppedMaking End members fault = ⊥

-- a set was not made
abbrev pub IsUnmade : ℕ → FolderFault → Type 0
IsUnmade = IsStoppedMaking (λ refusal. IsMakingRefusal refusal ⊎ (refusal ≡ Memory))

-- it was not made, or that could not be told
abbrev pub IsMakeFault : ℕ → FolderFault → Type 0
IsMakeFault = IsStoppedMaking IsMakeEnd

-- with what the file of a slot can be refused, before its device is replaced
abbrev pub IsPreparingRefusal : Refusal → Type 0
IsPreparingRefusal refusal = (refusal ≡ Memory) ⊎ (refusal ≡ Worn)

-- what stops a command over a slot that may need a file: the file of this very slot, any that is opened, a folder, or such a refusal
abbrev pub IsSlotFault : (End : Refusal → Type 0) → ℕ → FolderFault → Type 0
IsSlotFault End slot (NoFile other) = (other ≡ slot) × (slot < 10)
IsSlotFault End slot (InUse other) = other < 10
IsSlotFault End slot (NotOpened other reason) = other < 10
IsSlotFault End slot (NotRegular other) = other < 10
IsSlotFault End slot (NotSafe other shortage) = other < 10
IsSlotFault End slot (OtherSet other) = ⊥
IsSlotFault End slot NotSynced = Unit {0}
IsSlotFault End slot (Refused refusal) = End refusal
IsSlotFault End slot fault = ⊥

-- it is a refusal, and no fault of a device file or of a folder
abbrev pub IsRefusal : FolderFault → Type 0
IsRefusal (Refused refusal) = Unit {0}
IsRefusal fault = ⊥

-- what stops a command that makes no file: one that is opened, or such a refusal
abbrev pub IsServeFault : (End : Refusal → Type 0) → FolderFault → Type 0
IsServeFault End (InUse slot) = slot < 10
IsServeFault End (NotOpened slot reason) = slot < 10
IsServeFault End (NotRegular slot) = slot < 10
IsServeFault End (NotSafe slot shortage) = slot < 10
IsServeFault End (Refused refusal) = End refusal
IsServeFault End fault = ⊥
