-- What stops a call over the device files of a folder, and the line that tells it.
use Rattle.std.specs.Prelude.{◌≡◌, ◌≢◌, ◌⊎◌, ◌≤◌, ◌<◌, ℕ, zero, suc, Bool, true, pos, List, [], ◌∷◌, ◌++◌, codes, Option, None, Some, Result, Ok, Err}
use Rattle.std.specs.Prelude.{IfErr, IsSome, IsSomeAnd}
use Rattle.std.specs.declared.io.Error.{Error}
use Rattle.std.specs.declared.io.ErrorKind.TheVariants.{NotADirectory, NotFound}
use Rattle.std.specs.Io.KnownBytes.{Appends}
use Rattle.hex.specs.Hex.{encode_lower}
use Rattle.std.specs.IoError.{error_kind, raw_os_error}
use Rattle.sector_model.specs.declared.refusal.Refusal.TheVariants.{Memory, Worn}
use Rattle.report.specs.Replies.{refusal_line, slot_line}
use Rattle.report.specs.Written.{AppendsPart}
use Rattle.device_files.specs.DeviceFiles.{barred_in, file_in, flag_in}
use Rattle.device_files.specs.declared.Reason.{Reason}
use Rattle.device_files.specs.declared.Shortage.{Shortage}
use Rattle.device_files.specs.declared.Shortage.TheVariants.{Quota, Space}
use Rattle.device_files.specs.declared.slot_files.CreateFault.{CreateFault}
use Rattle.device_files.specs.declared.slot_files.OpenFault.{OpenFault}
use Rattle.device_files.specs.declared.Reason.TheVariants.{NotPermitted, Permission, ReadOnly, TooManyFiles, TooManyFilesInSystem}
use Rattle.device_files.specs.declared.FolderFault.{FolderFault}
use Rattle.device_files.specs.declared.FolderFault.TheVariants.{Absent, InUse, NoFile, NotOpened, NotRegular, NotSafe, NotSynced, OtherSet, Refused, SetThere}

-- ---- why a file that is there could not be opened

-- the system's number of a reason
abbrev pub code_of : Reason → ℕ
code_of NotPermitted = 1
code_of Permission = 13
code_of TooManyFilesInSystem = 23
code_of TooManyFiles = 24
code_of ReadOnly = 30

-- its words
abbrev pub words_for : Reason → List ℕ
words_for Permission = codes ": permission denied"
words_for NotPermitted = codes ": operation not permitted"
words_for ReadOnly = codes ": read-only file system"
words_for TooManyFiles = codes ": too many open files"
words_for TooManyFilesInSystem = codes ": too many open files in system"

-- the system's number of a shortage
abbrev pub shortage_code : Shortage → ℕ
shortage_code Space = 28
shortage_code Quota = 122

-- its words
abbrev pub shortage_words : Shortage → List ℕ
shortage_words Space = codes ": no space left on device"
shortage_words Quota = codes ": disk quota exceeded"

-- ---- what a fault of the system says

-- a path leads to no file
abbrev pub SaysAbsent : Error → Type 0
SaysAbsent error = (error_kind error ≡ NotFound) ⊎ (error_kind error ≡ NotADirectory)

-- a folder can't be opened, or synced, at all
abbrev pub SaysNever : Error → Type 0
SaysNever error = (raw_os_error error ≡ Some (pos 13)) ⊎ (raw_os_error error ≡ Some (pos 22))

-- it gives none of the reasons for which a file that is there could not be opened
abbrev pub SaysNoReason : Error → Type 0
SaysNoReason error = (reason : Reason) → raw_os_error error ≢ Some (pos (code_of reason))

-- there is no room, of this kind
abbrev pub SaysShort : Error → Shortage → Type 0
SaysShort error shortage = raw_os_error error ≡ Some (pos (shortage_code shortage))

-- it says nothing of room
abbrev pub SaysNoShortage : Error → Type 0
SaysNoShortage error = (shortage : Shortage) → raw_os_error error ≢ Some (pos (shortage_code shortage))

-- ---- what the system said of a path

-- that it leads to no file
abbrev pub WasAbsent : {P : Type 0} → (Leads : Result P Error → Type 0) → Type 0
WasAbsent Leads = (error : Error) × Leads (Err error) × SaysAbsent error

-- where it leads, or a fault that says no such thing
abbrev pub WasNotAbsent : {P : Type 0} → (Leads : Result P Error → Type 0) → Type 0
WasNotAbsent Leads = (found : Result _ Error) × Leads found × IfErr found (λ error. ¬ SaysAbsent error)

-- that it leads to where an open file lies
abbrev pub LeadsTo : {P : Type 0} → (Leads Lies : Result P Error → Type 0) → Type 0
LeadsTo Leads Lies = (place : _) × Leads (Ok place) × Lies (Ok place)

-- that it leads elsewhere, or that could not be told
abbrev pub LeadsElsewhere : {P : Type 0} → (Leads Lies : Result P Error → Type 0) → Type 0
LeadsElsewhere Leads Lies = (there : Result _ Error) × (here : Result _ Error) × Leads there × Lies here × ((place : _) → there ≡ Ok place → here ≢ Ok place)

-- What the opening of a file came to: where it could not be opened, there is none if the fault gives no reason of the caller's, or the file is absent.
abbrev pub IsOpening : {F P : Type 0} → (Opens : Result F Error → Type 0) (Leads : Result P Error → Type 0) → Result (Option F) Reason → Type 0
IsOpening Opens Leads (Ok (Some file)) = Opens (Ok file)
IsOpening Opens Leads (Ok None) = (error : Error) × Opens (Err error) × (SaysNoReason error ⊎ WasAbsent Leads)
IsOpening Opens Leads (Err reason) = (error : Error) × Opens (Err error) × (raw_os_error error ≡ Some (pos (code_of reason))) × WasNotAbsent Leads

-- ---- the line of a fault

-- a folder, or one to which a link in it leads, could not be synced
abbrev pub unsynced_line : (folder : List ℕ) → List ℕ
unsynced_line folder = codes "cannot sync " ++ folder ++ 10 ∷ []

-- a superblock of the set of this id is there
abbrev pub set_there_line : (id : List ℕ) → List ℕ
set_there_line id = codes "there is a set: " ++ encode_lower id ++ 10 ∷ []

-- the line of what stopped a command over this folder
abbrev pub fault_line : (folder : List ℕ) → FolderFault → List ℕ
fault_line folder (NoFile slot) = slot_line (codes "cannot make ") slot []
fault_line folder (InUse slot) = slot_line (codes "in use ") slot []
fault_line folder (NotOpened slot reason) = slot_line (codes "cannot open ") slot (words_for reason)
fault_line folder (NotRegular slot) = slot_line (codes "not a regular file: ") slot []
fault_line folder (NotSafe slot shortage) = slot_line (codes "cannot sync ") slot (shortage_words shortage)
fault_line folder (OtherSet slot) = slot_line (codes "another set with this id: ") slot []
fault_line folder (Absent slot) = slot_line (codes "no file: ") slot []
fault_line folder (SetThere id) = set_there_line id
fault_line folder NotSynced = unsynced_line folder
fault_line folder (Refused refusal) = refusal_line refusal

-- a line was written, or a beginning of it
abbrev pub IsToldLine : List ℕ → Option (List ℕ) → Option (List ℕ) → Type 0
IsToldLine line old new = Appends old new line ⊎ AppendsPart old new line

-- the line of a fault was written, or a beginning of it
abbrev pub IsFaultTold : (folder : List ℕ) → FolderFault → Option (List ℕ) → Option (List ℕ) → Type 0
IsFaultTold folder fault = IsToldLine (fault_line folder fault)

-- what standard error gets of a file that is passed over
abbrev pub passed_line : (slot : ℕ) → Reason → List ℕ
passed_line slot reason = slot_line (codes "without ") slot (words_for reason)

-- what standard error gets of a slot: nothing, or where its file could not be opened the line of the reason, or a beginning of it
abbrev pub TellsPassed : {E : Type 0} → (contents : E → Option (List ℕ)) (slot : ℕ) → Option Reason → (old new : E) → Type 0
TellsPassed contents slot None old new = new ≡ old
TellsPassed contents slot (Some reason) old new = IsToldLine (passed_line slot reason) (contents old) (contents new)

-- that of each slot below this one, in their order
abbrev pub PassesBelow : {E : Type 0} → (contents : E → Option (List ℕ)) (barred : List (Option Reason)) → ℕ → (old new : E) → Type 0
PassesBelow contents barred zero old new = new ≡ old
PassesBelow contents barred (suc slot) old new = (mid : _) × PassesBelow contents barred slot old mid
    × TellsPassed contents slot (barred_in barred slot) mid new

-- that of each of ten slots
abbrev pub Passes : {E : Type 0} → (contents : E → Option (List ℕ)) (barred : List (Option Reason)) → (old new : E) → Type 0
Passes contents barred old new = PassesBelow contents barred 10 old new

-- ---- what a call is stopped by

-- the file of a slot, from one on and below another, is there, and could not be opened for its reason
abbrev pub IsBarredIn : List (Option Reason) → (first end : ℕ) → FolderFault → Type 0
IsBarredIn barred first end (NotOpened slot reason) = (first ≤ slot) × (slot < end) × (slot < 10) × (barred_in barred slot ≡ Some reason)
IsBarredIn barred first end fault = ⊥

-- so it is with one that is needed, or that could not be looked for
abbrev pub IsPassingFault : List (Option Reason) → FolderFault → Type 0
IsPassingFault barred (NotOpened slot reason) = (slot < 10) × (barred_in barred slot ≡ Some reason)
IsPassingFault barred (Refused refusal) = (refusal ≡ Memory) ⊎ (refusal ≡ Worn)
IsPassingFault barred fault = ⊥

-- the file of this very slot was not opened, or memory ran out
abbrev pub IsOpenFaultOf : ℕ → FolderFault → Type 0
IsOpenFaultOf slot (InUse other) = other ≡ slot
IsOpenFaultOf slot (NotOpened other reason) = other ≡ slot
IsOpenFaultOf slot (NotRegular other) = other ≡ slot
IsOpenFaultOf slot (Refused refusal) = refusal ≡ Memory
IsOpenFaultOf slot fault = ⊥

-- the file of a slot was not opened, or memory ran out
abbrev pub IsOpenFault : FolderFault → Type 0
IsOpenFault (InUse slot) = slot < 10
IsOpenFault (NotOpened slot reason) = slot < 10
IsOpenFault (NotRegular slot) = slot < 10
IsOpenFault (NotSafe slot shortage) = slot < 10
IsOpenFault (Refused refusal) = refusal ≡ Memory
IsOpenFault fault = ⊥

-- the file of the slot that is named was not opened, as that of its path came to, or was, and then a call of it failed for want of room, or memory ran out
abbrev pub IsFailedOpening : {F : Type 0} → (Opens : (slot : ℕ) → Result (Option F) OpenFault → Type 0) (HasFailed : F → Type 0) → FolderFault → Type 0
IsFailedOpening Opens HasFailed (InUse slot) = Opens slot (Err OpenFault.Busy)
IsFailedOpening Opens HasFailed (NotOpened slot reason) = Opens slot (Err (OpenFault.Barred reason))
IsFailedOpening Opens HasFailed (NotRegular slot) = Opens slot (Err OpenFault.NotRegular)
IsFailedOpening Opens HasFailed (NotSafe slot shortage) = (opened : _) × Opens slot (Ok (Some opened)) × HasFailed opened
IsFailedOpening Opens HasFailed (Refused refusal) = refusal ≡ Memory
IsFailedOpening Opens HasFailed fault = ⊥

-- a file of which a call failed, whose sync answered a fault that says nothing of room
abbrev pub IsGivenUp : {F : Type 0} → (HasFailed : F → Type 0) (SyncFailed : F → Error → Type 0) → F → Type 0
IsGivenUp HasFailed SyncFailed file = HasFailed file × ((error : Error) × SyncFailed file error × SaysNoShortage error)

-- there is called to be no room only where the sync of a file answered that
abbrev pub IsShort : {F : Type 0} → (SyncFailed : F → Error → Type 0) → FolderFault → Type 0
IsShort SyncFailed (NotSafe slot shortage) = (file : _) × (error : Error) × SyncFailed file error × SaysShort error shortage
IsShort SyncFailed fault = Unit {0}

-- there is no room to make safe what the file of this very slot holds, of which this holds
abbrev pub IsUnsafeSlot : {F : Type 0} → (HasFailed : F → Type 0) → (slot : ℕ) → Option F → FolderFault → Type 0
IsUnsafeSlot HasFailed slot file (NotSafe other shortage) = (other ≡ slot) × IsSomeAnd file HasFailed
IsUnsafeSlot HasFailed slot file fault = ⊥

-- there is none for the file of a slot
abbrev pub IsUnsafe : {F : Type 0} → (HasFailed : F → Type 0) → List (Option F) → FolderFault → Type 0
IsUnsafe HasFailed files (NotSafe slot shortage) = (slot < 10) × IsSomeAnd (file_in files slot) HasFailed
IsUnsafe HasFailed files fault = ⊥

-- one of these slots is named, of which that is marked
abbrev pub IsUnsyncedIn : (unsynced : List Bool) (first end : ℕ) → FolderFault → Type 0
IsUnsyncedIn unsynced first end (NoFile slot) = ((first ≤ slot) × ((slot < end) × (slot < 10))) × (flag_in unsynced slot ≡ true)
IsUnsyncedIn unsynced first end fault = ⊥

-- why the length of the file of this very slot could not be told: there is none, or a call of it failed
abbrev pub IsNoLength : {F : Type 0} → (HasFailed : F → Type 0) → (slot : ℕ) → Option F → FolderFault → Type 0
IsNoLength HasFailed slot file (Absent other) = (other ≡ slot) × (file ≡ None)
IsNoLength HasFailed slot file (NoFile other) = (other ≡ slot) × IsSomeAnd file HasFailed
IsNoLength HasFailed slot file fault = ⊥

-- Why the lengths of the files of the first slots could not be told: there is no file of this slot, or a call of it failed. Each lower slot has one.
abbrev pub IsLengthFault : {F : Type 0} → (HasFailed : F → Type 0) → List (Option F) → (slots : ℕ) → FolderFault → Type 0
IsLengthFault HasFailed files slots (Absent slot) = (slot < slots) × (file_in files slot ≡ None) × ((lower : ℕ) → lower < slot → IsSome (file_in files lower))
IsLengthFault HasFailed files slots (NoFile slot) =
    (slot < slots) × IsSomeAnd (file_in files slot) HasFailed × ((lower : ℕ) → lower < slot → IsSome (file_in files lower))
IsLengthFault HasFailed files slots fault = ⊥

-- the file of one of ten slots, from one on, is named, of which a call failed
abbrev pub IsClearingFault : {F : Type 0} → (HasFailed : F → Type 0) → (first : ℕ) → List (Option F) → FolderFault → Type 0
IsClearingFault HasFailed first files (NoFile slot) = (first ≤ slot) × (slot < 10) × IsSomeAnd (file_in files slot) HasFailed
IsClearingFault HasFailed first files fault = ⊥

-- why an open file was not taken
abbrev pub IsUnclaimed : (Busy Other : Type 0) → OpenFault → Type 0
IsUnclaimed Busy Other OpenFault.Busy = Busy
IsUnclaimed Busy Other OpenFault.NotRegular = Other
IsUnclaimed Busy Other (OpenFault.Barred reason) = ⊥

-- the file of the slot that is named was not created, as that of its path came to, or memory ran out
abbrev pub IsFailedCreating : {Made : Type 0} → (Creates : (slot : ℕ) → Result Made CreateFault → Type 0) → FolderFault → Type 0
IsFailedCreating Creates (InUse slot) = Creates slot (Err CreateFault.Busy)
IsFailedCreating Creates (NoFile slot) = Creates slot (Err CreateFault.Failed)
IsFailedCreating Creates (Refused refusal) = refusal ≡ Memory
IsFailedCreating Creates fault = ⊥

-- the file of a slot is named as not made only where creating it failed, or this holds of it
abbrev pub IsUnmadeFile : {Made : Type 0} → (Creates : (slot : ℕ) → Result Made CreateFault → Type 0) (Failed : (slot : ℕ) → Type 0) → FolderFault → Type 0
IsUnmadeFile Creates Failed (NoFile slot) = Creates slot (Err CreateFault.Failed) ⊎ Failed slot
IsUnmadeFile Creates Failed fault = Unit {0}

-- the file of this very slot could not be made, or memory ran out
abbrev pub IsFileFaultOf : ℕ → FolderFault → Type 0
IsFileFaultOf slot (NoFile other) = other ≡ slot
IsFileFaultOf slot (InUse other) = other ≡ slot
IsFileFaultOf slot (Refused refusal) = refusal ≡ Memory
IsFileFaultOf slot fault = ⊥

-- a folder could not be synced, or memory ran out
abbrev pub IsSyncFault : FolderFault → Type 0
IsSyncFault NotSynced = Unit {0}
IsSyncFault (Refused refusal) = refusal ≡ Memory
IsSyncFault fault = ⊥
