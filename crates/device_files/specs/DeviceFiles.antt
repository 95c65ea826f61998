-- What the device files of a folder hold, what is noted of them, and what of them is safe.
use Rattle.std.specs.Prelude.{◌≡◌, ◌≢◌, ◌⊎◌, ℕ, ◌-◌, ◌<◌, ◌≤◌, Bool, false, true, IsSomeAnd, IsTrue, List, [], ◌++◌, codes, decimal, length}
use Rattle.std.specs.Prelude.{if◌then◌else◌, replicate, slice_index_or, take, Option, Some, None, Result, Ok, Err}
use Rattle.std.specs.declared.io.Error.{Error}
use Rattle.sector_model.specs.declared.refusal.Refusal.{Refusal}
use Rattle.sector_model.specs.History.{History}
use Rattle.superblock.specs.declared.state.State.TheVariants.{Missing}
use Rattle.superblock.specs.declared.table.Table.{Table}
use Rattle.superblock.specs.NextTables.{slots_of}
use Rattle.superblock.specs.Tables.{state_at}
use Rattle.recovery.specs.Making.{BankView, FindsTable}
use Rattle.device_files.specs.declared.Reason.{Reason}
use Rattle.device_files.specs.declared.slot_files.OpenFault.{OpenFault}
use Rattle.device_files.specs.declared.locked.Before.{Before}
use Rattle.device_files.specs.declared.locked.Before.TheVariants.{Absent, Same, Shorter}

-- these bytes, and after them zeros up to so many bytes
abbrev pub lengthened : ℕ → List ℕ → List ℕ
lengthened bytes old = old ++ replicate (bytes - length old) 0

-- what a file held stands at its beginning
abbrev pub Begins : (old new : List ℕ) → Type 0
Begins old new = take (length old) new ≡ old

-- a file is so long, or it is made anew
abbrev pub IsRenewedTo : ℕ → (old new : List ℕ) → Type 0
IsRenewedTo bytes old new = (bytes ≤ length old → new ≡ old) × (length old < bytes → new ≡ replicate bytes 0)

-- there is a file, of which this holds as it was and as it is
abbrev pub HasFile : {F : Type 0} → (old new : Option F) → (F → F → Type 0) → Type 0
HasFile (Some old) (Some new) Holds = Holds old new
HasFile old new Holds = ⊥

-- the same, or there is none and was none
abbrev pub StaysThere : {F : Type 0} → (old new : Option F) → (F → F → Type 0) → Type 0
StaysThere None None Holds = Unit {0}
StaysThere old new Holds = HasFile old new Holds

-- the file of a slot, where there is one
abbrev pub file_in : {F : Type 0} → List (Option F) → ℕ → Option F
file_in files slot = slice_index_or files slot None

-- there is a file, of which this is so
abbrev pub has_file : {F : Type 0} → (is : F → Bool) → Option F → Bool
has_file is None = false
has_file is (Some file) = is file

-- the file that something of a slot has, where there is one of which this is so
abbrev pub file_where : {L F : Type 0} → (is : L → Bool) (file : L → F) → Option L → Option F
file_where is file None = None
file_where is file (Some locked) = if is locked then Some (file locked) else None

-- a file was created, whatever it was before
abbrev pub IsCreated : {F Fault : Type 0} → (Creates : Result (F × Before) Fault → Type 0) → F → Type 0
IsCreated Creates file = (before : Before) × Creates (Ok (file, before))

-- there is a file: the one that was there, or one that was made where there was none
abbrev pub IsThere : {F : Type 0} → (Made : F → Type 0) → (old new : Option F) → Type 0
IsThere Made (Some old) new = new ≡ Some old
IsThere Made None (Some new) = Made new
IsThere Made None None = ⊥

-- there is a file, and this holds of it as it was, or as it was made where there was none, and as it is
abbrev pub HasMade : {F : Type 0} → (Made : F → Type 0) → (old new : Option F) → (F → F → Type 0) → Type 0
HasMade Made (Some old) (Some new) Holds = Holds old new
HasMade Made None (Some new) Holds = (made : _) × Made made × Holds made new
HasMade Made old None Holds = ⊥

-- the same, or there is none and was none
abbrev pub StaysOrMade : {F : Type 0} → (Made : F → Type 0) → (old new : Option F) → (F → F → Type 0) → Type 0
StaysOrMade Made None None Holds = Unit {0}
StaysOrMade Made old new Holds = HasMade Made old new Holds

-- each file but that of this slot is as it was
abbrev pub AreOthersKept : {F : Type 0} → (old new : List (Option F)) → ℕ → Type 0
AreOthersKept old new slot = (other : ℕ) → other ≢ slot → file_in new other ≡ file_in old other

-- What is noted of a file that is to get so many bytes, by what was noted of it: how long it is, where that was nothing and it is shorter.
abbrev pub IsNoted : {F : Type 0} → (told : F → List ℕ) → Before → ℕ → Option F → Before → Type 0
IsNoted told Same bytes (Some file) after =
    (length (told file) < bytes → after ≡ Shorter (length (told file))) × (bytes ≤ length (told file) → after ≡ Same)
IsNoted told before bytes file after = after ≡ before

-- what is noted of the file of a slot
abbrev pub before_in : List Before → ℕ → Before
before_in notes slot = slice_index_or notes slot Same

-- That is noted of the file of a slot: of the one that was there by what was noted of it, and of one that was created by what it was before.
abbrev pub IsNotedOf : {F Fault : Type 0} → (told : F → List ℕ) (Creates : Result (F × Before) Fault → Type 0) → ℕ
    → (was : Before) (old new : Option F) (is : Before) → Type 0
IsNotedOf told Creates bytes was (Some old) new is = IsNoted told was bytes (Some old) is
IsNotedOf told Creates bytes was None (Some new) is = (made : _) × (before : Before) × Creates (Ok (made, before)) × IsNoted told before bytes (Some made) is
IsNotedOf told Creates bytes was None None is = is ≡ was

-- what is noted of each file but that of this slot is as it was
abbrev pub AreOtherNotesKept : (old new : List Before) → ℕ → Type 0
AreOtherNotesKept old new slot = (other : ℕ) → other ≢ slot → before_in new other ≡ before_in old other

-- a file of which that was noted has the bytes that it had
abbrev pub IsCutBack : {F : Type 0} → (told : F → List ℕ) → Before → (old new : Option F) → Type 0
IsCutBack told (Shorter bytes) (Some old) new = IsSomeAnd new (λ file. told file ≡ take bytes (told old))
IsCutBack told before old new = new ≡ old

-- what was noted of a file is taken back: one that was created was removed, and is closed; one that got longer has the bytes that it had, any other is as it
-- was
abbrev pub IsTakenBack : {F : Type 0} → (told : F → List ℕ) (Removed : Type 0) → Before → (old new : Option F) → Type 0
IsTakenBack told Removed Absent old new = Removed × (new ≡ None)
IsTakenBack told Removed note old new = IsCutBack told note old new

-- a file of which that was noted was cut to the bytes that it had, or that call failed
abbrev pub IsCutOrFailed : {F : Type 0} → (tells : Bool) (told : F → List ℕ) (HasFailed : F → Type 0) → Before → (old new : Option F) → Type 0
IsCutOrFailed tells told HasFailed (Shorter bytes) (Some old) new = IsSomeAnd new (λ file. (IsTrue tells → told file ≡ take bytes (told old)) ⊎ HasFailed file)
IsCutOrFailed tells told HasFailed before old new = new ≡ old

-- what was noted of a file is taken back, or the call failed that was to do so; one that was created is closed at any rate
abbrev pub IsTakenBackOrFailed : {F : Type 0} → (tells : Bool) (told : F → List ℕ) (HasFailed : F → Type 0) (Removes : Result (Unit {0}) Error → Type 0)
    → Before → (old new : Option F) → Type 0
IsTakenBackOrFailed tells told HasFailed Removes Absent old new = ((result : Result (Unit {0}) Error) × Removes result) × (new ≡ None)
IsTakenBackOrFailed tells told HasFailed Removes note old new = IsCutOrFailed tells told HasFailed note old new

-- the path of a slot among those of ten
abbrev pub path_in : List (List ℕ) → ℕ → List ℕ
path_in paths slot = slice_index_or paths slot []

-- the file of one of the first slots has so many bytes, and none of the others has fewer
pub record IsShortest {F : Type 0} (told : F → List ℕ) (files : List (Option F)) (slots least : ℕ) : Type 0 where
  pub slot : ℕ
  pub among : slot < slots
  pub here : IsSomeAnd (file_in files slot) (λ file. length (told file) ≡ least)
  pub each : (other : ℕ) → other < slots → IsSomeAnd (file_in files other) (λ file. least ≤ length (told file))

-- ---- what is made safe where files are opened

-- why the file of a slot, which is there, could not be opened
abbrev pub barred_in : List (Option Reason) → ℕ → Option Reason
barred_in barred slot = slice_index_or barred slot None

-- a file is what opening its path came to; or it could not be opened for this reason, and there is none
abbrev pub IsOpenedAs : {F : Type 0} → (Opens : Result (Option F) OpenFault → Type 0) → Option F → Option Reason → Type 0
IsOpenedAs Opens file None = Opens (Ok file)
IsOpenedAs Opens file (Some reason) = (file ≡ None) × Opens (Err (OpenFault.Barred reason))

-- whether this is marked of a slot
abbrev pub flag_in : List Bool → ℕ → Bool
flag_in flags slot = slice_index_or flags slot false

-- the marks of each slot but this one are as they were
abbrev pub AreOtherFlagsKept : (old new : List Bool) → ℕ → Type 0
AreOtherFlagsKept old new slot = (other : ℕ) → other ≢ slot → flag_in new other ≡ flag_in old other

-- there is no file and was none, or there is one and was, and this holds of it as it was and as it is
abbrev pub IsStillOpen : {F : Type 0} → (old new : Option F) → (F → F → Type 0) → Type 0
IsStillOpen None new Holds = new ≡ None
IsStillOpen (Some old) (Some new) Holds = Holds old new
IsStillOpen (Some old) None Holds = ⊥

-- of a file that was opened so this holds now, and nothing of it was changed since
abbrev pub IsSince : {F : Type 0} → (tells : Bool) (told : F → List ℕ) (Holds : F → Type 0) → F → Type 0
IsSince tells told Holds opened = (file : _) × Holds file × (IsTrue tells → told file ≡ told opened)

-- a file is still open and holds what it did, or it was closed
abbrev pub IsKeptOrClosed : {F : Type 0} → (tells : Bool) (told : F → List ℕ) → (old new : Option F) → Type 0
IsKeptOrClosed tells told old None = Unit {0}
IsKeptOrClosed tells told None (Some new) = ⊥
IsKeptOrClosed tells told (Some old) (Some new) = IsTrue tells → told new ≡ told old

-- the file of a slot, if there is one, is what opening its path came to
abbrev pub IsReopened : {F : Type 0} → (tells : Bool) (told : F → List ℕ) (Opens : Result (Option F) OpenFault → Type 0) → Option F → Type 0
IsReopened tells told Opens None = Unit {0}
IsReopened tells told Opens (Some file) = (opened : _) × Opens (Ok (Some opened)) × (IsTrue tells → told file ≡ told opened)

-- A file that was opened was made safe as it stands, or its sync failed: then there is none, and its slot is marked.
abbrev pub IsMadeSafe : {F : Type 0} → (tells : Bool) (told : F → List ℕ) (IsSafe HasFailed : F → Type 0) → (old new : Option F) (unsynced : Bool) → Type 0
IsMadeSafe tells told IsSafe HasFailed None new unsynced = (new ≡ None) × (unsynced ≡ false)
IsMadeSafe tells told IsSafe HasFailed (Some old) (Some new) unsynced = (IsSafe new × (IsTrue tells → told new ≡ told old)) × (unsynced ≡ false)
IsMadeSafe tells told IsSafe HasFailed (Some old) None unsynced = IsSince tells told HasFailed old × (unsynced ≡ true)

-- so was that of each of ten slots
abbrev pub AreMadeSafe : {F : Type 0} → (tells : Bool) (told : F → List ℕ) (IsSafe HasFailed : F → Type 0) → (old new : List (Option F)) (unsynced : List Bool)
    → Type 0
AreMadeSafe tells told IsSafe HasFailed old new unsynced =
    (slot : ℕ) → slot < 10 → IsMadeSafe tells told IsSafe HasFailed (file_in old slot) (file_in new slot) (flag_in unsynced slot)

-- The files of ten slots were opened, and each made safe: no file that is there holds what a power cut would take back.
pub record WereMadeSafe {F : Type 0} (tells : Bool) (told : F → List ℕ) (IsSafe HasFailed : F → Type 0)
    (Opens : (slot : ℕ) → Result (Option F) OpenFault → Type 0) (files : List (Option F)) (unsynced : List Bool) (barred : List (Option Reason)) : Type 0 where
  pub opened : List (Option F)
  pub opens : (slot : ℕ) → slot < 10 → IsOpenedAs (Opens slot) (file_in opened slot) (barred_in barred slot)
  pub made_safe : AreMadeSafe tells told IsSafe HasFailed opened files unsynced

-- the path of the file of a slot
abbrev pub slot_path : (folder : List ℕ) (slot : ℕ) → List ℕ
slot_path folder slot = folder ++ codes "/dev" ++ decimal slot ++ codes ".img"

-- a path is no link, or the folder in which it makes its file was synced
abbrev pub IsLinkSynced : (IsNoLink : List ℕ → Type 0) (LeadsTo : (path folder : List ℕ) → Type 0) (IsSynced : List ℕ → Type 0) → (path : List ℕ) → Type 0
IsLinkSynced IsNoLink LeadsTo IsSynced path = IsNoLink path ⊎ ((folder : List ℕ) × LeadsTo path folder × IsSynced folder)

-- on a bank that is honest where this holds, and whose run began so, superblocks choose this table of the set of an id, or there is none
abbrev pub IsTableIn : (honest : Type 0) (Begins : History → Type 0) (id : List ℕ) → Option Table → Type 0
IsTableIn honest Begins id table = (old : BankView) × (new : BankView) × Begins old.history × FindsTable honest id old new (Ok table)

-- what was sought so was refused for this
abbrev pub IsNoTableIn : (honest : Type 0) (Begins : History → Type 0) (id : List ℕ) → Refusal → Type 0
IsNoTableIn honest Begins id refusal = (old : BankView) × (new : BankView) × Begins old.history × FindsTable honest id old new (Err refusal)

-- there is a table, of which this is a slot that it calls missing
abbrev pub IsMissingBy : Option Table → ℕ → Type 0
IsMissingBy None slot = ⊥
IsMissingBy (Some table) slot = (slot < slots_of table) × (state_at table.states slot ≡ Missing)

-- a table that was found so calls a slot missing
abbrev pub IsMissingIn : (honest : Type 0) (Begins : History → Type 0) (id : List ℕ) → ℕ → Type 0
IsMissingIn honest Begins id slot = (table : Option Table) × IsTableIn honest Begins id table × IsMissingBy table slot
