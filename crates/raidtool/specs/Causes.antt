-- Why a line was refused: on some bank over files that are safe, which is honest where they tell what they hold, and begins with that.
use Rattle.std.specs.Prelude.{◌≡◌, ◌⊎◌, ℕ, Bool, IsTrue, List, [], Option, Result}
use Rattle.sector_model.specs.declared.refusal.Refusal.{Refusal}
use Rattle.sector_model.specs.declared.refusal.Refusal.TheVariants.{BadGeometry, Memory, ReadFault, WriteFault}
use Rattle.layout_map.specs.declared.format.Format.TheVariants.{One}
use Rattle.layout_map.specs.declared.geometry.Geometry.{Geometry}
use Rattle.layout_map.specs.Placement.{IsGeometry}
use Rattle.recovery.specs.Making.{BankView}
use Rattle.volume_table.specs.VolumeStep.{OnSet, OnVolumes}
use Rattle.volume_table.specs.VolumeStep.{Fail as FailSlot, Replace as ReplaceDevice, Scrub as ScrubSet, Upgrade as UpgradeTable}
use Rattle.command_line.specs.declared.Invocation.{Invocation}
use Rattle.command_line.specs.declared.Invocation.TheVariants.{Change, Examine, Fail, Make, MakeSized, Rebuild, Replace, Run, Scrub, Serve, Status, Upgrade}
use Rattle.command_line.specs.declared.Size.{Size}
use Rattle.device_files.specs.declared.growing.Growing.{Ghosts}
use Rattle.device_files.specs.declared.FolderFault.{FolderFault}
use Rattle.device_files.specs.declared.FolderFault.TheVariants.{Refused}
use Rattle.device_files.specs.declared.slot_files.OpenFault.{OpenFault}
use Rattle.device_files.specs.DeviceFiles.{IsNoTableIn, slot_path}
use Rattle.raidtool.specs.Begun.{BeginsInspected, BeginsOpened, BeginsSafely, IsNoTableOver}
use Rattle.raidtool.specs.Done.{HasSizes, command_for}
use Rattle.raidtool.specs.FolderFiles.{HoldsOfTaken}
use Rattle.raidtool.specs.ServedRuns.{IsCauseOfServing}
use Rattle.raidtool.specs.Sized.{IsShapeless, IsSizedFor, IsTooShort}
use Rattle.raidtool.specs.OtherSets.{IsRefusedMake}
use Rattle.set_commands.specs.Examining.{RefusesInspecting}
use Rattle.set_commands.specs.Run.{StoppedByStore, Streams}
use Rattle.set_commands.specs.Serving.{IsNotOpened, RefusesOn, ServesOn, StopsRebuildingOn}

-- the folder of a line
abbrev pub folder_text : Invocation → List ℕ
folder_text (Run folder id) = folder.now
folder_text (Serve folder id) = folder.now
folder_text (Make folder id members chunk stripes) = folder.now
folder_text (Status folder id json check) = folder.now
folder_text (Fail folder id slot) = folder.now
folder_text (Replace folder id slot) = folder.now
folder_text (Rebuild folder id steps) = folder.now
folder_text (Scrub folder id) = folder.now
folder_text (Upgrade folder id) = folder.now
folder_text (Examine folder id json check) = folder.now
folder_text (MakeSized folder id members chunk size over reserve) = folder.now
folder_text (Change folder id change) = folder.now

-- the id of the set of a line; of one that may look at each set, none
abbrev pub id_text : Invocation → List ℕ
id_text (Run folder id) = id
id_text (Serve folder id) = id
id_text (Make folder id members chunk stripes) = id
id_text (Status folder id json check) = id
id_text (Fail folder id slot) = id
id_text (Replace folder id slot) = id
id_text (Rebuild folder id steps) = id
id_text (Scrub folder id) = id
id_text (Upgrade folder id) = id
id_text (Examine folder id json check) = []
id_text (MakeSized folder id members chunk size over reserve) = id
id_text (Change folder id change) = id

-- memory ran out, or a reader or a writer failed: that is cause enough
abbrev pub IsPlainEnd : Refusal → Type 0
IsPlainEnd Memory = Unit {0}
IsPlainEnd ReadFault = Unit {0}
IsPlainEnd WriteFault = Unit {0}
IsPlainEnd refusal = ⊥

-- what stops a command, where it is a refusal and no such end, has this cause
abbrev pub IsCausedBy : (Cause : Refusal → Type 0) → FolderFault → Type 0
IsCausedBy Cause fault = (refusal : Refusal) → fault ≡ Refused refusal → ¬ IsPlainEnd refusal → Cause refusal

-- why a slot was not given a device on a bank: the set was not assembled or not opened, or that was refused
abbrev pub RefusesReplace : (honest : Type 0) (id : List ℕ) (slot : ℕ) (bank : BankView) → Refusal → Type 0
RefusesReplace honest id slot bank refusal = IsNotOpened honest id bank refusal ⊎ RefusesOn honest id (OnSet (ReplaceDevice slot)) bank refusal

-- why what a line asks for was refused on a bank: the set was not assembled or not opened, not made, or not found; or the command on it was refused
abbrev pub IsCauseOn : Invocation → (honest : Type 0) (bank : BankView) → Refusal → Type 0
IsCauseOn (Run folder id) honest bank refusal = IsNotOpened honest id bank refusal
    ⊎ ((was : Streams) × (is : Streams) × ServesOn honest id bank (λ first last. StoppedByStore honest refusal first last was is))
IsCauseOn (Serve folder id) honest bank refusal = ⊥
IsCauseOn (Make folder id members chunk stripes) honest bank refusal = ⊥
IsCauseOn (MakeSized folder id members chunk size over reserve) honest bank refusal = ⊥
IsCauseOn (Status folder id json check) honest bank refusal = IsNotOpened honest id bank refusal
IsCauseOn (Fail folder id slot) honest bank refusal = IsNotOpened honest id bank refusal ⊎ RefusesOn honest id (OnSet (FailSlot slot)) bank refusal
IsCauseOn (Replace folder id slot) honest bank refusal = RefusesReplace honest id slot bank refusal
IsCauseOn (Rebuild folder id steps) honest bank refusal = IsNotOpened honest id bank refusal ⊎ StopsRebuildingOn honest id steps bank refusal
IsCauseOn (Scrub folder id) honest bank refusal = IsNotOpened honest id bank refusal ⊎ RefusesOn honest id (OnSet ScrubSet) bank refusal
IsCauseOn (Upgrade folder id) honest bank refusal = IsNotOpened honest id bank refusal ⊎ RefusesOn honest id (OnVolumes UpgradeTable) bank refusal
IsCauseOn (Examine folder id json check) honest bank refusal = RefusesInspecting honest id json bank refusal
IsCauseOn (Change folder id change) honest bank refusal =
    IsNotOpened honest id bank refusal ⊎ RefusesOn honest id (OnVolumes (command_for change)) bank refusal

-- why no set of these sizes was made over the files of a folder: no set has them; or one that has could not be made on some bank of ten such files
abbrev pub IsCauseOfMake : {F : Type 0} → (growing : Ghosts F) (left : F → List ℕ) (id : List ℕ) (members chunk stripes : ℕ) → Refusal → Type 0
IsCauseOfMake growing left id members chunk stripes BadGeometry = ¬ IsGeometry One members chunk stripes
IsCauseOfMake growing left id members chunk stripes refusal = (geometry : Geometry) × HasSizes members chunk stripes geometry
    × IsRefusedMake (IsTrue growing.tells) (BeginsSafely growing left) id geometry refusal

-- why no set of this room was made over the files of a folder, as they were opened: no set of these members and chunks has it, or lies on the shortest of
-- their files; or the one that has could not be made on some bank of ten such files
abbrev pub IsCauseOfSized : {F : Type 0} → (growing : Ghosts F) (left : F → List ℕ) (Opens : (slot : ℕ) → Result (Option F) OpenFault → Type 0)
    (id : List ℕ) (members chunk : ℕ) (size : Size) → Refusal → Type 0
IsCauseOfSized growing left Opens id members chunk size BadGeometry =
    IsShapeless members chunk size ⊎ HoldsOfTaken growing Opens (IsTooShort growing.tells growing.told members chunk size)
IsCauseOfSized growing left Opens id members chunk size refusal = (geometry : Geometry)
    × HoldsOfTaken growing Opens (λ files. IsSizedFor growing.tells growing.told members chunk size files geometry)
    × IsRefusedMake (IsTrue growing.tells) (BeginsSafely growing left) id geometry refusal

-- a slot was not given a device on some bank of such files
abbrev pub IsReplaceRefused : {F : Type 0} → (growing : Ghosts F) (left : F → List ℕ) (id : List ℕ) (slot : ℕ) → Refusal → Type 0
IsReplaceRefused growing left id slot refusal =
    (bank : BankView) × BeginsSafely growing left bank.history × RefusesReplace (IsTrue growing.tells) id slot bank refusal

-- why a slot was not given a device over such files: on some bank of them, or in seeking the table of its set, for whether its file is made anew, or whether
-- a slot is missing whose file can't be opened
abbrev pub IsCauseOfReplace : {F : Type 0} → (growing : Ghosts F) (left : F → List ℕ) (id : List ℕ) (slot : ℕ) → Refusal → Type 0
IsCauseOfReplace growing left id slot refusal = IsReplaceRefused growing left id slot refusal ⊎ IsNoTableOver growing left id refusal

-- why no set was told of: on a bank over the files of a folder, as they were opened for reading alone
abbrev pub IsCauseOfExamine : {L : Type 0} → (reading : Ghosts L) (left_read : L → List ℕ) (Inspects : (path : List ℕ) → Result (Option L) OpenFault → Type 0)
    → (folder : List ℕ) (id : Option (List ℕ)) (json : Bool) → Refusal → Type 0
IsCauseOfExamine reading left_read Inspects folder id json refusal =
    (bank : BankView) × BeginsInspected reading left_read (λ slot. Inspects (slot_path folder slot)) bank.history
    × RefusesInspecting (IsTrue reading.tells) id json bank refusal

-- what a line asks for, which makes no file, was refused on a bank over the files of its folder, as they were opened; or in seeking the table of its set on
-- these, for whether a slot is missing whose file can't be opened
abbrev pub IsCauseOver : {F : Type 0} → (growing : Ghosts F) (left : F → List ℕ) (Opens : (path : List ℕ) → Result (Option F) OpenFault → Type 0)
    → Invocation → Refusal → Type 0
IsCauseOver growing left Opens line refusal =
    ((bank : BankView) × BeginsOpened growing left (λ slot. Opens (slot_path (folder_text line) slot)) bank.history
    × IsCauseOn line (IsTrue growing.tells) bank refusal)
    ⊎ IsNoTableIn (IsTrue growing.tells) (BeginsOpened growing left (λ slot. Opens (slot_path (folder_text line) slot))) (id_text line) refusal

-- why a line was refused
abbrev pub HasCause : {F L : Type 0} → (growing : Ghosts F) (left : F → List ℕ) (reading : Ghosts L) (left_read : L → List ℕ)
    (Opens : (path : List ℕ) → Result (Option F) OpenFault → Type 0) (Inspects : (path : List ℕ) → Result (Option L) OpenFault → Type 0)
    → Invocation → Refusal → Type 0
HasCause growing left reading left_read Opens Inspects (Make folder id members chunk stripes) refusal =
    IsCauseOfMake growing left id members chunk stripes refusal
HasCause growing left reading left_read Opens Inspects (MakeSized folder id members chunk size over reserve) refusal =
    IsCauseOfSized growing left (λ slot. Opens (slot_path folder.now slot)) id members chunk size refusal
HasCause growing left reading left_read Opens Inspects (Replace folder id slot) refusal = IsCauseOfReplace growing left id slot refusal
HasCause growing left reading left_read Opens Inspects (Examine folder id json check) refusal =
    IsCauseOfExamine reading left_read Inspects folder.now id json refusal
HasCause growing left reading left_read Opens Inspects (Serve folder id) refusal =
    IsCauseOfServing growing left (λ slot. Opens (slot_path folder.now slot)) id refusal
HasCause growing left reading left_read Opens Inspects line refusal = IsCauseOver growing left Opens line refusal

-- a refusal has its cause, unless memory, a reader or a writer is cause enough
abbrev pub IsCaused : {F L : Type 0} → (growing : Ghosts F) (left : F → List ℕ) (reading : Ghosts L) (left_read : L → List ℕ)
    (Opens : (path : List ℕ) → Result (Option F) OpenFault → Type 0) (Inspects : (path : List ℕ) → Result (Option L) OpenFault → Type 0)
    → Invocation → Refusal → Type 0
IsCaused growing left reading left_read Opens Inspects line refusal =
    ¬ IsPlainEnd refusal → HasCause growing left reading left_read Opens Inspects line refusal
