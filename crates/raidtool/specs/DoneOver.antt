-- What was done over the device files of a folder, where a line ended well: on a bank that is honest where they tell what they hold, and whose run begins with
-- that.
use Rattle.std.specs.Prelude.{◌≡◌, ◌≢◌, ◌⊎◌, ◌<◌, ◌+◌, ℕ, Bool, true, false, IsTrue, List, Option, Some, None, Result, Ok}
use Rattle.std.specs.Io.KnownBytes.{Appends}
use Rattle.layout_map.specs.declared.geometry.Geometry.{Geometry}
use Rattle.recovery.specs.Making.{BankView}
use Rattle.volume_table.specs.VolumeStep.{Done}
use Rattle.report.specs.Replies.{reply_text}
use Rattle.command_line.specs.declared.Invocation.{Invocation}
use Rattle.command_line.specs.declared.Invocation.TheVariants.{Examine, Make, MakeSized, Replace, Serve, Status}
use Rattle.device_files.specs.declared.growing.Growing.{Ghosts}
use Rattle.device_files.specs.declared.locked.Before.{Before}
use Rattle.device_files.specs.declared.slot_files.CreateFault.{CreateFault}
use Rattle.device_files.specs.declared.slot_files.OpenFault.{OpenFault}
use Rattle.device_files.specs.DeviceFiles.{file_in, slot_path}
use Rattle.device_files.specs.SlotCalls.{ClearsPlaces, RenewsSlot}
use Rattle.device_files.specs.Superblocks.{FindsSet}
use Rattle.set_commands.specs.Examining.{ExaminesOn}
use Rattle.set_commands.specs.Healths.{HealthOn, InspectsHealth}
use Rattle.set_commands.specs.Run.{Streams}
use Rattle.set_commands.specs.Serving.{ReplacesOn}
use Rattle.set_commands.specs.declared.serving.health.Health.{Health}
use Rattle.raidtool.specs.Begun.{BeginsOver, IsMissingOver}
use Rattle.raidtool.specs.Causes.{folder_text, id_text}
use Rattle.raidtool.specs.Done.{DoesOn, HasSizes, IsNeedIn}
use Rattle.raidtool.specs.FolderFiles.{MakesFiles, WereTaken}
use Rattle.raidtool.specs.OtherSets.{IsMadeAlone}
use Rattle.raidtool.specs.ServedRuns.{ServesFolder}
use Rattle.raidtool.specs.Sized.{IsSizedFor, sized_text}
use Rattle.raidtool.specs.Texts.{made_text}
use Rattle.command_line.specs.declared.Size.{Size}

-- so well is the set of a line on a bank; of other lines it is what was
abbrev pub HealthOf : Invocation → (honest : Type 0) (bank : BankView) (was is : Health) → Type 0
HealthOf (Status folder id json check) honest bank was is = HealthOn honest id bank is
HealthOf (Examine folder id json check) honest bank was is = InspectsHealth honest id bank was is
HealthOf line honest bank was is = is ≡ was

-- A type of files is told by what its files tell, and by what a power cut leaves of one.

-- what a line asks for was done on a bank whose run began with these files, and so well is the set
pub record DoesOver {F : Type 0} (growing : Ghosts F) (left : F → List ℕ) (files : List (Option F)) (line : Invocation) (was is : Streams)
    (before after : Health) : Type 0 where
  pub bank : BankView
  pub begins : BeginsOver growing left files bank.history
  pub does : DoesOn line (IsTrue growing.tells) bank was is
  pub health : HealthOf line (IsTrue growing.tells) bank before after

-- The files of a line's folder were opened, each that is there is safe, and tells what it did then, and over these very files what the line asks for, which
-- makes no file, was done. One that is there and could not be opened was passed over only where the set, by the table on these files, calls its slot missing.
pub record IsServedOver {F : Type 0} (growing : Ghosts F) (left : F → List ℕ) (Opens : (path : List ℕ) → Result (Option F) OpenFault → Type 0)
    (line : Invocation) (was is : Streams) (before after : Health) : Type 0 where
  pub taken : WereTaken growing (λ slot. Opens (slot_path (folder_text line) slot)) (λ _. ⊥)
      (IsMissingOver growing left (id_text line))
  pub over : DoesOver growing left taken.files line was is before after

-- a slot of the set of an id was given a device on a bank whose run began with these files
pub record IsReplacedOn {F : Type 0} (growing : Ghosts F) (left : F → List ℕ) (files : List (Option F)) (id : List ℕ) (slot : ℕ) : Type 0 where
  pub bank : BankView
  pub begins : BeginsOver growing left files bank.history
  pub replaced : ReplacesOn (IsTrue growing.tells) id slot bank (Ok tt)

-- each of these files that is a set's was made long enough, and then the set was made over them, where no slot after its own has another one of its id
pub record IsMadeOver {F : Type 0} (growing : Ghosts F) (left : F → List ℕ) (Creates : (path : List ℕ) → Result (F × Before) CreateFault → Type 0)
    (folder : List ℕ) (id : List ℕ) (geometry : Geometry) (was : List (Option F)) : Type 0 where
  pub files : List (Option F)
  pub notes_were : List Before
  pub notes_are : List Before
  pub made : MakesFiles growing.tells growing.told growing.is_safe growing.has_failed Creates folder geometry was files notes_were notes_are (Ok tt)
  pub alone : IsMadeAlone (IsTrue growing.tells) (BeginsOver growing left files) id geometry

-- the file of a slot has no need by the superblocks on these files, which are left as they are; or it was made anew for its need
abbrev pub IsPrepared : {F : Type 0} → (growing : Ghosts F) (left : F → List ℕ) (Creates : (path : List ℕ) → Result (F × Before) CreateFault → Type 0)
    → (folder : List ℕ) (id : List ℕ) (slot : ℕ) (was is : List (Option F)) → Type 0
IsPrepared growing left Creates folder id slot was is = (IsNeedIn (IsTrue growing.tells) (BeginsOver growing left was) id slot None × (is ≡ was))
    ⊎ ((bytes : ℕ) × IsNeedIn (IsTrue growing.tells) (BeginsOver growing left was) id slot (Some bytes)
    × RenewsSlot growing.tells growing.told growing.is_safe growing.has_failed Creates folder slot bytes was is (Ok tt))

-- after that the slot was given a device over them
pub record IsReplacedOver {F : Type 0} (growing : Ghosts F) (left : F → List ℕ) (Creates : (path : List ℕ) → Result (F × Before) CreateFault → Type 0)
    (folder : List ℕ) (id : List ℕ) (slot : ℕ) (was : List (Option F)) : Type 0 where
  pub files : List (Option F)
  pub prepared : IsPrepared growing left Creates folder id slot was files
  pub replaced : IsReplacedOn growing left files id slot

-- The files of the folder were opened, each that was used is safe, none of the set's was given up for its sync, and the set was made over them.
pub record IsMadeIn {F : Type 0} (growing : Ghosts F) (left : F → List ℕ) (Creates : (path : List ℕ) → Result (F × Before) CreateFault → Type 0)
    (folder : List ℕ) (Opens : (path : List ℕ) → Result (Option F) OpenFault → Type 0) (id : List ℕ) (geometry : Geometry) : Type 0 where
  pub taken : WereTaken growing (λ slot. Opens (slot_path folder slot)) (λ slot. slot < geometry.members + 2) (λ _ _. ⊥)
  pub over : IsMadeOver growing left Creates folder id geometry taken.files

-- The files of the folder were opened, each that was used is safe, and none was given up for its sync; a set of the room that was asked for, by their lengths
-- where it was all that there is, was made over them, where none of them had a superblock of any set, or where those after the set's were cleared before.
pub record IsMadeSizedIn {F : Type 0} (growing : Ghosts F) (left : F → List ℕ) (Creates : (path : List ℕ) → Result (F × Before) CreateFault → Type 0)
    (folder : List ℕ) (Opens : (path : List ℕ) → Result (Option F) OpenFault → Type 0) (id : List ℕ) (members chunk : ℕ) (size : Size) (over : Bool)
    (geometry : Geometry) : Type 0 where
  pub taken : WereTaken growing (λ slot. Opens (slot_path folder slot)) (λ slot. slot < 10) (λ _ _. ⊥)
  pub sized : IsSizedFor growing.tells growing.told members chunk size taken.files geometry
  pub files : List (Option F)
  pub alone : over ≡ false → (files ≡ taken.files) × FindsSet growing.tells growing.told growing.has_failed taken.files None
  pub cleared : over ≡ true → ClearsPlaces growing.tells growing.told growing.is_safe growing.has_failed (members + 2) taken.files files (Ok tt)
  pub made : IsMadeOver growing left Creates folder id geometry files

-- The files of the folder were opened, each that was used is safe, that of the slot was not given up for its sync, and the slot was given a device over
-- them. One of another slot that is there and could not be opened was passed over only where the set, by the table on these files, calls its slot missing.
pub record IsReplacedIn {F : Type 0} (growing : Ghosts F) (left : F → List ℕ) (Creates : (path : List ℕ) → Result (F × Before) CreateFault → Type 0)
    (folder : List ℕ) (Opens : (path : List ℕ) → Result (Option F) OpenFault → Type 0) (id : List ℕ) (slot : ℕ) : Type 0 where
  pub taken : WereTaken growing (λ other. Opens (slot_path folder other)) (λ other. other ≡ slot)
      (λ files other. (other ≢ slot) × IsMissingOver growing left id files other)
  pub over : IsReplacedOver growing left Creates folder id slot taken.files

-- The files of a folder were opened for reading alone, and the set of an id, or each set, was inspected on a bank whose run began with them; what was found was
-- written, and so well are the sets.
pub record IsExaminedIn {F : Type 0} (growing : Ghosts F) (left : F → List ℕ) (Inspects : (path : List ℕ) → Result (Option F) OpenFault → Type 0)
    (folder : List ℕ) (id : Option (List ℕ)) (json : Bool) (was is : Option (List ℕ)) (before after : Health) : Type 0 where
  pub files : List (Option F)
  pub inspected : (slot : ℕ) → slot < 10 → Inspects (slot_path folder slot) (Ok (file_in files slot))
  pub bank : BankView
  pub begins : BeginsOver growing left files bank.history
  pub examines : ExaminesOn (IsTrue growing.tells) id json bank was is
  pub health : InspectsHealth (IsTrue growing.tells) id bank before after

-- What a line asks for was done over the files of its folder, what it writes was written, and so well is the set of one that asks for it. The folder was
-- synced where a set was made, and where a slot was given a device. Files that were opened for reading alone have a type of their own.
abbrev pub IsDone : {F L : Type 0} → (growing : Ghosts F) (left : F → List ℕ) (reading : Ghosts L) (left_read : L → List ℕ)
    (Opens : (path : List ℕ) → Result (Option F) OpenFault → Type 0)
    (Creates : (path : List ℕ) → Result (F × Before) CreateFault → Type 0) (Inspects : (path : List ℕ) → Result (Option L) OpenFault → Type 0)
    (IsSynced : (folder : List ℕ) → Type 0) → (drawn : Bool) → Invocation → (was is : Streams) (before after : Health) → Type 0
IsDone growing left reading left_read Opens Creates Inspects IsSynced drawn (Make folder id members chunk stripes) was is before after =
    ((geometry : Geometry) × HasSizes members chunk stripes geometry × IsMadeIn growing left Creates folder.now Opens id geometry)
    × IsSynced folder.now × Appends was.contents is.contents (made_text drawn id) × (after ≡ before)
IsDone growing left reading left_read Opens Creates Inspects IsSynced drawn (MakeSized folder id members chunk size over reserve) was is before after =
    ((geometry : Geometry) × IsMadeSizedIn growing left Creates folder.now Opens id members chunk size over geometry
    × Appends was.contents is.contents (sized_text drawn id size geometry)) × IsSynced folder.now × (after ≡ before)
IsDone growing left reading left_read Opens Creates Inspects IsSynced drawn (Replace folder id slot) was is before after =
    IsReplacedIn growing left Creates folder.now Opens id slot × IsSynced folder.now × Appends was.contents is.contents (reply_text Done) × (after ≡ before)
IsDone growing left reading left_read Opens Creates Inspects IsSynced drawn (Examine folder id json check) was is before after =
    IsExaminedIn reading left_read Inspects folder.now id json was.contents is.contents before after
IsDone growing left reading left_read Opens Creates Inspects IsSynced drawn (Serve folder id) was is before after =
    ServesFolder growing left Opens folder.now id was is × (after ≡ before)
IsDone growing left reading left_read Opens Creates Inspects IsSynced drawn line was is before after = IsServedOver growing left Opens line was is before after
