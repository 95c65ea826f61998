-- What the program's exit status says, and what standard output and standard error get.
use Rattle.std.specs.Prelude.{◌≡◌, ◌≢◌, ◌⊎◌, ◌≤◌, ◌++◌, ◌∷◌, ℕ, Bool, true, false, List, [], Option, None, Result, Ok, Err, IfSome, codes}
use Rattle.std.specs.Io.KnownBytes.{Appends}
use Rattle.clap.specs.Words.{Text}
use Rattle.clap.specs.Values.{kind_of}
use Rattle.clap.specs.declared.error.kind.ErrorKind.TheVariants.{OutOfMemory}
use Rattle.std.specs.declared.io.ErrorKind.{ErrorKind}
use Rattle.std.specs.declared.io.ErrorKind.TheVariants as io
use Rattle.sector_model.specs.declared.refusal.Refusal.{Refusal}
use Rattle.sector_model.specs.declared.refusal.Refusal.TheVariants.{BadTable, Memory, NoSet, ReadFault, TwoLost, Worn, WriteFault}
use Rattle.layout_map.specs.declared.format.Format.{Format}
use Rattle.layout_map.specs.declared.format.Format.TheVariants.{One}
use Rattle.layout_map.specs.Placement.{IsGeometry}
use Rattle.recovery.specs.declared.examination.Examined.{Examined}
use Rattle.rebuild.specs.Rebuilding as rebuilding
use Rattle.rebuild.specs.Rebuilding.{Progress}
use Rattle.scrub.specs.Scrubbing.{Report}
use Rattle.volume_table.specs.declared.status.Status.{Status as SetStatus}
use Rattle.volume_table.specs.VolumeStep.{Done, OnVolumes, Volumes}
use Rattle.command_line.specs.Invocations.{AsksFor}
use Rattle.set_commands.specs.declared.serving.health.Health.{Health}
use Rattle.set_commands.specs.declared.serving.health.Health.TheVariants.{Complete, Incomplete, Unassembled}
use Rattle.set_commands.specs.Examining.{IsExamineEnd, IsInspectionText}
use Rattle.set_commands.specs.Fresh.{IsFreshEnd}
use Rattle.report.specs.Replies.{progress_line, refusal_line, reply_text, scrub_line}
use Rattle.device_files.specs.Faults.{fault_line, IsToldLine}
use Rattle.raidtool.specs.Causes.{folder_text}
use Rattle.raidtool.specs.Done.{command_for}
use Rattle.raidtool.specs.Sized.{IsFoundIn, IsSizeTold, IsSizedStop}
use Rattle.raidtool.specs.Texts.{made_text}
use Rattle.raidtool.specs.Stops.{IsBlamed, IsInspectionBlamed, IsMakeEnd, IsMakeFault, IsServeFault, IsSlotFault, IsTold}
use Rattle.set_commands.specs.Serving.{IsEnd, IsEventEnd, IsFailEnd, IsRebuildEnd, IsReplaceEnd, IsScrubEnd, IsTellEnd, told_text}
use Rattle.report.specs.Written.{AppendsPart}
use Rattle.command_line.specs.declared.Invocation.{Invocation}
use Rattle.command_line.specs.declared.Invocation.TheVariants.{Change, Examine, Fail, Make, MakeSized, Rebuild, Replace, Run, Scrub, Serve, Status, Upgrade}
use Rattle.command_line.specs.declared.SetChoice.{SetChoice}
use Rattle.command_line.specs.declared.SetChoice.TheVariants.{Given, New, Only}
use Rattle.command_line.specs.declared.Asked.{Asked}
use Rattle.command_line.specs.declared.Size.{Size}
use Rattle.command_line.specs.declared.Change.{Change as VolumeChange}
use Rattle.command_line.specs.declared.Change.TheVariants as change
use Rattle.command_line.specs.declared.InvocationFault.{InvocationFault}
use Rattle.command_line.specs.declared.InvocationFault.TheVariants.{BadId, BadShape, BadSize, Usage}
use Rattle.device_files.specs.declared.FolderFault.{FolderFault}
use Rattle.device_files.specs.declared.slot_files.CreateFault.{CreateFault}
use Rattle.device_files.specs.declared.growing.Growing.{Ghosts}
use Rattle.device_files.specs.declared.slot_files.OpenFault.{OpenFault}
use Rattle.device_files.specs.DeviceFiles.{slot_path}
use Rattle.device_files.specs.declared.FolderFault.TheVariants.{Refused}

-- ---- what the words ask for

-- something is asked for: there are no words, or they ask for a line
abbrev pub IsAsked : List Text → Type 0
IsAsked words = (words ≡ []) ⊎ ((asked : Asked) × AsksFor words asked)

-- the line reads standard input, and answers as it goes: a `run`, or a `serve`
abbrev pub ReadsInput : Invocation → Type 0
ReadsInput (Run folder id) = Unit {0}
ReadsInput (Serve folder id) = Unit {0}
ReadsInput line = ⊥

-- memory ran out while the words were read
abbrev pub IsMemoryFault : InvocationFault → Type 0
IsMemoryFault BadId = ⊥
IsMemoryFault BadSize = ⊥
IsMemoryFault BadShape = ⊥
IsMemoryFault (Usage error) = kind_of error ≡ OutOfMemory

-- ---- what a line is refused with

-- what a line can be refused with
abbrev pub IsEndOfLine : Invocation → Refusal → Type 0
IsEndOfLine (Run folder id) refusal = IsEnd refusal
IsEndOfLine (Serve folder id) refusal = IsEnd refusal
IsEndOfLine (Make folder id members chunk stripes) refusal = IsMakeEnd refusal
IsEndOfLine (Status folder id json check) refusal = IsTellEnd refusal
IsEndOfLine (Fail folder id slot) refusal = IsFailEnd refusal
IsEndOfLine (Replace folder id slot) refusal = IsReplaceEnd refusal
IsEndOfLine (Rebuild folder id steps) refusal = IsRebuildEnd refusal
IsEndOfLine (Scrub folder id) refusal = IsScrubEnd refusal
IsEndOfLine (Upgrade folder id) refusal = IsTellEnd refusal
IsEndOfLine (Examine folder id json check) refusal = IsExamineEnd refusal
IsEndOfLine (MakeSized folder id members chunk size over reserve) refusal = IsMakeEnd refusal
IsEndOfLine (Change folder id change) refusal = IsEventEnd (OnVolumes (command_for change)) refusal

-- a line asks how well a set is
abbrev pub IsChecked : Invocation → Type 0
IsChecked (Status folder id json true) = Unit {0}
IsChecked (Examine folder id json true) = Unit {0}
IsChecked line = ⊥

-- there is no set that could be assembled
abbrev pub IsNone : Refusal → Type 0
IsNone NoSet = Unit {0}
IsNone BadTable = Unit {0}
IsNone TwoLost = Unit {0}
IsNone Worn = Unit {0}
IsNone refusal = ⊥

-- the line is done by one call over the set on a bank, and needs no file to be made
abbrev pub IsServed : Invocation → Type 0
IsServed (Serve folder id) = ⊥
IsServed (Make folder id members chunk stripes) = ⊥
IsServed (MakeSized folder id members chunk size over reserve) = ⊥
IsServed (Replace folder id slot) = ⊥
IsServed (Examine folder id json check) = ⊥
IsServed line = Unit {0}

-- what a line can be refused with by the exit status 1, for this cause; one that asks how well a set is ends otherwise where there is none that could be
-- assembled
pub record IsRefusalOf (line : Invocation) (Caused : Refusal → Type 0) (refusal : Refusal) : Type 0 where
  pub end : IsEndOfLine line refusal
  pub apart : IsChecked line → ¬ IsNone refusal
  pub caused : Caused refusal

-- found before anything is read or written: any other than a fault of the reader or the writer, or the end of a store
abbrev pub ComesFirst : Refusal → Type 0
ComesFirst ReadFault = ⊥
ComesFirst WriteFault = ⊥
ComesFirst TwoLost = ⊥
ComesFirst Worn = ⊥
ComesFirst refusal = Unit {0}

-- so it is for a line; one that may have several runs can find it before any of them
abbrev pub ComesFirstIn : Invocation → Refusal → Type 0
ComesFirstIn (Serve folder id) refusal = ⊥
ComesFirstIn line refusal = ComesFirst refusal

-- ---- what standard output gets

-- the status of the set of this id was written
pub record IsStatusTold (id : List ℕ) (json : Bool) (old new : Option (List ℕ)) : Type 0 where
  pub status : SetStatus
  pub of_set : status.id ≡ id
  pub written : Appends old new (told_text json status)

-- a beginning of it was written
pub record IsStatusCut (id : List ℕ) (json : Bool) (old new : Option (List ℕ)) : Type 0 where
  pub status : SetStatus
  pub of_set : status.id ≡ id
  pub part : AppendsPart old new (told_text json status)

-- how far a rebuild came is a line of which this holds; where no number of steps was given, it came to its end
pub record IsProgressTold (steps : Option ℕ) (IsWritten : List ℕ → Type 0) : Type 0 where
  pub format : Format
  pub rows : ℕ
  pub progress : Progress
  pub whole : steps ≡ None → progress ≡ rebuilding.Complete
  pub written : IsWritten (progress_line format rows progress)

-- what a scrub found is a line of which this holds
pub record IsScrubTold (IsWritten : List ℕ → Type 0) : Type 0 where
  pub report : Report
  pub written : IsWritten (scrub_line report)

-- the text tells of these inspections one after another, each of the set of this id, if one is given
abbrev pub AreInspections : (id : Option (List ℕ)) (json : Bool) → List Examined → List ℕ → Type 0
AreInspections id json [] text = text ≡ []
AreInspections id json (one ∷ more) text = (first : List ℕ) × (rest : List ℕ) × IsInspectionText json one first × IfSome id (λ its. one.table.id ≡ its)
    × AreInspections id json more rest × (text ≡ first ++ rest)

-- what was found of sets, of one at least, is a text of which this holds
pub record IsInspectionTold (id : Option (List ℕ)) (json : Bool) (IsWritten : List ℕ → Type 0) : Type 0 where
  pub examined : List Examined
  pub text : List ℕ
  pub inspections : AreInspections id json examined text
  pub some : text ≢ []
  pub written : IsWritten text

-- what a change of volumes is answered is a text of which this holds: `ok`, or a line for each volume that there is
abbrev pub IsChangeTold : VolumeChange → (IsWritten : List ℕ → Type 0) → Type 0
IsChangeTold change.List IsWritten = (volumes : List (List ℕ × ℕ)) × IsWritten (reply_text (Volumes volumes))
IsChangeTold change IsWritten = IsWritten (reply_text Done)

-- whether the id of a set is drawn
abbrev pub is_new : SetChoice → Bool
is_new Given = false
is_new New = true
is_new Only = false

-- what standard output gets where a line is done; what a script or requests get is not said here
abbrev pub IsWritten : (drawn : Bool) → Invocation → (old new : Option (List ℕ)) → Type 0
IsWritten drawn (Run folder id) old new = Unit {0}
IsWritten drawn (Serve folder id) old new = Unit {0}
IsWritten drawn (Make folder id members chunk stripes) old new = IsGeometry One members chunk stripes × Appends old new (made_text drawn id)
IsWritten drawn (MakeSized folder id members chunk size over reserve) old new = IsSizeTold drawn id members chunk size (Appends old new)
IsWritten drawn (Status folder id json check) old new = IsStatusTold id json old new
IsWritten drawn (Fail folder id slot) old new = Appends old new (reply_text Done)
IsWritten drawn (Replace folder id slot) old new = Appends old new (reply_text Done)
IsWritten drawn (Rebuild folder id steps) old new = IsProgressTold steps (Appends old new)
IsWritten drawn (Scrub folder id) old new = IsScrubTold (Appends old new)
IsWritten drawn (Upgrade folder id) old new = Appends old new (reply_text Done)
IsWritten drawn (Examine folder id json check) old new = IsInspectionTold id json (Appends old new)
IsWritten drawn (Change folder id change) old new = IsChangeTold change (Appends old new)

-- a beginning of that
abbrev pub IsPartWritten : (drawn : Bool) → Invocation → (old new : Option (List ℕ)) → Type 0
IsPartWritten drawn (Run folder id) old new = ⊥
IsPartWritten drawn (Serve folder id) old new = ⊥
IsPartWritten drawn (Make folder id members chunk stripes) old new = AppendsPart old new (made_text drawn id)
IsPartWritten drawn (MakeSized folder id members chunk size over reserve) old new = IsSizeTold drawn id members chunk size (AppendsPart old new)
IsPartWritten drawn (Status folder id json check) old new = IsStatusCut id json old new
IsPartWritten drawn (Fail folder id slot) old new = AppendsPart old new (reply_text Done)
IsPartWritten drawn (Replace folder id slot) old new = AppendsPart old new (reply_text Done)
IsPartWritten drawn (Rebuild folder id steps) old new = IsProgressTold steps (AppendsPart old new)
IsPartWritten drawn (Scrub folder id) old new = IsScrubTold (AppendsPart old new)
IsPartWritten drawn (Upgrade folder id) old new = AppendsPart old new (reply_text Done)
IsPartWritten drawn (Examine folder id json check) old new = IsInspectionTold id json (AppendsPart old new)
IsPartWritten drawn (Change folder id change) old new = IsChangeTold change (AppendsPart old new)

-- ---- what standard error gets

-- one of these refusals was told; where it comes first, this is the same as before
pub record WasRefused (End First : Refusal → Type 0) (Told : List ℕ → Type 0) (Same : Type 0) : Type 0 where
  pub refusal : Refusal
  pub ends : End refusal
  pub told : Told (refusal_line refusal)
  pub alone : First refusal → Same

-- what stops a making: its sizes are those of a set, but where it is refused
abbrev pub IsStoppedMake : (members chunk stripes : ℕ) → FolderFault → Type 0
IsStoppedMake members chunk stripes (Refused refusal) = IsMakeEnd refusal
IsStoppedMake members chunk stripes fault = IsGeometry One members chunk stripes × IsMakeFault members fault

-- what stops a line over a folder
abbrev pub IsStopOf : Invocation → FolderFault → Type 0
IsStopOf (Make folder id members chunk stripes) fault = IsStoppedMake members chunk stripes fault
IsStopOf (MakeSized folder id members chunk size over reserve) fault = IsSizedStop members size over fault
IsStopOf (Replace folder id slot) fault = IsSlotFault IsReplaceEnd slot fault
IsStopOf line fault = IsServeFault (IsEndOfLine line) fault

-- it comes before anything is read or written: any but a refusal that does not
abbrev pub IsFirst : FolderFault → Type 0
IsFirst (Refused refusal) = ComesFirst refusal
IsFirst fault = Unit {0}

abbrev pub IsFirstIn : Invocation → FolderFault → Type 0
IsFirstIn line (Refused refusal) = ComesFirstIn line refusal
IsFirstIn line fault = Unit {0}

-- a fault of a device file or of a folder, and no refusal
abbrev pub IsOfFiles : FolderFault → Type 0
IsOfFiles (Refused refusal) = ⊥
IsOfFiles fault = Unit {0}

-- a device file is named only where that is what opening its path came to, or creating it, or a call of a file, or opening it for reading alone; and a set
-- only where a superblock of it was found
abbrev pub IsBlamedIn : {F Made L : Type 0} → (growing : Ghosts F) (Opens : (path : List ℕ) → Result (Option F) OpenFault → Type 0)
    (Creates : (path : List ℕ) → Result Made CreateFault → Type 0)
    (Inspects : (path : List ℕ) → Result (Option L) OpenFault → Type 0) → Invocation → FolderFault → Type 0
IsBlamedIn growing Opens Creates Inspects (Examine folder id json check) fault = IsInspectionBlamed Inspects folder.now fault
IsBlamedIn growing Opens Creates Inspects (MakeSized folder id members chunk size over reserve) fault =
    IsBlamed Opens Creates growing.has_failed folder.now fault × IsFoundIn growing (λ slot. Opens (slot_path folder.now slot)) fault
IsBlamedIn growing Opens Creates Inspects line fault = IsBlamed Opens Creates growing.has_failed (folder_text line) fault

-- a device file or a folder stopped a line, rightly blamed, and that was told; this is the same as before
pub record WasStopped (line : Invocation) (Blamed : FolderFault → Type 0) (Told : List ℕ → Type 0) (Same : Type 0) : Type 0 where
  pub fault : FolderFault
  pub of_files : IsOfFiles fault
  pub stops : IsStopOf line fault
  pub blamed : Blamed fault
  pub told : Told (fault_line (folder_text line) fault)
  pub same : Same

-- what a line writes was cut off, and that was told
pub record IsCutOff (drawn : Bool) (line : Invocation) (out new_out : Option (List ℕ)) (Told : List ℕ → Type 0) : Type 0 where
  pub part : IsPartWritten drawn line out new_out
  pub told : Told (refusal_line WriteFault)

-- the line is to make a set of sizes that none has
abbrev pub IsMisshapen : Invocation → Type 0
IsMisshapen (Make folder id members chunk stripes) = ¬ IsGeometry One members chunk stripes
IsMisshapen line = ⊥

-- a line that passes over no file, of which there is nothing to be told
abbrev pub PassesNone : Invocation → Type 0
PassesNone (Make folder id members chunk stripes) = Unit {0}
PassesNone (MakeSized folder id members chunk size over reserve) = Unit {0}
PassesNone (Examine folder id json check) = Unit {0}
PassesNone line = ⊥

-- the status 0 only where something was asked for, 2 only where not
pub record IsStatusFor (words : List Text) (status : ℕ) : Type 0 where
  pub most : status ≤ 4
  pub done : status ≡ 0 → IsAsked words
  pub wrong : status ≡ 2 → ¬ IsAsked words

-- what standard error gets where a word is no text
abbrev pub bad_word_line : List ℕ
bad_word_line = codes "bad word" ++ 10 ∷ []

-- the status of a program that could not begin for a fault of this kind, and what standard error got
abbrev pub IsNotStarted : ErrorKind → (status : ℕ) → (old new : Option (List ℕ)) → Type 0
IsNotStarted io.InvalidData status old new = (status ≡ 2) × IsToldLine bad_word_line old new
IsNotStarted io.OutOfMemory status old new = (status ≡ 1) × IsTold Memory old new
IsNotStarted kind status old new = status ≡ 1

-- ---- how well a set is

-- the exit status of what was done, or refused
abbrev pub status_by : Result (Unit {0}) FolderFault → (status : ℕ) → Health → ℕ
status_by (Ok value) status Complete = 0
status_by (Ok value) status Incomplete = 3
status_by (Ok value) status Unassembled = 4
status_by (Err (Refused NoSet)) status health = 4
status_by (Err (Refused BadTable)) status health = 4
status_by (Err (Refused TwoLost)) status health = 4
status_by (Err (Refused Worn)) status health = 4
status_by (Err fault) status health = status

-- that of a line
abbrev pub checked_status : Invocation → Result (Unit {0}) FolderFault → (status : ℕ) → Health → ℕ
checked_status (Status folder id json true) done status health = status_by done status health
checked_status (Examine folder id json true) done status health = status_by done status health
checked_status line done status health = status

-- it was done so, with no fault told, and a set would not be assembled; or none was, which was told
abbrev pub WasUnassembled : (Does : Type 0) (Caused : Refusal → Type 0) (Quiet : Type 0) (Told : List ℕ → Type 0) → Type 0
WasUnassembled Does Caused Quiet Told = (Does × Quiet) ⊎ ((refusal : Refusal) × IsNone refusal × Caused refusal × Told (refusal_line refusal))
