-- What the program's commands do with the set on a bank of devices, and what they are refused with.
use Rattle.std.specs.Prelude.{◌≡◌, ◌≢◌, ◌⊎◌, ℕ, Bool, if◌then◌else◌, List, [], ◌∷◌, ◌++◌, Contains, Option, Result, Ok, Err}
use Rattle.std.specs.Io.KnownBytes.{Appends}
use Rattle.sector_model.specs.declared.refusal.Refusal.{Refusal}
use Rattle.sector_model.specs.declared.refusal.Refusal.TheVariants.{BadTable, Incomplete, Memory, NoSet, NotMissing, NothingToRebuild, NotUsable, ReadFault}
use Rattle.sector_model.specs.declared.refusal.Refusal.TheVariants.{WouldLose, WriteFault}
use Rattle.layout_map.specs.declared.geometry.Geometry.{Geometry}
use Rattle.layout_map.specs.Placement.{rows_of}
use Rattle.array_io.specs.Believed.Holds.{row_count}
use Rattle.array_io.specs.Believed.Views.{ArrayView, EndsIt}
use Rattle.recovery.specs.Making as recovery
use Rattle.recovery.specs.Making.{BankView}
use Rattle.recovery.specs.Assembling.{Assembles}
use Rattle.recovery.specs.Unwritten.{RefusesUnwritten}
use Rattle.rebuild.specs.Rebuilding.{Progress}
use Rattle.scrub.specs.Scrubbing.{Report}
use Rattle.volume_table.specs.declared.status.Status.{Status}
use Rattle.volume_table.specs.Opening.{Opened, Opens, Returned}
use Rattle.volume_table.specs.Stands.{StoreView}
use Rattle.volume_table.specs.StoreCalls.{Applies, refusals_of}
use Rattle.volume_table.specs.VolumeStep.{Event, Fail, OnSet, OnVolumes, Progressed, RebuildStep, Refused, Replace, Reply, Scrub, ScrubRows, Scrubbed}
use Rattle.volume_table.specs.StoreFunctions.{FailsSlot, ReplacesDevice, ScrubsSet, TellsStatus, UpgradesTable, status_view}
use Rattle.report.specs.Replies.{progress_line, reply_text, scrub_line}
use Rattle.report.specs.Report.{status_json, status_text}
use Rattle.serde_json.specs.Written.{compact_text}
use Rattle.set_commands.specs.Run.{HasRun, StoppedByStore, Streams}
use Rattle.set_commands.specs.Steps.{Rebuilds}
use Rattle.report.specs.Written.{AppendsPart}

-- a set was assembled on a bank, where there was none to refuse before a write, and its volumes opened
pub record IsOpened (honest : Type 0) (id : List ℕ) (bank : BankView) (store : StoreView) : Type 0 where
  pub array : ArrayView
  pub assembles : Assembles honest id bank (recovery.Opened array)
  pub unwritten : RefusesUnwritten honest id bank (recovery.Opened array)
  pub opens : Opens honest array (Opened store)

-- no set was assembled, for this refusal
pub record IsUnassembled (honest : Type 0) (id : List ℕ) (bank : BankView) (refusal : Refusal) : Type 0 where
  pub back : BankView
  pub assembles : Assembles honest id bank (recovery.Returned back refusal)
  pub unwritten : RefusesUnwritten honest id bank (recovery.Returned back refusal)

-- a set was assembled, and its volumes could not be opened, for this refusal
pub record IsUnread (honest : Type 0) (id : List ℕ) (bank : BankView) (refusal : Refusal) : Type 0 where
  pub array : ArrayView
  pub back : BankView
  pub assembles : Assembles honest id bank (recovery.Opened array)
  pub unwritten : RefusesUnwritten honest id bank (recovery.Opened array)
  pub opens : Opens honest array (Returned back refusal)

-- why there is no store on a bank
abbrev pub IsNotOpened : (honest : Type 0) (id : List ℕ) (bank : BankView) → Refusal → Type 0
IsNotOpened honest id bank refusal = IsUnassembled honest id bank refusal ⊎ IsUnread honest id bank refusal

-- a store was opened on a bank, and came from there to another in this way
pub record ServesOn (honest : Type 0) (id : List ℕ) (bank : BankView) (Comes : (first last : StoreView) → Type 0) : Type 0 where
  pub first : StoreView
  pub last : StoreView
  pub opened : IsOpened honest id bank first
  pub comes : Comes first last

-- a store was opened on a bank, and nothing was done with it
abbrev pub OpensOnly : (honest : Type 0) (id : List ℕ) (bank : BankView) → Type 0
OpensOnly honest id bank = (store : StoreView) × IsOpened honest id bank store

-- a script was served over it to its end
abbrev pub RunsOn : (honest : Type 0) (id : List ℕ) (bank : BankView) (was is : Streams) → Type 0
RunsOn honest id bank was is = ServesOn honest id bank (λ first last. HasRun honest first last was is)

-- a refusal ended the store of which a script was served, or there was none, and nothing was read or written
abbrev pub LosesOn : (honest : Type 0) (id : List ℕ) (bank : BankView) (refusal : Refusal) (was is : Streams) (same : Type 0) → Type 0
LosesOn honest id bank refusal was is same =
    (IsNotOpened honest id bank refusal × same) ⊎ ServesOn honest id bank (λ first last. StoppedByStore honest refusal first last was is)

-- the text of a status: lines, or JSON without spaces in one line
abbrev pub told_text : Bool → Status → List ℕ
told_text json status = if json then compact_text (status_json status) ++ 10 ∷ [] else status_text status

-- a store was opened on a bank, which tells this status
pub record StatusOn (honest : Type 0) (id : List ℕ) (bank : BankView) (status : Status) : Type 0 where
  pub store : StoreView
  pub opened : IsOpened honest id bank store
  pub tells : TellsStatus store (Ok (status_view status))

-- its status was written
pub record TellsOn (honest : Type 0) (id : List ℕ) (bank : BankView) (json : Bool) (was is : Option (List ℕ)) : Type 0 where
  pub status : Status
  pub told : StatusOn honest id bank status
  pub written : Appends was is (told_text json status)

-- a beginning of it was written
pub record TellsPartOn (honest : Type 0) (id : List ℕ) (bank : BankView) (json : Bool) (was is : Option (List ℕ)) : Type 0 where
  pub status : Status
  pub told : StatusOn honest id bank status
  pub written : AppendsPart was is (told_text json status)

-- the text of what an event is answered on a set of this geometry
abbrev pub event_text : Geometry → Reply → List ℕ
event_text geometry (Progressed progress) = progress_line geometry.format (rows_of geometry.chunk geometry.stripes) progress
event_text geometry (Scrubbed all bad first_bad) = scrub_line (record { rows = all; bad = bad; first_bad = first_bad })
event_text geometry reply = reply_text reply

-- an event was done, and what it answered is a text of which this holds
pub record AppliesOn (honest : Type 0) (id : List ℕ) (event : Event) (bank : BankView) (IsWritten : List ℕ → Type 0) : Type 0 where
  pub first : StoreView
  pub last : StoreView
  pub reply : Reply
  pub opened : IsOpened honest id bank first
  pub applies : Applies honest event first last reply
  pub done : (refusal : Refusal) → reply ≢ Refused refusal
  pub written : IsWritten (event_text last.array.table.geometry reply)

-- an event was refused
abbrev pub RefusesOn : (honest : Type 0) (id : List ℕ) (event : Event) (bank : BankView) → Refusal → Type 0
RefusesOn honest id event bank refusal = ServesOn honest id bank (λ first last. Applies honest event first last (Refused refusal))

-- a slot was asked to be given up, and that was answered so
abbrev pub FailsOn : (honest : Type 0) (id : List ℕ) (slot : ℕ) (bank : BankView) → Result (Unit {0}) Refusal → Type 0
FailsOn honest id slot bank answer = ServesOn honest id bank (λ first last. FailsSlot honest slot first last answer)

-- a slot was asked to be given a device, and that was answered so
abbrev pub ReplacesOn : (honest : Type 0) (id : List ℕ) (slot : ℕ) (bank : BankView) → Result (Unit {0}) Refusal → Type 0
ReplacesOn honest id slot bank answer = ServesOn honest id bank (λ first last. ReplacesDevice honest slot first last answer)

-- steps of a rebuild were made, and what the last one answered is a line of which this holds
pub record RebuildsOn (honest : Type 0) (id : List ℕ) (steps : Option ℕ) (bank : BankView) (IsWritten : List ℕ → Type 0) : Type 0 where
  pub first : StoreView
  pub last : StoreView
  pub progress : Progress
  pub opened : IsOpened honest id bank first
  pub rebuilds : Rebuilds honest steps first last (Ok progress)
  pub written : IsWritten (progress_line last.array.table.geometry.format (row_count last.array.table) progress)

-- steps of a rebuild were made, the last of which was refused
abbrev pub StopsRebuildingOn : (honest : Type 0) (id : List ℕ) (steps : Option ℕ) (bank : BankView) → Refusal → Type 0
StopsRebuildingOn honest id steps bank refusal = ServesOn honest id bank (λ first last. Rebuilds honest steps first last (Err refusal))

-- the rows were looked at, and what that found is a line of which this holds
pub record ScrubsOn (honest : Type 0) (id : List ℕ) (bank : BankView) (IsWritten : List ℕ → Type 0) : Type 0 where
  pub first : StoreView
  pub last : StoreView
  pub report : Report
  pub opened : IsOpened honest id bank first
  pub scrubs : ScrubsSet honest first last (Ok report)
  pub written : IsWritten (scrub_line report)

-- the table of volumes was asked to be one of version 2, and that was answered so
abbrev pub UpgradesOn : (honest : Type 0) (id : List ℕ) (bank : BankView) → Result (Unit {0}) Refusal → Type 0
UpgradesOn honest id bank answer = ServesOn honest id bank (λ first last. UpgradesTable honest first last answer)

-- what assembling and opening are refused with
abbrev pub IsOpeningRefusal : Refusal → Type 0
IsOpeningRefusal refusal = (refusal ≡ NoSet) ⊎ ((refusal ≡ BadTable) ⊎ EndsIt refusal)

-- found before the script is read
abbrev pub IsEarly : Refusal → Type 0
IsEarly refusal = (refusal ≡ Memory) ⊎ ((refusal ≡ NoSet) ⊎ (refusal ≡ BadTable))

-- what serving can be refused with
abbrev pub IsEnd : Refusal → Type 0
IsEnd refusal = IsEarly refusal ⊎ ((refusal ≡ ReadFault) ⊎ ((refusal ≡ WriteFault) ⊎ EndsIt refusal))

-- what telling a status, and making the table of volumes one of version 2, can be refused with
abbrev pub IsTellEnd : Refusal → Type 0
IsTellEnd refusal = IsEarly refusal ⊎ ((refusal ≡ WriteFault) ⊎ EndsIt refusal)

-- what the call of an event can be refused with, beside 15 and 16
abbrev pub IsOwnEnd : Event → Refusal → Type 0
IsOwnEnd (OnVolumes command) refusal = Contains (refusals_of command) refusal
IsOwnEnd (OnSet (Fail slot)) refusal = (refusal ≡ WouldLose) ⊎ (refusal ≡ NotMissing)
IsOwnEnd (OnSet (Replace slot)) refusal = (refusal ≡ NotMissing) ⊎ (refusal ≡ NotUsable)
IsOwnEnd (OnSet (RebuildStep rows)) refusal = refusal ≡ NothingToRebuild
IsOwnEnd (OnSet Scrub) refusal = refusal ≡ Incomplete
IsOwnEnd (OnSet (ScrubRows first rows)) refusal = refusal ≡ Incomplete

-- what an event on a bank can be refused with
abbrev pub IsEventEnd : Event → Refusal → Type 0
IsEventEnd event refusal = IsTellEnd refusal ⊎ IsOwnEnd event refusal

-- what giving a slot up can be refused with
abbrev pub IsFailEnd : Refusal → Type 0
IsFailEnd refusal = IsTellEnd refusal ⊎ ((refusal ≡ WouldLose) ⊎ (refusal ≡ NotMissing))

-- what giving a slot a device can be refused with
abbrev pub IsReplaceEnd : Refusal → Type 0
IsReplaceEnd refusal = IsTellEnd refusal ⊎ ((refusal ≡ NotMissing) ⊎ (refusal ≡ NotUsable))

-- what a rebuild can be refused with
abbrev pub IsRebuildEnd : Refusal → Type 0
IsRebuildEnd refusal = IsTellEnd refusal ⊎ (refusal ≡ NothingToRebuild)

-- what looking at the rows can be refused with
abbrev pub IsScrubEnd : Refusal → Type 0
IsScrubEnd refusal = IsTellEnd refusal ⊎ (refusal ≡ Incomplete)
