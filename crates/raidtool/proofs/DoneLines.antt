-- What was done where a line ended well, and what stopped it.
use Rattle.std.proofs.Common.{◌≡◌, ◌≢◌, ◌⊎◌, inl, inr, refl, subst, sym, ℕ, Bool, List, Option}
use Rattle.std.specs.Prelude.{Err, IfErr, IsTrue, Ok, OnOk, Result}
use Rattle.std.specs.Borrow.{Bor}
use Rattle.std.specs.Io.KnownBytes.{Appends}
use Rattle.clap.specs.Words.{Text}
use Rattle.volume_table.specs.VolumeStep.{Done}
use Rattle.report.specs.Replies.{reply_text}
use Rattle.sector_model.specs.declared.refusal.Refusal.{Refusal}
use Rattle.sector_model.specs.declared.refusal.Refusal.TheVariants.{WriteFault}
use Rattle.layout_map.specs.declared.geometry.Geometry.{Geometry}
use Rattle.recovery.specs.Making.{BankView}
use Rattle.command_line.specs.declared.Invocation.{Invocation}
use Rattle.command_line.specs.declared.Invocation.TheVariants.{Change, Examine, Fail, Make, MakeSized, Rebuild, Replace, Run, Scrub, Serve, Status, Upgrade}
use Rattle.command_line.specs.declared.Size.{Size}
use Rattle.device_files.specs.declared.FolderFault.{FolderFault}
use Rattle.device_files.specs.declared.slot_files.CreateFault.{CreateFault}
use Rattle.device_files.specs.declared.slot_files.OpenFault.{OpenFault}
use Rattle.device_files.specs.declared.FolderFault.TheVariants.{Refused}
use Rattle.device_files.specs.declared.growing.Growing.{Ghosts}
use Rattle.device_files.specs.declared.locked.Before.{Before}
use Rattle.device_files.specs.DeviceFiles.{slot_path}
use Rattle.raidtool.specs.Done.{DoesOn, HasSizes}
use Rattle.raidtool.specs.DoneOver.{IsDone, IsMadeIn, IsMadeSizedIn, IsReplacedIn, IsServedOver}
use Rattle.set_commands.specs.declared.serving.health.Health.{Health}
use Rattle.device_files.specs.Faults.{fault_line}
use Rattle.raidtool.specs.Stops.{IsBlamed}
use Rattle.set_commands.specs.Run.{Streams}
use Rattle.report.specs.Written.{AppendsPart}
use Rattle.raidtool.specs.ServedRuns.{ServesFolder}
use Rattle.raidtool.specs.Sized.{IsFoundIn, IsSizeTold, sized_text}
use Rattle.raidtool.specs.Texts.{made_text}
use Rattle.raidtool.specs.Tool.{ComesFirst, ComesFirstIn, IsBlamedIn, IsChecked, IsCutOff, IsEndOfLine, IsFirst, IsFirstIn, IsMisshapen, IsNone, IsOfFiles}
use Rattle.raidtool.specs.Tool.{IsPartWritten, IsRefusalOf, IsStopOf}
use Rattle.raidtool.specs.Tool.{IsWritten, PassesNone, WasRefused, WasStopped}
use Rattle.raidtool.specs.Causes.{folder_text}
use Rattle.raidtool.proofs.InspectionsTold.{inspections_written}
use Rattle.raidtool.proofs.Repaired.{told_change, told_progress, told_scrub}
use Rattle.raidtool.proofs.Statuses.{told_status}

-- what it writes was written
written_by : (drawn : Bool) (line : Invocation) (honest : Type 0) (bank : BankView) (was is : Streams) → DoesOn line honest bank was is
    → IsWritten drawn line was.contents is.contents
written_by drawn (Run folder id) honest bank was is does = tt
written_by drawn (Serve folder id) honest bank was is does = absurd does
written_by drawn (Make folder id members chunk stripes) honest bank was is does = absurd does
written_by drawn (MakeSized folder id members chunk size over reserve) honest bank was is does = absurd does
written_by drawn (Change folder id change) honest bank was is does = told_change honest id change bank _ does
written_by drawn (Status folder id json check) honest bank was is does = told_status honest id bank json was.contents is.contents does
written_by drawn (Fail folder id slot) honest bank was is does = does.1
written_by drawn (Replace folder id slot) honest bank was is does = does.1
written_by drawn (Rebuild folder id steps) honest bank was is does = told_progress honest id steps bank _ does
written_by drawn (Scrub folder id) honest bank was is does = told_scrub honest id bank _ does
written_by drawn (Upgrade folder id) honest bank was is does = does.1
written_by drawn (Examine folder id json check) honest bank was is does = inspections_written honest id json bank was.contents is.contents does

module _ {F L : Type 0} (growing : Ghosts F) (left : F → List ℕ) (reading : Ghosts L) (left_read : L → List ℕ)
    (Opens : (path : List ℕ) → Result (Option F) OpenFault → Type 0)
    (Creates : (path : List ℕ) → Result (F × Before) CreateFault → Type 0) (Inspects : (path : List ℕ) → Result (Option L) OpenFault → Type 0)
    (IsSynced : (folder : List ℕ) → Type 0) where
  abbrev Does : (drawn : Bool) → Invocation → (was is : Streams) (before after : Health) → Type 0
  Does = IsDone growing left reading left_read Opens Creates Inspects IsSynced

  pub written_of : (drawn : Bool) (line : Invocation) (was is : Streams) (before after : Health) → Does drawn line was is before after
      → IsWritten drawn line was.contents is.contents
  written_of drawn (Make folder id members chunk stripes) was is before after done = (done.0.1.within, done.2)
  written_of drawn (MakeSized folder id members chunk size over reserve) was is before after done =
      let sized = done.0.1.sized in
      record { geometry = done.0.0; format_is = sized.format_is; members_is = sized.members_is; chunk_is = sized.chunk_is; written = done.0.2 }
  written_of drawn (Change folder id change) was is before after done = written_by drawn (Change folder id change) _ done.over.bank was is done.over.does
  written_of drawn (Replace folder id slot) was is before after done = done.2
  written_of drawn (Examine folder id json check) was is before after done =
      inspections_written (IsTrue reading.tells) id json done.bank was.contents is.contents done.examines
  written_of drawn (Run folder id) was is before after done = tt
  written_of drawn (Serve folder id) was is before after done = tt
  written_of drawn (Status folder id json check) was is before after done = written_by drawn (Status folder id json check) _ done.over.bank was is
      done.over.does
  written_of drawn (Fail folder id slot) was is before after done = written_by drawn (Fail folder id slot) _ done.over.bank was is done.over.does
  written_of drawn (Rebuild folder id steps) was is before after done = written_by drawn (Rebuild folder id steps) _ done.over.bank was is done.over.does
  written_of drawn (Scrub folder id) was is before after done = written_by drawn (Scrub folder id) _ done.over.bank was is done.over.does
  written_of drawn (Upgrade folder id) was is before after done = written_by drawn (Upgrade folder id) _ done.over.bank was is done.over.does

  -- a set was made
  pub made_done : (drawn : Bool) (folder : Bor Text) (id : List ℕ) (members chunk stripes : ℕ) (geometry : Geometry) (done : Result (Unit {0}) FolderFault)
      (was is : Streams) (health : Health) → HasSizes members chunk stripes geometry
      → OnOk done (IsMadeIn growing left Creates folder.now Opens id geometry) → OnOk done (IsSynced folder.now)
      → OnOk done (Appends was.contents is.contents (made_text drawn id))
      → OnOk done (Does drawn (Make folder id members chunk stripes) was is health health)
  made_done drawn folder id members chunk stripes geometry (Ok value) was is health sizes made synced written = ((geometry, sizes, made), synced, written, refl)
  made_done drawn folder id members chunk stripes geometry (Err fault) was is health sizes made synced written = tt

  -- one of a wished room was
  pub sized_done : (drawn : Bool) (folder : Bor Text) (id : List ℕ) (members chunk : ℕ) (size : Size) (over reserve : Bool)
      (done : Result (Unit {0}) FolderFault) (was is : Streams) (health : Health)
      → OnOk done ((geometry : Geometry) × IsMadeSizedIn growing left Creates folder.now Opens id members chunk size over geometry
      × Appends was.contents is.contents (sized_text drawn id size geometry)) → OnOk done (IsSynced folder.now)
      → OnOk done (Does drawn (MakeSized folder id members chunk size over reserve) was is health health)
  sized_done drawn folder id members chunk size over reserve (Ok value) was is health made synced = (made, synced, refl)
  sized_done drawn folder id members chunk size over reserve (Err fault) was is health made synced = tt

  -- a slot was given a device
  pub replaced_done : (drawn : Bool) (folder : Bor Text) (id : List ℕ) (slot : ℕ) (done : Result (Unit {0}) FolderFault) (was is : Streams) (health : Health)
      → OnOk done (IsReplacedIn growing left Creates folder.now Opens id slot) → OnOk done (IsSynced folder.now)
      → OnOk done (Appends was.contents is.contents (reply_text Done)) → OnOk done (Does drawn (Replace folder id slot) was is health health)
  replaced_done drawn folder id slot (Ok value) was is health replaced synced written = (replaced, synced, written, refl)
  replaced_done drawn folder id slot (Err fault) was is health replaced synced written = tt

  -- a line that needs no file to be made was done over the files of its folder
  pub served_done : (drawn : Bool) (line : Invocation) (done : Result (Unit {0}) FolderFault) (was is : Streams) (before after : Health)
      → ((folder : Bor Text) (id : List ℕ) (members chunk stripes : ℕ) → line ≡ Make folder id members chunk stripes → ⊥)
      → ((folder : Bor Text) (id : List ℕ) (members chunk : ℕ) (size : Size) (over reserve : Bool) → line ≡ MakeSized folder id members chunk size over reserve
      → ⊥)
      → ((folder : Bor Text) (id : List ℕ) (slot : ℕ) → line ≡ Replace folder id slot → ⊥)
      → ((folder : Bor Text) (id : Option (List ℕ)) (json check : Bool) → line ≡ Examine folder id json check → ⊥)
      → ((folder : Bor Text) (id : List ℕ) → line ≡ Serve folder id → ⊥)
      → OnOk done (IsServedOver growing left Opens line was is before after) → OnOk done (Does drawn line was is before after)
  served_done drawn (Make folder id members chunk stripes) done was is before after no_make no_sized no_replace no_inspection no_serve served =
      absurd (no_make folder id members chunk stripes refl)
  served_done drawn (MakeSized folder id members chunk size over reserve) done was is before after no_make no_sized no_replace no_inspection no_serve served =
      absurd (no_sized folder id members chunk size over reserve refl)
  served_done drawn (Replace folder id slot) done was is before after no_make no_sized no_replace no_inspection no_serve served =
      absurd (no_replace folder id slot refl)
  served_done drawn (Examine folder id json check) done was is before after no_make no_sized no_replace no_inspection no_serve served =
      absurd (no_inspection folder id json check refl)
  served_done drawn (Serve folder id) done was is before after no_make no_sized no_replace no_inspection no_serve served = absurd (no_serve folder id refl)
  served_done drawn line done was is before after no_make no_sized no_replace no_inspection no_serve served = served

-- a beginning of what the making of a set of a wished room writes was written
pub sized_cut : {F : Type 0} (growing : Ghosts F) (left : F → List ℕ) (Creates : (path : List ℕ) → Result (F × Before) CreateFault → Type 0)
    (folder : List ℕ) (Opens : (path : List ℕ) → Result (Option F) OpenFault → Type 0) (drawn : Bool) (id : List ℕ) (members chunk : ℕ) (size : Size)
    (over : Bool) (was is : Option (List ℕ))
    → ((geometry : Geometry) × IsMadeSizedIn growing left Creates folder Opens id members chunk size over geometry
    × AppendsPart was is (sized_text drawn id size geometry))
    → IsSizeTold drawn id members chunk size (AppendsPart was is)
sized_cut growing left Creates folder Opens drawn id members chunk size over was is (geometry, made, written) = record {
  geometry = geometry;
  format_is = made.sized.format_is;
  members_is = made.sized.members_is;
  chunk_is = made.sized.chunk_is;
  written = written;
}

-- a line that makes no set has no sizes that are none
pub no_make : (line : Invocation) → ((folder : Bor Text) (id : List ℕ) (members chunk stripes : ℕ) → line ≡ Make folder id members chunk stripes → ⊥)
    → IsMisshapen line → ⊥
no_make (Make folder id members chunk stripes) other bad = other folder id members chunk stripes refl
no_make line other bad = bad

-- a line that needs no file to be made may pass over one
pub passes_some : (line : Invocation) → ((folder : Bor Text) (id : List ℕ) (members chunk stripes : ℕ) → line ≡ Make folder id members chunk stripes → ⊥)
    → ((folder : Bor Text) (id : List ℕ) (members chunk : ℕ) (size : Size) (over reserve : Bool) → line ≡ MakeSized folder id members chunk size over reserve
    → ⊥)
    → ((folder : Bor Text) (id : Option (List ℕ)) (json check : Bool) → line ≡ Examine folder id json check → ⊥) → PassesNone line → ⊥
passes_some (Make folder id members chunk stripes) no_make no_sized no_inspection none = no_make folder id members chunk stripes refl
passes_some (MakeSized folder id members chunk size over reserve) no_make no_sized no_inspection none =
    no_sized folder id members chunk size over reserve refl
passes_some (Examine folder id json check) no_make no_sized no_inspection none = no_inspection folder id json check refl
passes_some line no_make no_sized no_inspection none = none

-- what is blamed of a line that needs no file to be made is what opening its files, or creating them, came to
pub served_blamed : {F Made L : Type 0} (growing : Ghosts F) (Opens : (path : List ℕ) → Result (Option F) OpenFault → Type 0)
    (Creates : (path : List ℕ) → Result Made CreateFault → Type 0)
    (Inspects : (path : List ℕ) → Result (Option L) OpenFault → Type 0) (line : Invocation) (done : Result (Unit {0}) FolderFault)
    → ((folder : Bor Text) (id : List ℕ) (members chunk : ℕ) (size : Size) (over reserve : Bool) → line ≡ MakeSized folder id members chunk size over reserve
    → ⊥)
    → ((folder : Bor Text) (id : Option (List ℕ)) (json check : Bool) → line ≡ Examine folder id json check → ⊥)
    → IfErr done (IsBlamed Opens Creates growing.has_failed (folder_text line)) → IfErr done (IsBlamedIn growing Opens Creates Inspects line)
served_blamed growing Opens Creates Inspects (MakeSized folder id members chunk size over reserve) done no_sized no_inspection blamed =
    absurd (no_sized folder id members chunk size over reserve refl)
served_blamed growing Opens Creates Inspects (Examine folder id json check) done no_sized no_inspection blamed =
    absurd (no_inspection folder id json check refl)
served_blamed growing Opens Creates Inspects line done no_sized no_inspection blamed = blamed

-- what is blamed of a line that makes a set of a wished room
pub sized_blamed : {F Made L : Type 0} (growing : Ghosts F) (Opens : (path : List ℕ) → Result (Option F) OpenFault → Type 0)
    (Creates : (path : List ℕ) → Result Made CreateFault → Type 0) (Inspects : (path : List ℕ) → Result (Option L) OpenFault → Type 0)
    (folder : Bor Text) (id : List ℕ) (members chunk : ℕ) (size : Size) (over reserve : Bool) (done : Result (Unit {0}) FolderFault)
    → IfErr done (IsBlamed Opens Creates growing.has_failed folder.now)
    → IfErr done (IsFoundIn growing (λ slot. Opens (slot_path folder.now slot)))
    → IfErr done (IsBlamedIn growing Opens Creates Inspects (MakeSized folder id members chunk size over reserve))
sized_blamed growing Opens Creates Inspects folder id members chunk size over reserve (Ok done) blamed found = tt
sized_blamed growing Opens Creates Inspects folder id members chunk size over reserve (Err fault) blamed found = (blamed, found)

-- ---- what stopped it

-- a refusal of a line is one of its own
end_of_line : (line : Invocation) (refusal : Refusal) → IsStopOf line (Refused refusal) → IsEndOfLine line refusal
end_of_line (Run folder id) refusal stops = stops
end_of_line (Serve folder id) refusal stops = stops
end_of_line (Make folder id members chunk stripes) refusal stops = stops
end_of_line (Status folder id json check) refusal stops = stops
end_of_line (Fail folder id slot) refusal stops = stops
end_of_line (Replace folder id slot) refusal stops = stops
end_of_line (Rebuild folder id steps) refusal stops = stops
end_of_line (Scrub folder id) refusal stops = stops
end_of_line (Upgrade folder id) refusal stops = stops
end_of_line (Examine folder id json check) refusal stops = stops
end_of_line (MakeSized folder id members chunk size over reserve) refusal stops = stops
end_of_line (Change folder id change) refusal stops = stops

-- it is a refusal, or a fault of a file or a folder
by_kind : (line : Invocation) (fault : FolderFault) → ((refusal : Refusal) × (fault ≡ Refused refusal)) ⊎ (IsOfFiles fault × IsFirstIn line fault)
by_kind line (Refused refusal) = inl (refusal, refl)
by_kind line fault = inr (tt, tt)

-- what comes first for a line comes first
first_refusal : (line : Invocation) (refusal : Refusal) → ComesFirstIn line refusal → ComesFirst refusal
first_refusal (Serve folder id) refusal first = absurd first
first_refusal line refusal first = first

pub first_in : (line : Invocation) (fault : FolderFault) → IsFirstIn line fault → IsFirst fault
first_in line (Refused refusal) first = first_refusal line refusal first
first_in line fault first = tt

-- for one that may have several runs that is a fault of a file or a folder
pub first_of_files : (folder : Bor Text) (id : List ℕ) (fault : FolderFault) → IsFirstIn (Serve folder id) fault → IsOfFiles fault
first_of_files folder id (Refused refusal) first = absurd first
first_of_files folder id fault first = tt

-- requests were served
pub requests_served : {F : Type 0} (growing : Ghosts F) (left : F → List ℕ) (Opens : (path : List ℕ) → Result (Option F) OpenFault → Type 0)
    (folder : List ℕ) (id : List ℕ) (done : Result (Unit {0}) FolderFault) (was is : Streams) (health : Health)
    → OnOk done (ServesFolder growing left Opens folder id was is) → OnOk done (ServesFolder growing left Opens folder id was is × (health ≡ health))
requests_served growing left Opens folder id (Ok value) was is health served = (served, refl)
requests_served growing left Opens folder id (Err fault) was is health served = tt

-- the program says what stopped a line
pub was_stopped : (Caused : Refusal → Type 0) (Blamed : FolderFault → Type 0) (line : Invocation) (folder : List ℕ) (Told : List ℕ → Type 0) (Same : Type 0)
    (fault : FolderFault)
    → folder ≡ folder_text line → IsStopOf line fault → Blamed fault → Told (fault_line folder fault) → (IsFirstIn line fault → Same)
    → ((refusal : Refusal) → fault ≡ Refused refusal → IsChecked line → ¬ IsNone refusal)
    → ((refusal : Refusal) → fault ≡ Refused refusal → Caused refusal)
    → WasRefused (IsRefusalOf line Caused) (ComesFirstIn line) Told Same ⊎ WasStopped line Blamed Told Same
was_stopped Caused Blamed line folder Told Same fault is stops blamed told alone apart cause = elim (by_kind line fault) [
  | inl (refusal, same) ↦ inl (record {
    refusal = refusal;
    ends = record {
      end = end_of_line line refusal (subst (IsStopOf line) same stops);
      apart = apart refusal same;
      caused = cause refusal same;
    };
    told = subst (λ (f : FolderFault). Told (fault_line folder f)) same told;
    alone = λ first. alone (subst (IsFirstIn line) (sym same) first);
  })
  | inr (of_files, first) ↦ inr (record {
    fault = fault;
    of_files = of_files;
    stops = stops;
    blamed = blamed;
    told = subst (λ (f : List ℕ). Told (fault_line f fault)) is told;
    same = alone first;
  })
]

is_cut : (fault : FolderFault) → (fault ≡ Refused WriteFault) ⊎ (fault ≢ Refused WriteFault)
is_cut (Refused WriteFault) = inl refl
is_cut fault = inr (λ cut. cc)

-- standard output got nothing then, or a part of what the line writes
pub unmade_by : (drawn : Bool) (line : Invocation) (folder : List ℕ) (out new_out : Option (List ℕ)) (Told : List ℕ → Type 0) (Same : Type 0)
    (fault : FolderFault)
    → Told (fault_line folder fault)
    → (fault ≢ Refused WriteFault → Same) → (fault ≡ Refused WriteFault → IsPartWritten drawn line out new_out)
    → Same ⊎ IsCutOff drawn line out new_out Told
unmade_by drawn line folder out new_out Told Same fault told same part = elim (is_cut fault) [
  | inl cut ↦ inr (record { part = part cut; told = subst (λ (f : FolderFault). Told (fault_line folder f)) cut told })
  | inr other ↦ inl (same other)
]
