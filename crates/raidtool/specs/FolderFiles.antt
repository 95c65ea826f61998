-- What becomes of the device files of a folder in a command over them.
use Rattle.std.specs.Prelude.{◌≡◌, ◌⊎◌, ◌<◌, ◌≤◌, ◌+◌, ◌*◌, ℕ, Bool, List, Option, Result, Ok, Err, IfErr, IsSome, IsSomeAnd, IsTrue}
use Rattle.std.specs.Prelude.{OnOk, false}
use Rattle.std.specs.declared.io.Error.{Error}
use Rattle.layout_map.specs.declared.geometry.Geometry.{Geometry}
use Rattle.superblock.specs.Counted.{least_sectors}
use Rattle.device_files.specs.declared.FolderFault.{FolderFault}
use Rattle.device_files.specs.declared.FolderFault.TheVariants.{InUse, NoFile}
use Rattle.device_files.specs.declared.Reason.{Reason}
use Rattle.device_files.specs.declared.growing.Growing.{Ghosts}
use Rattle.device_files.specs.declared.locked.Before.{Before}
use Rattle.device_files.specs.declared.locked.UndoLog.{UndoLog}
use Rattle.device_files.specs.declared.slot_files.CreateFault.{CreateFault}
use Rattle.device_files.specs.declared.slot_files.OpenFault.{OpenFault}
use Rattle.device_files.specs.DeviceFiles.{AreOtherNotesKept, AreOthersKept, Begins, HasMade, IsCreated, IsNotedOf, StaysOrMade, WereMadeSafe}
use Rattle.device_files.specs.DeviceFiles.{barred_in, before_in, file_in, flag_in, lengthened, slot_path}
use Rattle.device_files.specs.Faults.{IsGivenUp, IsUnmadeFile}
use Rattle.device_files.specs.SlotCalls.{TakesBack}
use Rattle.raidtool.specs.Done.{IsUndone}

-- The files of ten slots were opened and made safe, and each that is there was used, none of which this holds was given up for its sync, and one that is there
-- was passed over because it could not be opened only where its slot may be lacking by the files that were used.
pub record WereTaken {F : Type 0} (growing : Ghosts F) (Opens : (slot : ℕ) → Result (Option F) OpenFault → Type 0) (IsNeeded : ℕ → Type 0)
    (MayLack : List (Option F) → ℕ → Type 0) : Type 0 where
  pub files : List (Option F)
  pub unsynced : List Bool
  pub barred : List (Option Reason)
  pub made_safe : WereMadeSafe growing.tells growing.told growing.is_safe (IsGivenUp growing.has_failed growing.sync_failed) Opens files unsynced barred
  pub passed : (slot : ℕ) → slot < 10 → IsSome (barred_in barred slot) → MayLack files slot
  pub kept : (slot : ℕ) → slot < 10 → IsNeeded slot → flag_in unsynced slot ≡ false

-- the files of ten slots were taken, none of them was given up or passed over, and this holds of them
abbrev pub HoldsOfTaken : {F : Type 0} → (growing : Ghosts F) (Opens : (slot : ℕ) → Result (Option F) OpenFault → Type 0)
    (Holds : List (Option F) → Type 0) → Type 0
HoldsOfTaken growing Opens Holds = (taken : WereTaken growing Opens (λ slot. slot < 10) (λ _ _. ⊥)) × Holds taken.files

-- that is noted of the file of a slot, or neither it nor what is noted of it was touched
abbrev pub IsNotedIn : {F Fault : Type 0} → (told : F → List ℕ) (Creates : Result (F × Before) Fault → Type 0) → ℕ
    → (was : Before) (old new : Option F) (is : Before) → Type 0
IsNotedIn told Creates bytes was old new is = IsNotedOf told Creates bytes was old new is ⊎ ((new ≡ old) × (is ≡ was))

-- where the file of a slot is named, this holds of each slot below it, and that of each after it
abbrev pub IsStoppedAt : (Done Untouched : ℕ → Type 0) → FolderFault → Type 0
IsStoppedAt Done Untouched (NoFile slot) = ((other : ℕ) → other < slot → Done other) × ((other : ℕ) → slot < other → Untouched other)
IsStoppedAt Done Untouched (InUse slot) = ((other : ℕ) → other < slot → Done other) × ((other : ℕ) → slot < other → Untouched other)
IsStoppedAt Done Untouched fault = Unit {0}

-- Each file of a set of this geometry is made long enough, one after another: no byte that was there is changed, what each was is noted, and where one can't
-- be, those below it are done and those after it untouched. So are those of slots after the set's.
abbrev pub MakesFiles : {F : Type 0} → (tells : Bool) (told : F → List ℕ) (IsSafe HasFailed : F → Type 0)
    (Creates : (path : List ℕ) → Result (F × Before) CreateFault → Type 0) → (folder : List ℕ) → Geometry
    → (was is : List (Option F)) (notes_were notes_are : List Before) → Result (Unit {0}) FolderFault → Type 0
MakesFiles tells told IsSafe HasFailed Creates folder geometry was is notes_were notes_are result = record {
  long : IsTrue tells → OnOk result ((slot : ℕ) → slot < geometry.members + 2
      → HasMade (IsCreated (Creates (slot_path folder slot))) (file_in was slot) (file_in is slot)
      (λ old new. told new ≡ lengthened (512 * least_sectors geometry slot) (told old)));
  kept : IsTrue tells → (slot : ℕ) → StaysOrMade (IsCreated (Creates (slot_path folder slot))) (file_in was slot) (file_in is slot)
      (λ old new. Begins (told old) (told new));
  noted : IsTrue tells → (slot : ℕ) → IsNotedIn told (Creates (slot_path folder slot)) (512 * least_sectors geometry slot)
      (before_in notes_were slot) (file_in was slot) (file_in is slot) (before_in notes_are slot);
  safe : OnOk result ((slot : ℕ) → slot < geometry.members + 2 → IsSomeAnd (file_in is slot) IsSafe);
  others : (slot : ℕ) → geometry.members + 2 ≤ slot → file_in is slot ≡ file_in was slot;
  blamed : IfErr result (IsStoppedAt (λ slot. IsSomeAnd (file_in is slot) IsSafe) (λ slot. file_in is slot ≡ file_in was slot));
  unmade : IfErr result (IsUnmadeFile (λ slot. Creates (slot_path folder slot)) (λ slot. IsSomeAnd (file_in is slot) HasFailed));
}

-- The files of a set that is to be made over them: made; or as they were, or as the making of its files left them. A type of files is told by what its
-- files tell.
abbrev pub LeavesFiles : {F T : Type 0} → (growing : Ghosts F) (Creates : (path : List ℕ) → Result (F × Before) CreateFault → Type 0) → (folder : List ℕ)
    → Geometry → (was is : List (Option F)) (notes_were notes_are : List Before) → Result T FolderFault → Type 0
LeavesFiles growing Creates folder geometry was is notes_were notes_are (Ok done) =
    MakesFiles growing.tells growing.told growing.is_safe growing.has_failed Creates folder geometry was is notes_were notes_are (Ok tt)
LeavesFiles growing Creates folder geometry was is notes_were notes_are (Err fault) = ((is ≡ was) × (notes_are ≡ notes_were))
    ⊎ ((made : Result (Unit {0}) FolderFault)
    × MakesFiles growing.tells growing.told growing.is_safe growing.has_failed Creates folder geometry was is notes_were notes_are made)

-- What was noted of files that were left so was taken back, but where the call failed that was to do so.
pub record AreTakenBack {F : Type 0} (growing : Ghosts F) (Removes : (path : List ℕ) → Result (Unit {0}) Error → Type 0) (paths : List (List ℕ))
    (notes : List Before) (left is : List (Option F)) : Type 0 where
  pub result : Result (Unit {0}) Error
  pub taken_back : TakesBack growing.tells growing.told growing.has_failed Removes paths left is notes result

-- How a command ended over the files of a folder, as it made them ready by one step and was done over them by another: as that step was refused, and then
-- what was noted was taken back from the files as that step left them; or, where the command was not done, from the files as the other one left them, of
-- which nothing is known, since its bank was dropped. Where it was done, that was over the very files that were made ready, and the log is still there by
-- which they would be taken back.
pub record EndsOver {F : Type 0} (growing : Ghosts F) (Removes : (path : List ℕ) → Result (Unit {0}) Error → Type 0) (paths : List (List ℕ))
    (Ready : (ready : Result (Unit {0}) FolderFault) (is : List (Option F)) (notes : List Before) → Type 0) (Does : List (Option F) → Type 0)
    (is : List (Option F)) (log : Option UndoLog) (done : Result (Unit {0}) FolderFault) : Type 0 where
  pub prepared : List (Option F)
  pub notes : List Before
  pub ready : Result (Unit {0}) FolderFault
  pub readied : Ready ready prepared notes
  pub refused : (fault : FolderFault) → ready ≡ Err fault → (done ≡ Err fault) × AreTakenBack growing Removes paths notes prepared is
  pub undone : IsUndone done → (left : List (Option F)) × AreTakenBack growing Removes paths notes left is
  pub does : ¬ IsUndone done → Does prepared
  pub kept : ¬ IsUndone done → IsSomeAnd log (λ one. one.before ≡ notes)

-- the files of a set that was to be made over them were made long enough, and then kept or taken back; this was done over them
abbrev pub MakesOrUndoes : {F : Type 0} → (growing : Ghosts F) (Creates : (path : List ℕ) → Result (F × Before) CreateFault → Type 0)
    (Removes : (path : List ℕ) → Result (Unit {0}) Error → Type 0) (folder : List ℕ) (paths : List (List ℕ)) (geometry : Geometry)
    (Does : List (Option F) → Type 0) (was : List (Option F)) (notes_were : List Before) (is : List (Option F)) (log : Option UndoLog)
    (done : Result (Unit {0}) FolderFault) → Type 0
MakesOrUndoes growing Creates Removes folder paths geometry Does was notes_were is log done =
    EndsOver growing Removes paths (λ ready made notes. LeavesFiles growing Creates folder geometry was made notes_were notes ready) Does is log done

-- of the file of a slot alone it was noted that it was created, if it was, and no other was touched
pub record PreparesSlot {F : Type 0} (growing : Ghosts F) (Creates : (path : List ℕ) → Result (F × Before) CreateFault → Type 0) (folder : List ℕ) (slot : ℕ)
    (was is : List (Option F)) (notes_were notes_are : List Before) : Type 0 where
  pub others : AreOthersKept was is slot
  pub noted : IsNotedIn growing.told (Creates (slot_path folder slot)) 0 (before_in notes_were slot) (file_in was slot) (file_in is slot)
      (before_in notes_are slot)
  pub other_notes : AreOtherNotesKept notes_were notes_are slot

-- the file of a slot that was to be given a device was prepared, and then kept or taken back; this was done over the files
abbrev pub ReplacesOrUndoes : {F : Type 0} → (growing : Ghosts F) (Creates : (path : List ℕ) → Result (F × Before) CreateFault → Type 0)
    (Removes : (path : List ℕ) → Result (Unit {0}) Error → Type 0) (folder : List ℕ) (paths : List (List ℕ)) (slot : ℕ)
    (Does : List (Option F) → Type 0) (was : List (Option F)) (notes_were : List Before) (is : List (Option F)) (log : Option UndoLog)
    (done : Result (Unit {0}) FolderFault) → Type 0
ReplacesOrUndoes growing Creates Removes folder paths slot Does was notes_were is log done =
    EndsOver growing Removes paths (λ ready prepared notes. PreparesSlot growing Creates folder slot was prepared notes_were notes) Does is log done
