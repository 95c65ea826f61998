-- What is promised of the files of slots by the calls that make one of them long enough or anew, or clear superblock places.
-- A disk is told by what its files tell, whether that is safe, whether a call of one failed, and what creating the file at a path came to.
use Rattle.std.specs.Prelude.{◌≡◌, ◌≢◌, ◌<◌, ◌≤◌, ℕ, Bool, List, Option, Result, Ok, IfErr, IfSome, IsSomeAnd, IsTrue, OnOk, length}
use Rattle.std.specs.declared.io.Error.{Error}
use Rattle.device_files.specs.declared.FolderFault.{FolderFault}
use Rattle.device_files.specs.declared.FolderFault.TheVariants.{NoFile}
use Rattle.device_files.specs.declared.locked.Before.{Before}
use Rattle.device_files.specs.declared.locked.Before.TheVariants.{Same}
use Rattle.device_files.specs.declared.slot_files.CreateFault.{CreateFault}
use Rattle.device_files.specs.DeviceFiles.{AreOtherNotesKept, AreOthersKept, Begins, HasMade, IsCreated, IsNotedOf, IsRenewedTo, IsStillOpen, IsTakenBack}
use Rattle.device_files.specs.DeviceFiles.{IsTakenBackOrFailed, StaysOrMade, before_in}
use Rattle.device_files.specs.DeviceFiles.{file_in, lengthened, path_in, slot_path}
use Rattle.device_files.specs.Faults.{IsClearingFault, IsFailedCreating, IsFileFaultOf, IsUnmadeFile}
use Rattle.device_files.specs.Superblocks.{without_places}

-- The file of a slot, the one that was there or one that is created at its path, is made so many bytes long: no byte of it is changed, what it was is
-- noted, and no other slot is touched.
abbrev pub LengthensSlot : {F : Type 0} → (tells : Bool) (told : F → List ℕ) (IsSafe HasFailed : F → Type 0)
    (Creates : (path : List ℕ) → Result (F × Before) CreateFault → Type 0) → (folder : List ℕ) (slot bytes : ℕ)
    → (was is : List (Option F)) (notes_were notes_are : List Before) → Result (Unit {0}) FolderFault → Type 0
LengthensSlot tells told IsSafe HasFailed Creates folder slot bytes was is notes_were notes_are result = record {
  long : IsTrue tells → OnOk result (HasMade (IsCreated (Creates (slot_path folder slot))) (file_in was slot) (file_in is slot)
      (λ old new. told new ≡ lengthened bytes (told old)));
  kept : IsTrue tells → StaysOrMade (IsCreated (Creates (slot_path folder slot))) (file_in was slot) (file_in is slot)
      (λ old new. Begins (told old) (told new));
  noted : IsTrue tells → IsNotedOf told (Creates (slot_path folder slot)) bytes (before_in notes_were slot) (file_in was slot) (file_in is slot)
      (before_in notes_are slot);
  safe : OnOk result (IsSomeAnd (file_in is slot) IsSafe);
  others : AreOthersKept was is slot;
  other_notes : AreOtherNotesKept notes_were notes_are slot;
  fault : IfErr result (IsFileFaultOf slot);
  blamed : IfErr result (λ fault. fault ≢ NoFile slot → IsFailedCreating (λ other. Creates (slot_path folder other)) fault);
  unmade : IfErr result (IsUnmadeFile (λ other. Creates (slot_path folder other)) (λ other. IsSomeAnd (file_in is other) HasFailed));
}

-- The file of a slot, the one that was there or one that is created at its path, is made anew where it is shorter than so many bytes, and no other is
-- touched.
abbrev pub RenewsSlot : {F : Type 0} → (tells : Bool) (told : F → List ℕ) (IsSafe HasFailed : F → Type 0)
    (Creates : (path : List ℕ) → Result (F × Before) CreateFault → Type 0) → (folder : List ℕ) (slot bytes : ℕ)
    → (was is : List (Option F)) → Result (Unit {0}) FolderFault → Type 0
RenewsSlot tells told IsSafe HasFailed Creates folder slot bytes was is result = record {
  renewed : IsTrue tells → OnOk result (HasMade (IsCreated (Creates (slot_path folder slot))) (file_in was slot) (file_in is slot)
      (λ old new. IsRenewedTo bytes (told old) (told new)));
  safe : OnOk result (IsSomeAnd (file_in is slot) IsSafe);
  others : AreOthersKept was is slot;
  unmade : IfErr result (IsUnmadeFile (λ other. Creates (slot_path folder other)) (λ other. IsSomeAnd (file_in is other) HasFailed));
}

-- Where clearing stopped at a slot, the files of lower slots from the first on are cleared, and those of higher ones are not touched.
abbrev pub IsClearedUpTo : {F : Type 0} → (tells : Bool) (told : F → List ℕ) → (first : ℕ) → (was is : List (Option F)) → FolderFault → Type 0
IsClearedUpTo tells told first was is (NoFile slot) = (IsTrue tells → (lower : ℕ) → first ≤ lower → lower < slot
    → IsStillOpen (file_in was lower) (file_in is lower) (λ old new. told new ≡ without_places (told old)))
    × ((higher : ℕ) → slot < higher → file_in is higher ≡ file_in was higher)
IsClearedUpTo tells told first was is fault = ⊥

-- The superblock places of the files of slots from one on are cleared, and each of these files is safe; no file is made longer or shorter, and those of lower
-- slots are not touched.
abbrev pub ClearsPlaces : {F : Type 0} → (tells : Bool) (told : F → List ℕ) (IsSafe HasFailed : F → Type 0) → (first : ℕ) → (was is : List (Option F))
    → Result (Unit {0}) FolderFault → Type 0
ClearsPlaces tells told IsSafe HasFailed first was is result = record {
  cleared : IsTrue tells → OnOk result ((slot : ℕ) → first ≤ slot → slot < 10
      → IsStillOpen (file_in was slot) (file_in is slot) (λ old new. told new ≡ without_places (told old)));
  safe : OnOk result ((slot : ℕ) → first ≤ slot → slot < 10 → IfSome (file_in is slot) IsSafe);
  kept : (slot : ℕ) → slot < first → file_in is slot ≡ file_in was slot;
  open_still : (slot : ℕ) → IsStillOpen (file_in was slot) (file_in is slot) (λ old new. IsTrue tells → length (told new) ≡ length (told old));
  long : length is ≡ length was;
  fault : IfErr result (IsClearingFault HasFailed first is);
  stopped : IfErr result (IsClearedUpTo tells told first was is);
}

-- What was noted of the files of ten slots is taken back: of each where that is answered well; and of each whose own call does not fail at any rate.
abbrev pub TakesBack : {F : Type 0} → (tells : Bool) (told : F → List ℕ) (HasFailed : F → Type 0)
    (Removes : (path : List ℕ) → Result (Unit {0}) Error → Type 0) → (paths : List (List ℕ)) (was is : List (Option F)) (notes : List Before)
    → Result (Unit {0}) Error → Type 0
TakesBack tells told HasFailed Removes paths was is notes result = record {
  undone : IsTrue tells → OnOk result ((slot : ℕ) → slot < 10
      → IsTakenBack told (Removes (path_in paths slot) (Ok tt)) (before_in notes slot) (file_in was slot) (file_in is slot));
  each : (slot : ℕ) → slot < 10
      → IsTakenBackOrFailed tells told HasFailed (Removes (path_in paths slot)) (before_in notes slot) (file_in was slot) (file_in is slot);
  same : (slot : ℕ) → before_in notes slot ≡ Same → file_in is slot ≡ file_in was slot;
  long : length is ≡ length was;
}
