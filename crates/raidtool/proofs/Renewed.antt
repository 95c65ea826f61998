-- What is blamed where the file of a slot could not be made anew.
use Rattle.std.proofs.Common.{◌≡◌, inl, inr, refl, ℕ, List, Option, Some, None}
use Rattle.std.specs.Prelude.{◌≢◌, IsSomeAnd, Result}
use Rattle.device_files.specs.declared.FolderFault.{FolderFault}
use Rattle.device_files.specs.declared.FolderFault.TheVariants.{InUse, NoFile, Refused}
use Rattle.device_files.specs.declared.growing.Growing.{Ghosts}
use Rattle.device_files.specs.declared.locked.Before.{Before}
use Rattle.device_files.specs.declared.slot_files.CreateFault.{CreateFault}
use Rattle.device_files.specs.declared.slot_files.OpenFault.{OpenFault}
use Rattle.device_files.specs.DeviceFiles.{AreOtherNotesKept, AreOthersKept, IsNotedOf, before_in, file_in, slot_path}
use Rattle.device_files.specs.Faults.{IsFailedCreating, IsFileFaultOf, IsUnmadeFile}
use Rattle.sector_model.specs.declared.refusal.Refusal.{Refusal}
use Rattle.std.proofs.lemmas.Result.{IfErr-weaker, on_ok_weaker}
use Rattle.raidtool.specs.FolderFiles.{PreparesSlot}
use Rattle.raidtool.specs.Replacing.{Replaces}
use Rattle.raidtool.specs.Stops.{IsBlamed, IsRefusal}
use Rattle.raidtool.proofs.Causes.{caused_as}

-- there is a file of which this holds
has_such : {F : Type 0} (P : F → Type 0) (file : Option F) → IsSomeAnd file P → (one : F) × P one
has_such P (Some one) is = (one, is)
has_such P None is = absurd is

-- what is none of them is none
pub is_none_of : {A : Type 0} (found : Option A) → ((one : A) → found ≡ Some one → ⊥) → found ≡ None
is_none_of (Some one) never = absurd (never one refl)
is_none_of None never = refl

-- a file of which it was noted that it was created was prepared
pub prepared_by : {F : Type 0} (growing : Ghosts F) (Creates : (path : List ℕ) → Result (F × Before) CreateFault → Type 0) (folder : List ℕ) (slot : ℕ)
    (was is : List (Option F)) (notes_were notes_are : List Before) → AreOthersKept was is slot
    → IsNotedOf growing.told (Creates (slot_path folder slot)) 0 (before_in notes_were slot) (file_in was slot) (file_in is slot) (before_in notes_are slot)
    → AreOtherNotesKept notes_were notes_are slot → PreparesSlot growing Creates folder slot was is notes_were notes_are
prepared_by growing Creates folder slot was is notes_were notes_are others noted other_notes =
    record { others = others; noted = inl noted; other_notes = other_notes }

-- so is one that is not touched
pub prepared_already : {F : Type 0} (growing : Ghosts F) (Creates : (path : List ℕ) → Result (F × Before) CreateFault → Type 0) (folder : List ℕ) (slot : ℕ)
    (files : List (Option F)) (notes : List Before) → PreparesSlot growing Creates folder slot files files notes notes
prepared_already growing Creates folder slot files notes =
    record { others = λ other apart. refl; noted = inr (refl, refl); other_notes = λ other apart. refl }

-- the file that is named could not be created, or a call of it failed
pub renewed_blamed : {F Made : Type 0} (Opens : (path : List ℕ) → Result (Option F) OpenFault → Type 0)
    (Creates : (path : List ℕ) → Result Made CreateFault → Type 0) (HasFailed : F → Type 0) (folder : List ℕ) (slot : ℕ) (files : List (Option F))
    (fault : FolderFault) → IsFileFaultOf slot fault
    → (fault ≢ NoFile slot → IsFailedCreating (λ other. Creates (slot_path folder other)) fault)
    → IsUnmadeFile (λ other. Creates (slot_path folder other)) (λ other. IsSomeAnd (file_in files other) HasFailed) fault
    → IsBlamed Opens Creates HasFailed folder fault
renewed_blamed Opens Creates HasFailed folder slot files (NoFile other) is blamed unmade = elim unmade [
  | inl failed ↦ inl failed
  | inr failed ↦ inr (has_such HasFailed (file_in files other) failed)
]
renewed_blamed Opens Creates HasFailed folder slot files (InUse other) is blamed unmade = inr (blamed (λ same. cc))
renewed_blamed Opens Creates HasFailed folder slot files (Refused refusal) is blamed unmade = tt
renewed_blamed Opens Creates HasFailed folder slot files fault is blamed unmade = absurd is

-- no refusal blames a file
pub refusal_blamed : {F Made : Type 0} (Opens : (path : List ℕ) → Result (Option F) OpenFault → Type 0)
    (Creates : (path : List ℕ) → Result Made CreateFault → Type 0) (HasFailed : F → Type 0) (folder : List ℕ) (fault : FolderFault) → IsRefusal fault
    → IsBlamed Opens Creates HasFailed folder fault
refusal_blamed Opens Creates HasFailed folder (Refused refusal) is = tt
refusal_blamed Opens Creates HasFailed folder fault is = absurd is

-- where more is known of what was done, of why it was refused, and of what is blamed
pub replaces_more : {W : Type 0} (Replaced More Synced Safe : Type 0) (Cause Wider : Refusal → Type 0) (Blamed Also : FolderFault → Type 0)
    (contents : W → Option (List ℕ)) (slot : ℕ) (was is : W) (result : Result (Unit {0}) FolderFault) → (Replaced → More) → (Synced → Safe)
    → ((refusal : Refusal) → Cause refusal → Wider refusal) → ((fault : FolderFault) → Blamed fault → Also fault)
    → Replaces Replaced Synced Cause Blamed contents slot was is result → Replaces More Safe Wider Also contents slot was is result
replaces_more Replaced More Synced Safe Cause Wider Blamed Also contents slot was is result more safe wider also replaces = record {
  synced = on_ok_weaker result safe replaces.synced;
  replaced = on_ok_weaker result more replaces.replaced;
  written = replaces.written;
  fault = replaces.fault;
  cause = IfErr-weaker result _ _ (λ fault cause. caused_as Cause Wider fault wider cause) replaces.cause;
  blamed = IfErr-weaker result _ _ also replaces.blamed;
  unwritten = replaces.unwritten;
  cut = IfErr-weaker result _ _ (λ fault both same. (more (both same).0, (both same).1)) replaces.cut;
}
