-- What was made over the files of a folder is taken back where a command is not done, and only there.
use Rattle.std.proofs.Common.{◌≡◌, ◌≢◌, ◌⊎◌, ◌∙◌, ap, inl, inr, refl, sym, subst, ℕ, List, ◌++◌, Option, Some, drop, length, take}
use Rattle.std.proofs.Math.Seq.{take-append_seam}
use Rattle.std.proofs.lemmas.Bool.{false≢true}
use Rattle.std.specs.Prelude.{Err, IfErr, IsSomeAnd, Ok, OnOk, Result, ⊤, is_err}
use Rattle.std.specs.declared.io.Error.{Error}
use Rattle.sector_model.specs.declared.refusal.Refusal.{Refusal}
use Rattle.sector_model.specs.declared.refusal.Refusal.TheVariants.{WriteFault}
use Rattle.device_files.specs.declared.FolderFault.{FolderFault}
use Rattle.device_files.specs.declared.FolderFault.TheVariants.{OtherSet, Refused}
use Rattle.device_files.specs.declared.growing.Growing.{Ghosts}
use Rattle.device_files.specs.declared.locked.Before.{Before}
use Rattle.device_files.specs.declared.locked.UndoLog.{UndoLog}
use Rattle.device_files.specs.SlotCalls.{TakesBack}
use Rattle.raidtool.specs.Done.{IsUndone}
use Rattle.raidtool.specs.FolderFiles.{AreTakenBack, EndsOver}
use Rattle.raidtool.specs.Replacing.{Replaces}
use Rattle.raidtool.specs.Stops.{IsPreparingRefusal, IsSlotFault, IsStoppedOver, IsUnmade}

-- of files that were taken back none is lacking
pub taken_back_whole : {F : Type 0} (growing : Ghosts F) (Removes : (path : List ℕ) → Result (Unit {0}) Error → Type 0) (paths : List (List ℕ))
    (notes : List Before) (was is : List (Option F)) (len : ℕ) (result : Result (Unit {0}) Error)
    → TakesBack growing.tells growing.told growing.has_failed Removes paths was is notes result → length was ≡ len
    → AreTakenBack growing Removes paths notes was (take len (is ++ drop (length is) was))
taken_back_whole growing Removes paths notes was is len result taken whole =
    subst (AreTakenBack growing Removes paths notes was)
    (sym (ap (λ n. take n (is ++ drop (length is) was)) (sym whole ∙ sym taken.long) ∙ take-append_seam is (drop (length is) was)))
    (record { result = result; taken_back = taken })

-- a command over files was refused before it was begun, and they are taken back
pub ends_unready : {F : Type 0} (growing : Ghosts F) (Removes : (path : List ℕ) → Result (Unit {0}) Error → Type 0) (paths : List (List ℕ))
    (Ready : (ready : Result (Unit {0}) FolderFault) (is : List (Option F)) (notes : List Before) → Type 0) (Does : List (Option F) → Type 0)
    (prepared is : List (Option F)) (notes : List Before) (log : Option UndoLog) (fault : FolderFault) → Ready (Err fault) prepared notes
    → IsUndone (Err fault) → AreTakenBack growing Removes paths notes prepared is → EndsOver growing Removes paths Ready Does is log (Err fault)
ends_unready growing Removes paths Ready Does prepared is notes log fault readied undone taken = record {
  prepared = prepared;
  notes = notes;
  ready = Err fault;
  readied = readied;
  refused = λ other same. (same, taken);
  undone = λ _. (prepared, taken);
  does = λ done. absurd (done undone);
  kept = λ done. absurd (done undone);
}

-- it was begun, and its files are kept or taken back
pub ends_begun : {F : Type 0} (growing : Ghosts F) (Removes : (path : List ℕ) → Result (Unit {0}) Error → Type 0) (paths : List (List ℕ))
    (Ready : (ready : Result (Unit {0}) FolderFault) (is : List (Option F)) (notes : List Before) → Type 0) (Does : List (Option F) → Type 0)
    (prepared left is : List (Option F)) (notes : List Before) (its : UndoLog) (log : Option UndoLog) (done : Result (Unit {0}) FolderFault) → Ready (Ok tt)
    prepared notes → its.before ≡ notes
    → (¬ IsUndone done → Does prepared) → (¬ IsUndone done → log ≡ Some its) → (IsUndone done → AreTakenBack growing Removes paths its.before left is)
    → EndsOver growing Removes paths Ready Does is log done
ends_begun growing Removes paths Ready Does prepared left is notes its log done readied same does kept undone = record {
  prepared = prepared;
  notes = notes;
  ready = Ok tt;
  readied = readied;
  refused = λ fault never. absurd (false≢true (ap is_err never));
  undone = λ not. (left, subst (λ (before : List Before). AreTakenBack growing Removes paths before left is) same (undone not));
  does = does;
  kept = λ well. subst (λ one. IsSomeAnd one (λ log. log.before ≡ notes)) (sym (kept well)) same;
}

-- a set was not made for this fault: it is none of telling that it was
pub unmade_undone : (members : ℕ) (fault : FolderFault) → IsUnmade members fault → IsUndone (Err fault)
unmade_undone members fault is = λ same. never_told (subst (IsUnmade members) same is)
  where
    never_told : IsUnmade members (Refused WriteFault) → ⊥
    never_told (inl (inl is)) = cc
    never_told (inl (inr (inl is))) = cc
    never_told (inl (inr (inr is))) = cc
    never_told (inr is) = cc

-- the file of a slot could not be prepared for this fault: it is none of telling that it was
pub unprepared_undone : (slot : ℕ) (fault : FolderFault) → IsSlotFault IsPreparingRefusal slot fault → IsUndone (Err fault)
unprepared_undone slot fault is = λ same. never_told (subst (IsSlotFault IsPreparingRefusal slot) same is)
  where
    never_told : IsSlotFault IsPreparingRefusal slot (Refused WriteFault) → ⊥
    never_told (inl is) = cc
    never_told (inr is) = cc

-- a set that was to be made was made, where it is not called undone
pub made_well : (members : ℕ) (done : Result (Unit {0}) FolderFault) (Does : Type 0) → OnOk done Does → IfErr done (IsStoppedOver members) → ¬ IsUndone done
    → Does
made_well members (Ok value) Does made stopped well = made
made_well members (Err fault) Does made stopped well = absurd (well (unmade_undone members fault (stopped_unmade members fault stopped)))
  where
    stopped_unmade : (members : ℕ) (fault : FolderFault) → IsStoppedOver members fault → IsUnmade members fault
    stopped_unmade members (OtherSet slot) is = is
    stopped_unmade members (Refused refusal) is = is
    stopped_unmade members fault is = absurd is

is_write_fault : (fault : FolderFault) → (fault ≡ Refused WriteFault) ⊎ (fault ≢ Refused WriteFault)
is_write_fault (Refused WriteFault) = inl refl
is_write_fault fault = inr (λ same. cc)

-- a slot that was to be given a device was given it, where it is not called undone
pub replaced_well : {W : Type 0} (Replaced : Type 0) (Cause : Refusal → Type 0) (Blamed : FolderFault → Type 0) (contents : W → Option (List ℕ)) (slot : ℕ)
    (was is : W) (done : Result (Unit {0}) FolderFault) → Replaces Replaced ⊤ Cause Blamed contents slot was is done → ¬ IsUndone done → Replaced
replaced_well Replaced Cause Blamed contents slot was is (Ok value) replaces well = replaces.replaced
replaced_well Replaced Cause Blamed contents slot was is (Err fault) replaces well = elim (is_write_fault fault) [
  | inl same ↦ (replaces.cut same).0
  | inr other ↦ absurd (well other)
]
