-- Requests that are served over the device files of a folder: in one run over a bank of them, or in several, one after another. Another one begins where a
-- slot is to be given a device.
use Rattle.std.specs.Prelude.{◌≡◌, ◌≤◌, ◌+◌, ◌^◌, ◌⊎◌, ℕ, IsTrue, List, Option, Result, Ok, Err}
use Rattle.sector_model.specs.declared.refusal.Refusal.{Refusal}
use Rattle.sector_model.specs.declared.refusal.Refusal.TheVariants.{Memory, ReadFault}
use Rattle.recovery.specs.Making.{BankView}
use Rattle.device_files.specs.declared.growing.Growing.{Ghosts}
use Rattle.device_files.specs.declared.slot_files.OpenFault.{OpenFault}
use Rattle.device_files.specs.BankFiles.{AreAllSafe}
use Rattle.device_files.specs.DeviceFiles.{IsNoTableIn, IsReopened, file_in, slot_path}
use Rattle.set_commands.specs.Run.{Streams, streams}
use Rattle.server.specs.OnBanks.{ServesReplaced, ServesSet, TellsLast}
use Rattle.server.specs.declared.ending.Ending.{Ending}
use Rattle.server.specs.declared.ending.Ending.TheVariants.{Input, Replace}
use Rattle.raidtool.specs.Begun.{BeginsOpened, BeginsOver, IsMissingOver}
use Rattle.raidtool.specs.FolderFiles.{WereTaken}

-- the first run: there was no memory for a bank, and nothing was read or written; or the set on a bank was served whose run begins with these files
pub data ServesFirst {F : Type 0} (growing : Ghosts F) (left : F → List ℕ) (id : List ℕ) (files : List (Option F)) (was : Streams)
    : (is : Streams) → Result Ending Refusal → Type 0 where
  no_memory : ServesFirst growing left id files was was (Err Memory)
  on_first : {is : Streams} {result : Result Ending Refusal} (bank : BankView) → BeginsOver growing left files bank.history
      → ServesSet (IsTrue growing.tells) id bank was is result → ServesFirst growing left id files was is result

-- a further run over some files: there was no memory for a bank, which is the last line; or a slot of the set on one was given a device, and the set was served
pub data ServesReady {F : Type 0} (growing : Ghosts F) (left : F → List ℕ) (id : List ℕ) (slot : ℕ) (files : List (Option F)) (was : Streams)
    : (is : Streams) → Result Ending Refusal → Type 0 where
  no_bank : {contents : Option (List ℕ)} {result : Result Ending Refusal} → TellsLast was.contents contents Memory result
      → ServesReady growing left id slot files was (streams was.remaining contents) result
  on_bank : {is : Streams} {result : Result Ending Refusal} (bank : BankView) → BeginsOver growing left files bank.history
      → ServesReplaced (IsTrue growing.tells) id slot bank was is result → ServesReady growing left id slot files was is result

-- so it was over files each of which is safe, of which that of the slot, if there is one, was opened so
pub record ServesAgain {F : Type 0} (growing : Ghosts F) (left : F → List ℕ) (Opens : (slot : ℕ) → Result (Option F) OpenFault → Type 0) (id : List ℕ)
    (slot : ℕ) (was is : Streams) (result : Result Ending Refusal) : Type 0 where
  pub files : List (Option F)
  pub safe : AreAllSafe growing.is_safe files
  pub reopened : IsReopened growing.tells growing.told (Opens slot) (file_in files slot)
  pub ready : ServesReady growing left id slot files was is result

-- From what a run came to, after so many others, to the end: it ends with the input, or as it was refused; or a slot is to be given a device, and then another
-- run follows.
pub data ServesOnward {F : Type 0} (growing : Ghosts F) (left : F → List ℕ) (Opens : (slot : ℕ) → Result (Option F) OpenFault → Type 0) (id : List ℕ)
    : (runs : ℕ) (was is : Streams) → Result Ending Refusal → Result (Unit {0}) Refusal → Type 0 where
  input_ended : {runs : ℕ} {was : Streams} → ServesOnward growing left Opens id runs was was (Ok Input) (Ok tt)
  was_refused : {runs : ℕ} {was : Streams} (refusal : Refusal) → ServesOnward growing left Opens id runs was was (Err refusal) (Err refusal)
  then_again : {runs : ℕ} {was is : Streams} {result : Result (Unit {0}) Refusal} (slot : ℕ) (between : Streams) (ending : Result Ending Refusal)
      → ServesAgain growing left Opens id slot was between ending → ServesOnward growing left Opens id (runs + 1) between is ending result
      → ServesOnward growing left Opens id runs was is (Ok (Replace slot)) result
  too_many : {runs : ℕ} {was : Streams} (slot : ℕ) → 2 ^ 64 ≤ runs + 1
      → ServesOnward growing left Opens id runs was was (Ok (Replace slot)) (Err ReadFault)

-- what all runs came to, by the last: where that asks for a device, there were too many
abbrev pub IsLastOf : Result Ending Refusal → Result (Unit {0}) Refusal → Type 0
IsLastOf (Ok Input) result = result ≡ Ok tt
IsLastOf (Ok (Replace slot)) result = result ≡ Err ReadFault
IsLastOf (Err refusal) result = result ≡ Err refusal

-- all runs
pub record ServesRuns {F : Type 0} (growing : Ghosts F) (left : F → List ℕ) (Opens : (slot : ℕ) → Result (Option F) OpenFault → Type 0) (id : List ℕ)
    (files : List (Option F)) (was is : Streams) (result : Result (Unit {0}) Refusal) : Type 0 where
  pub between : Streams
  pub ending : Result Ending Refusal
  pub first : ServesFirst growing left id files was between ending
  pub onward : ServesOnward growing left Opens id 0 between is ending result

-- The files of a folder were opened, each that is there is safe, and requests were served over them until the input ended. One that is there and could not be
-- opened was passed over only where the set, by the table on these files, calls its slot missing.
pub record ServesFolder {F : Type 0} (growing : Ghosts F) (left : F → List ℕ) (Opens : (path : List ℕ) → Result (Option F) OpenFault → Type 0)
    (folder : List ℕ) (id : List ℕ) (was is : Streams) : Type 0 where
  pub taken : WereTaken growing (λ slot. Opens (slot_path folder slot)) (λ _. ⊥) (IsMissingOver growing left id)
  pub runs : ServesRuns growing left (λ slot. Opens (slot_path folder slot)) id taken.files was is (Ok tt)

-- runs over some safe files were refused so
pub record RefusesRuns {F : Type 0} (growing : Ghosts F) (left : F → List ℕ) (Opens : (slot : ℕ) → Result (Option F) OpenFault → Type 0) (id : List ℕ)
    (refusal : Refusal) : Type 0 where
  pub files : List (Option F)
  pub was : Streams
  pub is : Streams
  pub safe : AreAllSafe growing.is_safe files
  pub runs : ServesRuns growing left Opens id files was is (Err refusal)

-- why serving was refused: in one of its runs, or in seeking the table of its set, for whether a slot is missing whose file can't be opened
abbrev pub IsCauseOfServing : {F : Type 0} → (growing : Ghosts F) (left : F → List ℕ) (Opens : (slot : ℕ) → Result (Option F) OpenFault → Type 0)
    → (id : List ℕ) → Refusal → Type 0
IsCauseOfServing growing left Opens id refusal = RefusesRuns growing left Opens id refusal
    ⊎ IsNoTableIn (IsTrue growing.tells) (BeginsOpened growing left Opens) id refusal
