-- Banks over files that are safe, by what their runs begin with: what the files hold, where files of their type tell that.
use Rattle.std.specs.Prelude.{◌<◌, ℕ, Bool, IsTrue, List, Ok, Option, Result}
use Rattle.sector_model.specs.declared.refusal.Refusal.{Refusal}
use Rattle.sector_model.specs.History.{History}
use Rattle.device_files.specs.declared.growing.Growing.{Ghosts}
use Rattle.device_files.specs.BankFiles.{AreAllSafe, BeginsWithFiles}
use Rattle.device_files.specs.declared.Reason.{Reason}
use Rattle.device_files.specs.declared.slot_files.OpenFault.{OpenFault}
use Rattle.device_files.specs.DeviceFiles.{IsMissingIn, IsNoTableIn, WereMadeSafe, file_in}
use Rattle.device_files.specs.Faults.{IsGivenUp}

-- a run begins with these files
abbrev pub BeginsOver : {F : Type 0} → (growing : Ghosts F) (left : F → List ℕ) → List (Option F) → History → Type 0
BeginsOver growing left files history = BeginsWithFiles growing.tells growing.told left files history

-- a run begins with some files, each of which is safe
abbrev pub BeginsSafely : {F : Type 0} → (growing : Ghosts F) (left : F → List ℕ) → History → Type 0
BeginsSafely growing left history = (files : List (Option _)) × AreAllSafe growing.is_safe files × BeginsOver growing left files history

-- a run begins with files that were opened so, and made safe
pub record BeginsOpened {F : Type 0} (growing : Ghosts F) (left : F → List ℕ) (Opens : (slot : ℕ) → Result (Option F) OpenFault → Type 0) (history : History)
    : Type 0 where
  pub files : List (Option F)
  pub unsynced : List Bool
  pub barred : List (Option Reason)
  pub made_safe : WereMadeSafe growing.tells growing.told growing.is_safe (IsGivenUp growing.has_failed growing.sync_failed) Opens files unsynced barred
  pub begins : BeginsOver growing left files history

-- a run begins with files that were opened so for reading alone
abbrev pub BeginsInspected : {F : Type 0} → (growing : Ghosts F) (left : F → List ℕ) (Inspects : (slot : ℕ) → Result (Option F) OpenFault → Type 0) → History
    → Type 0
BeginsInspected growing left Inspects history =
    (files : List (Option _)) × ((slot : ℕ) → slot < 10 → Inspects slot (Ok (file_in files slot))) × BeginsOver growing left files history

-- the table of a set, as the superblocks on these files choose it, calls a slot missing
abbrev pub IsMissingOver : {F : Type 0} → (growing : Ghosts F) (left : F → List ℕ) (id : List ℕ) → List (Option F) → ℕ → Type 0
IsMissingOver growing left id files slot = IsMissingIn (IsTrue growing.tells) (BeginsOver growing left files) id slot

-- on a bank over some safe files the table of a set could not be sought, for this refusal
abbrev pub IsNoTableOver : {F : Type 0} → (growing : Ghosts F) (left : F → List ℕ) (id : List ℕ) → Refusal → Type 0
IsNoTableOver growing left id refusal = IsNoTableIn (IsTrue growing.tells) (BeginsSafely growing left) id refusal
