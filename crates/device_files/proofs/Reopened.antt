-- What becomes of the files of ten slots, as one of them is opened anew and all are made safe again.
use Rattle.std.proofs.Common.{◌≡◌, ◌∙◌, ℕ, Bool, List, Option, None, Some, refl, sym, subst, Result, Ok}
use Rattle.std.specs.Prelude.{IsTrue}
use Rattle.device_files.specs.declared.slot_files.OpenFault.{OpenFault}
use Rattle.device_files.specs.DeviceFiles.{IsKeptOrClosed, IsReopened, IsStillOpen}

module _ {F : Type 0} (tells : Bool) (told : F → List ℕ) where
  -- a file that was not touched
  pub kept_same : (old new : Option F) → new ≡ old → IsKeptOrClosed tells told old new
  kept_same None new same = subst (λ (file : Option F). IsKeptOrClosed tells told None file) (sym same) tt
  kept_same (Some old) new same = subst (λ (file : Option F). IsKeptOrClosed tells told (Some old) file) (sym same) (λ tell. refl)

  -- a file that was synced
  pub kept_synced : (Holds : F → F → Type 0) (old new : Option F) → IsStillOpen old new (λ was is. (IsTrue tells → told is ≡ told was) × Holds was is)
      → IsKeptOrClosed tells told old new
  kept_synced Holds None new still = subst (λ (file : Option F). IsKeptOrClosed tells told None file) (sym still) tt
  kept_synced Holds (Some old) (Some new) still = still.0
  kept_synced Holds (Some old) None still = absurd still

  -- a file that was opened, and then kept
  pub reopened_kept : (Opens : Result (Option F) OpenFault → Type 0) (opened new : Option F) → Opens (Ok opened) → IsKeptOrClosed tells told opened new
      → IsReopened tells told Opens new
  reopened_kept Opens opened None opens kept = tt
  reopened_kept Opens None (Some new) opens kept = absurd kept
  reopened_kept Opens (Some opened) (Some new) opens kept = (opened, opens, kept)

  -- one that was not opened
  pub reopened_none : (Opens : Result (Option F) OpenFault → Type 0) (new : Option F) → IsKeptOrClosed tells told None new → IsReopened tells told Opens new
  reopened_none Opens None kept = tt
  reopened_none Opens (Some new) kept = absurd kept

  -- the file of a slot that was opened, and then kept
  pub reopened_still : (Opens : Result (Option F) OpenFault → Type 0) (opened new : Option F) → IsReopened tells told Opens opened
      → IsKeptOrClosed tells told opened new → IsReopened tells told Opens new
  reopened_still Opens opened None reopened kept = tt
  reopened_still Opens None (Some new) reopened kept = absurd kept
  reopened_still Opens (Some opened) (Some new) reopened kept = (reopened.0, reopened.1, λ tell. kept tell ∙ reopened.2 tell)

  -- another file that was not touched, and then kept
  pub other_kept : (old mid new : Option F) → mid ≡ old → IsKeptOrClosed tells told mid new → IsKeptOrClosed tells told old new
  other_kept old mid new same kept = subst (λ (file : Option F). IsKeptOrClosed tells told file new) same kept
