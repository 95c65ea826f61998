-- What holds of the files of ten slots, as one after another is made safe, where that failed, and as one after another is passed over.
use Rattle.std.proofs.Common.{◌≡◌, ◌≢◌, ◌<◌, ◌+◌, ℕ, Bool, List, Option, None, Some, IfSome, arith, below_more, subst, sym}
use Rattle.std.specs.Prelude.{IsSomeAnd, Ok, Result, suc}
use Rattle.device_files.specs.declared.FolderFault.{FolderFault}
use Rattle.device_files.specs.declared.FolderFault.TheVariants.{NotSafe}
use Rattle.device_files.specs.declared.slot_files.OpenFault.{OpenFault}
use Rattle.device_files.specs.BankFiles.{AreAllSafe}
use Rattle.device_files.specs.DeviceFiles.{AreOtherFlagsKept, AreOthersKept, IsMadeSafe, IsOpenedAs, WereMadeSafe, barred_in, file_in, flag_in}
use Rattle.device_files.specs.Faults.{IsFailedOpening, IsOpenFault, IsUnsafe, IsUnsafeSlot, PassesBelow, TellsPassed}
use Rattle.device_files.specs.declared.Reason.{Reason}

-- what holds of each file and mark below a slot, and of its own, where each other is as it was
pub safe_next : {F : Type 0} (P : ℕ → Option F → Bool → Type 0) (was is : List (Option F)) (flags_were flags_are : List Bool) (slot : ℕ)
    → ((k : ℕ) → k < slot → P k (file_in was k) (flag_in flags_were k))
    → AreOthersKept was is slot → AreOtherFlagsKept flags_were flags_are slot → P slot (file_in is slot) (flag_in flags_are slot)
    → (k : ℕ) → k < slot + 1 → P k (file_in is k) (flag_in flags_are k)
safe_next P was is flags_were flags_are slot below others other_flags here =
    below_more (λ k. P k (file_in is k) (flag_in flags_are k)) slot
    (λ k under. let apart : k ≢ slot = omega (arith, under) in
    subst (λ (flag : Bool). P k (file_in is k) flag) (sym (other_flags k apart))
    (subst (λ file. P k file (flag_in flags_were k)) (sym (others k apart)) (below k under))) here

-- what stops that is a fault of opening
pub unsafe_fault : {F : Type 0} (HasFailed : F → Type 0) (files : List (Option F)) (fault : FolderFault) → IsUnsafe HasFailed files fault
    → IsOpenFault fault
unsafe_fault HasFailed files (NotSafe slot shortage) is = is.0
unsafe_fault HasFailed files fault is = absurd is

-- of the file of a slot, as it was at first
pub unsafe_at : {F : Type 0} (HasFailed : F → Type 0) (files : List (Option F)) (slot : ℕ) (file : Option F) (fault : FolderFault) → slot < 10
    → file ≡ file_in files slot → IsUnsafeSlot HasFailed slot file fault → IsUnsafe HasFailed files fault
unsafe_at HasFailed files slot file (NotSafe other shortage) under same is =
    (rw is.0 under, subst (λ (k : ℕ). IsSomeAnd (file_in files k) HasFailed) (sym is.0) (subst (λ one. IsSomeAnd one HasFailed) same is.1))
unsafe_at HasFailed files slot file fault under same is = absurd is

-- a file that is there was opened, and could be
opened_so : {F : Type 0} (Opens : Result (Option F) OpenFault → Type 0) (HasFailed : F → Type 0) (file : Option F) (reason : Option Reason)
    → IsOpenedAs Opens file reason → IsSomeAnd file HasFailed → (opened : F) × Opens (Ok (Some opened)) × HasFailed opened
opened_so Opens HasFailed (Some opened) None is failed = (opened, is, failed)
opened_so Opens HasFailed (Some opened) (Some reason) is failed = cc
opened_so Opens HasFailed None reason is failed = absurd failed

-- and it is named because a call of a file failed
pub unsafe_blamed : {F : Type 0} (Opens : (slot : ℕ) → Result (Option F) OpenFault → Type 0) (HasFailed : F → Type 0) (files : List (Option F))
    (barred : List (Option Reason)) (fault : FolderFault)
    → ((slot : ℕ) → slot < 10 → IsOpenedAs (Opens slot) (file_in files slot) (barred_in barred slot))
    → IsUnsafe HasFailed files fault → IsFailedOpening Opens HasFailed fault
unsafe_blamed Opens HasFailed files barred (NotSafe slot shortage) opens is =
    opened_so (Opens slot) HasFailed (file_in files slot) (barred_in barred slot) (opens slot is.0) is.1
unsafe_blamed Opens HasFailed files barred fault opens is = absurd is

-- what is told of each slot below one, and of that one
pub passes_next : {E : Type 0} (contents : E → Option (List ℕ)) (barred : List (Option Reason)) (slot : ℕ) (old mid new : E)
    → PassesBelow contents barred slot old mid → TellsPassed contents slot (barred_in barred slot) mid new → PassesBelow contents barred (slot + 1) old new
passes_next contents barred slot old mid new below here =
    let on : suc slot ≡ slot + 1 = omega arith in
    subst (λ (end : ℕ). PassesBelow contents barred end old new) on (mid, below, here)

-- a file that was made safe, and is there, is safe
safe_still : {F : Type 0} (tells : Bool) (told : F → List ℕ) (IsSafe HasFailed : F → Type 0) (old new : Option F) (flag : Bool)
    → IsMadeSafe tells told IsSafe HasFailed old new flag → IfSome new IsSafe
safe_still tells told IsSafe HasFailed None new flag is = rw is.0 tt
safe_still tells told IsSafe HasFailed (Some old) (Some new) flag is = is.0.0
safe_still tells told IsSafe HasFailed (Some old) None flag is = tt

-- so each is that was opened
pub all_safe : {F : Type 0} (tells : Bool) (told : F → List ℕ) (IsSafe HasFailed : F → Type 0) (Opens : (slot : ℕ) → Result (Option F) OpenFault → Type 0)
    (files : List (Option F)) (unsynced : List Bool) (barred : List (Option Reason))
    → WereMadeSafe tells told IsSafe HasFailed Opens files unsynced barred → AreAllSafe IsSafe files
all_safe tells told IsSafe HasFailed Opens files unsynced barred made = λ slot under.
    safe_still tells told IsSafe HasFailed (file_in made.opened slot) (file_in files slot) (flag_in unsynced slot) (made.made_safe slot under)
