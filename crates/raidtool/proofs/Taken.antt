-- What follows for a command from files that were opened and made safe, and where that failed.
use Rattle.std.proofs.Common.{◌≡◌, ◌∙◌, ◌<◌, ◌≤◌, ◌+◌, ℕ, inl, inr, refl, Bool, List, [], Option, Some, None, Ok, Err, IsSome, OnOk, arith, subst}
use Rattle.std.proofs.Common.{sym, true, false}
use Rattle.std.proofs.lemmas.Bool.{false≢true}
use Rattle.std.specs.Prelude.{Result, zero, suc}
use Rattle.std.specs.declared.io.Error.{Error}
use Rattle.sector_model.specs.declared.refusal.Refusal.{Refusal}
use Rattle.array_io.specs.Believed.Views.{EndsIt}
use Rattle.device_files.specs.declared.growing.Growing.{Ghosts}
use Rattle.device_files.specs.declared.FolderFault.{FolderFault}
use Rattle.device_files.specs.declared.FolderFault.TheVariants.{NoFile, NotOpened, Refused}
use Rattle.device_files.specs.declared.Reason.{Reason}
use Rattle.device_files.specs.declared.slot_files.CreateFault.{CreateFault}
use Rattle.device_files.specs.declared.slot_files.OpenFault.{OpenFault}
use Rattle.device_files.specs.DeviceFiles.{IsMadeSafe, IsOpenedAs, WereMadeSafe, barred_in, file_in, flag_in, slot_path}
use Rattle.device_files.specs.Faults.{IsBarredIn, IsGivenUp, IsPassingFault, IsToldLine, IsUnsyncedIn, PassesBelow}
use Rattle.raidtool.specs.FolderFiles.{WereTaken}
use Rattle.set_commands.specs.Serving.{IsReplaceEnd}
use Rattle.raidtool.specs.Stops.{HasPassed, IsBlamed, IsSlotFault, IsToldAfter, IsUnmade}

-- what holds at any rate holds where a call is answered well
pub at_any_rate : {T E P : Type 0} (result : Result T E) → P → OnOk result P
at_any_rate (Ok value) holds = holds
at_any_rate (Err error) holds = tt

-- where it is marked, a call of a file failed
pub failed_of : {F : Type 0} (tells : Bool) (told : F → List ℕ) (IsSafe HasFailed : F → Type 0) (old new : Option F) (flag : Bool)
    → IsMadeSafe tells told IsSafe HasFailed old new flag → flag ≡ true → (file : F) × HasFailed file
failed_of tells told IsSafe HasFailed None new flag is marked = absurd (false≢true (sym is.1 ∙ marked))
failed_of tells told IsSafe HasFailed (Some old) (Some new) flag is marked = absurd (false≢true (sym is.1 ∙ marked))
failed_of tells told IsSafe HasFailed (Some old) None flag is marked = (is.0.0, is.0.1)

-- the files were taken, and none of which this holds was given up, where no such slot is marked; and this was done over them
pub taken_over : {F : Type 0} (growing : Ghosts F) (Opens : (slot : ℕ) → Result (Option F) OpenFault → Type 0) (files : List (Option F)) (unsynced : List Bool)
    (barred : List (Option Reason)) (IsNeeded : ℕ → Type 0) (MayLack : List (Option F) → ℕ → Type 0) (Over : List (Option F) → Type 0)
    → WereMadeSafe growing.tells growing.told growing.is_safe (IsGivenUp growing.has_failed growing.sync_failed) Opens files unsynced barred
    → ((slot : ℕ) → slot < 10 → IsNeeded slot → flag_in unsynced slot ≡ false)
    → ((slot : ℕ) → slot < 10 → IsSome (barred_in barred slot) → MayLack files slot)
    → Over files → (taken : WereTaken growing Opens IsNeeded MayLack) × Over taken.files
taken_over growing Opens files unsynced barred IsNeeded MayLack Over made unmarked lacking over =
    (record { files = files; unsynced = unsynced; barred = barred; made_safe = made; passed = lacking; kept = unmarked }, over)

-- ---- where that failed

-- a slot that is refused for its mark is named because a call of its file failed
pub unsynced_blamed : {F Made : Type 0} (tells : Bool) (told : F → List ℕ) (IsSafe HasFailed : F → Type 0) (SyncFailed : F → Error → Type 0)
    (Slots : (slot : ℕ) → Result (Option F) OpenFault → Type 0)
    (files : List (Option F)) (unsynced : List Bool) (barred : List (Option Reason)) (Opens : (path : List ℕ) → Result (Option F) OpenFault → Type 0)
    (Creates : (path : List ℕ) → Result Made CreateFault → Type 0) (folder : List ℕ) (first end : ℕ) (fault : FolderFault)
    → WereMadeSafe tells told IsSafe (IsGivenUp HasFailed SyncFailed) Slots files unsynced barred → IsUnsyncedIn unsynced first end fault
    → IsBlamed Opens Creates HasFailed folder fault
unsynced_blamed tells told IsSafe HasFailed SyncFailed Slots files unsynced barred Opens Creates folder first end (NoFile slot) made is =
    let failed = failed_of tells told IsSafe (IsGivenUp HasFailed SyncFailed) (file_in made.opened slot) (file_in files slot) (flag_in unsynced slot)
    (made.made_safe slot is.0.1.1) is.1 in
    inr (failed.0, failed.1.0)
unsynced_blamed tells told IsSafe HasFailed SyncFailed Slots files unsynced barred Opens Creates folder first end fault made is = absurd is

-- ---- files that are there and could not be opened

-- where no file could not be opened, nothing is told of any slot
pub passes_none : {E : Type 0} (contents : E → Option (List ℕ)) (end : ℕ) (old new : E) → new ≡ old → PassesBelow contents [] end old new
passes_none contents zero old new same = same
passes_none contents (suc end) old new same = (new, passes_none contents end old new same, refl)

-- where nothing was written, none was passed over
pub nothing_passed : {E : Type 0} (contents : E → Option (List ℕ)) (old new : E) → new ≡ old → HasPassed contents old new
nothing_passed contents old new same = ([], passes_none contents 10 old new same)

-- what is told where none was passed over is told after that
pub told_at_once : {E : Type 0} (contents : E → Option (List ℕ)) (text : List ℕ) (old new : E) → IsToldLine text (contents old) (contents new)
    → IsToldAfter contents text old new
told_at_once contents text old new told = (old, nothing_passed contents old old refl, told)

-- where none could not be, none is passed over
pub none_barred : (MayLack : ℕ → Type 0) (barred : List (Option Reason)) → ((slot : ℕ) → slot < 10 → barred_in barred slot ≡ None)
    → (slot : ℕ) → slot < 10 → IsSome (barred_in barred slot) → MayLack slot
none_barred MayLack barred none slot under some = absurd (false≢true (rw (none slot under) at some))

-- what opening the file of a slot came to, where there is a reason
pub barred_opening : {F : Type 0} (Opens : Result (Option F) OpenFault → Type 0) (file : Option F) (found : Option Reason) (reason : Reason)
    → found ≡ Some reason → IsOpenedAs Opens file found → Opens (Err (OpenFault.Barred reason))
barred_opening Opens file found reason is opens = (rw is at opens).1

-- one that is refused for it is named because that is what opening its path came to
pub barred_blamed : {F Made : Type 0} (tells : Bool) (told : F → List ℕ) (IsSafe GivenUp HasFailed : F → Type 0) (files : List (Option F))
    (unsynced : List Bool)
    (barred : List (Option Reason)) (Opens : (path : List ℕ) → Result (Option F) OpenFault → Type 0)
    (Creates : (path : List ℕ) → Result Made CreateFault → Type 0)
    (folder : List ℕ) (fault : FolderFault) → WereMadeSafe tells told IsSafe GivenUp (λ slot. Opens (slot_path folder slot)) files unsynced barred
    → IsPassingFault barred fault → IsBlamed Opens Creates HasFailed folder fault
barred_blamed tells told IsSafe GivenUp HasFailed files unsynced barred Opens Creates folder (NotOpened slot reason) made is =
    barred_opening (Opens (slot_path folder slot)) (file_in made.opened slot) (barred_in barred slot) reason is.1 (made.opens slot is.0)
barred_blamed tells told IsSafe GivenUp HasFailed files unsynced barred Opens Creates folder (Refused refusal) made is = tt
barred_blamed tells told IsSafe GivenUp HasFailed files unsynced barred Opens Creates folder fault made is = absurd is

pub barred_passing : (barred : List (Option Reason)) (first end : ℕ) (fault : FolderFault) → IsBarredIn barred first end fault
    → IsPassingFault barred fault
barred_passing barred first end (NotOpened slot reason) is = (is.2, is.3)
barred_passing barred first end fault is = absurd is

pub barred_unmade : (barred : List (Option Reason)) (first end members : ℕ) (fault : FolderFault) → IsBarredIn barred first end fault
    → IsUnmade members fault
barred_unmade barred first end members (NotOpened slot reason) is = is.2
barred_unmade barred first end members fault is = absurd is

pub passing_slot : (barred : List (Option Reason)) (slot : ℕ) (fault : FolderFault) → IsPassingFault barred fault → IsSlotFault IsReplaceEnd slot fault
passing_slot barred slot (NotOpened other reason) is = is.0
passing_slot barred slot (Refused refusal) is = elim is [ inl memory ↦ inl (inl (inl memory)) | inr worn ↦ inl (inr (inr (subst EndsIt (sym worn) tt))) ]
passing_slot barred slot fault is = absurd is

pub unsynced_unmade : (unsynced : List Bool) (first members : ℕ) (fault : FolderFault) → IsUnsyncedIn unsynced first (members + 2) fault
    → IsUnmade members fault
unsynced_unmade unsynced first members (NoFile slot) is = is.0.1.0
unsynced_unmade unsynced first members fault is = absurd is

pub unsynced_slot : (End : Refusal → Type 0) (unsynced : List Bool) (slot end : ℕ) (fault : FolderFault) → end ≤ slot + 1 → IsUnsyncedIn unsynced slot end fault
    → IsSlotFault End slot fault
unsynced_slot End unsynced slot end (NoFile other) most is =
    let from : slot ≤ other = is.0.0 in
    let under : other < end = is.0.1.0 in
    let same : other ≡ slot = omega (arith, from, under, most) in
    (same, subst (λ (k : ℕ). k < 10) same is.0.1.1)
unsynced_slot End unsynced slot end fault most is = absurd is
