-- What stops the making of a set of a wished room, and what its files are.
use Rattle.std.proofs.Common.{◌≡◌, ◌≢◌, ◌⊎◌, ◌∙◌, ◌<◌, ◌≤◌, ◌+◌, ap, inl, inr, refl, arith, subst, sym, ℕ, Bool, true, false, List, ◌++◌, drop, length, take}
use Rattle.std.proofs.Common.{Option, Some, None, Ok}
use Rattle.std.proofs.Math.Seq.{take-append_seam}
use Rattle.std.proofs.lemmas.Bool.{cases_lt}
use Rattle.std.specs.Prelude.{IfSome, IsSomeAnd, IsTrue, Result}
use Rattle.sector_model.specs.declared.refusal.Refusal.{Refusal}
use Rattle.sector_model.specs.declared.refusal.Refusal.TheVariants.{BadGeometry, Memory, WriteFault}
use Rattle.layout_map.specs.declared.geometry.Geometry.{Geometry}
use Rattle.set_sizes.specs.Rooms.{LiesOn}
use Rattle.command_line.specs.declared.Size.{Size}
use Rattle.command_line.specs.declared.Size.TheVariants.{Most}
use Rattle.device_files.specs.declared.growing.Growing.{Ghosts}
use Rattle.device_files.specs.declared.Reason.{Reason}
use Rattle.device_files.specs.declared.slot_files.CreateFault.{CreateFault}
use Rattle.device_files.specs.declared.slot_files.OpenFault.{OpenFault}
use Rattle.device_files.specs.declared.FolderFault.{FolderFault}
use Rattle.device_files.specs.declared.FolderFault.TheVariants.{Absent, InUse, NoFile, NotOpened, NotRegular, NotSafe, NotSynced, OtherSet, Refused, SetThere}
use Rattle.device_files.specs.BankFiles.{AreAllSafe}
use Rattle.device_files.specs.DeviceFiles.{IsShortest, WereMadeSafe, barred_in, file_in, flag_in, slot_path}
use Rattle.device_files.specs.Superblocks.{FindsSet}
use Rattle.device_files.specs.declared.locked.Before.{Before}
use Rattle.device_files.specs.Faults.{IsBarredIn, IsClearingFault, IsGivenUp, IsLengthFault, IsOpenFault, IsUnsyncedIn}
use Rattle.device_files.specs.SlotCalls.{ClearsPlaces}
use Rattle.raidtool.specs.Causes.{IsCauseOfSized, IsCausedBy}
use Rattle.raidtool.specs.OtherSets.{IsRefusedMake}
use Rattle.raidtool.specs.Begun.{BeginsSafely}
use Rattle.raidtool.specs.DoneOver.{IsMadeOver, IsMadeSizedIn}
use Rattle.raidtool.specs.FolderFiles.{HoldsOfTaken}
use Rattle.raidtool.specs.Sized.{IsFoundIn, IsLookingFault, IsShapeFault, IsShapeless, IsSizedFor, IsSizedStop, IsTooShort, IsUnsized, sectors_in}
use Rattle.raidtool.specs.Stops.{IsBlamed, IsMakeEnd, IsMakingRefusal, IsUnmade}
use Rattle.raidtool.proofs.Causes.{by_refusal, never_too_small}
use Rattle.raidtool.proofs.Taken.{none_barred, taken_over}

-- ---- files that were cleared

some_failed : {F : Type 0} (HasFailed : F → Type 0) (file : Option F) → IsSomeAnd file HasFailed → (it : F) × HasFailed it
some_failed HasFailed (Some file) failed = (file, failed)
some_failed HasFailed None failed = absurd failed

-- of files that were safe all are still, where some were cleared
pub cleared_safe : {F : Type 0} (growing : Ghosts F) (first : ℕ) (was is : List (Option F)) → AreAllSafe growing.is_safe was
    → ClearsPlaces growing.tells growing.told growing.is_safe growing.has_failed first was is (Ok tt) → AreAllSafe growing.is_safe is
cleared_safe growing first was is safe clears slot under = elim (cases_lt slot first) [
  | inl below ↦ subst (λ one. IfSome one growing.is_safe) (sym (clears.kept slot below)) (safe slot under)
  | inr beyond ↦ clears.safe slot beyond under
]

-- ---- why it was stopped before it was begun

-- the length of a member's file could not be told
pub length_shape : {F : Type 0} (tells : Bool) (told : F → List ℕ) (HasFailed : F → Type 0) (files : List (Option F)) (slots members chunk : ℕ)
    (fault : FolderFault) → slots ≡ members → IsLengthFault HasFailed files slots fault
    → IsShapeFault tells told HasFailed members chunk Most files fault
length_shape tells told HasFailed files slots members chunk (Absent slot) same is = (refl, subst (λ (n : ℕ). slot < n) same is.0, is.1)
length_shape tells told HasFailed files slots members chunk (NoFile slot) same is = (subst (λ (n : ℕ). slot < n) same is.0, is.1)
length_shape tells told HasFailed files slots members chunk fault same is = absurd is

-- no set lies on the shortest of the members' files
pub short_shape : {F : Type 0} (tells : Bool) (told : F → List ℕ) (HasFailed : F → Type 0) (files : List (Option F)) (members chunk bytes : ℕ)
    (refusal : Refusal) → (IsTrue tells → IsShortest told files members bytes) → refusal ≡ BadGeometry
    → ((stripes : ℕ) → ¬ LiesOn members chunk (sectors_in bytes) stripes)
    → IsShapeFault tells told HasFailed members chunk Most files (Refused refusal)
short_shape tells told HasFailed files members chunk bytes refusal shortest is none =
    (is, record { most = refl; bytes = bytes; shortest = shortest; none = none })

-- a file could not be cleared
pub clearing_looking : {F : Type 0} (tells : Bool) (told : F → List ℕ) (HasFailed : F → Type 0) (over : Bool) (first : ℕ) (was is : List (Option F))
    (fault : FolderFault) → over ≡ true → IsClearingFault HasFailed first is fault → IsLookingFault tells told HasFailed over was fault
clearing_looking tells told HasFailed over first was is (NoFile slot) asked failed = (asked, failed.1, some_failed HasFailed (file_in is slot) failed.2)
clearing_looking tells told HasFailed over first was is fault asked failed = absurd failed

-- ---- what stopped it, as the program speaks of it

module _ (members : ℕ) (size : Size) (over : Bool) (few : members ≤ 8) where
  pub open_unsized : (fault : FolderFault) → IsOpenFault fault → IsUnsized members size over fault
  open_unsized (InUse slot) is = is
  open_unsized (NotOpened slot reason) is = is
  open_unsized (NotRegular slot) is = is
  open_unsized (NotSafe slot shortage) is = is
  open_unsized (Refused refusal) is = inr is
  open_unsized fault is = absurd is

  pub barred_unsized : (barred : List (Option Reason)) (first end : ℕ) (fault : FolderFault) → IsBarredIn barred first end fault
      → IsUnsized members size over fault
  barred_unsized barred first end (NotOpened slot reason) is = is.2
  barred_unsized barred first end fault is = absurd is

  pub unsynced_unsized : (unsynced : List Bool) (first end : ℕ) (fault : FolderFault) → IsUnsyncedIn unsynced first end fault
      → IsUnsized members size over fault
  unsynced_unsized unsynced first end (NoFile slot) is = is.0.1.1
  unsynced_unsized unsynced first end fault is = absurd is

  pub shape_unsized : {F : Type 0} (tells : Bool) (told : F → List ℕ) (HasFailed : F → Type 0) (chunk : ℕ) (files : List (Option F)) (fault : FolderFault)
      → IsShapeFault tells told HasFailed members chunk size files fault → IsUnsized members size over fault
  shape_unsized tells told HasFailed chunk files (Absent slot) is = (is.0, is.1)
  shape_unsized tells told HasFailed chunk files (NoFile slot) is = omega (arith, few, is.0)
  shape_unsized tells told HasFailed chunk files (Refused refusal) is = inl (inl is.0)
  shape_unsized tells told HasFailed chunk files fault is = absurd is

  pub looking_unsized : {F : Type 0} (tells : Bool) (told : F → List ℕ) (HasFailed : F → Type 0) (files : List (Option F)) (fault : FolderFault)
      → IsLookingFault tells told HasFailed over files fault → IsUnsized members size over fault
  looking_unsized tells told HasFailed files (SetThere id) is = is.0
  looking_unsized tells told HasFailed files (NoFile slot) is = is.1
  looking_unsized tells told HasFailed files fault is = absurd is

  pub unmade_unsized : (fault : FolderFault) → IsUnmade members fault → IsUnsized members size over fault
  unmade_unsized (NoFile slot) is = omega (arith, few, is)
  unmade_unsized (InUse slot) is = is
  unmade_unsized (NotOpened slot reason) is = is
  unmade_unsized (NotRegular slot) is = is
  unmade_unsized (NotSafe slot shortage) is = is
  unmade_unsized (OtherSet slot) is = is
  unmade_unsized NotSynced is = is
  unmade_unsized (Refused refusal) is = is
  unmade_unsized fault is = absurd is

-- what is not made was not told of either
never_told : (refusal : Refusal) → IsMakingRefusal refusal ⊎ (refusal ≡ Memory) → refusal ≢ WriteFault
never_told refusal (inl (inl is)) cut = cc
never_told refusal (inl (inr (inl is))) cut = cc
never_told refusal (inl (inr (inr is))) cut = cc
never_told refusal (inr is) cut = cc

pub unsized_uncut : (members : ℕ) (size : Size) (over : Bool) (fault : FolderFault) → IsUnsized members size over fault → fault ≢ Refused WriteFault
unsized_uncut members size over (Refused refusal) is cut = never_told refusal is (cc)
unsized_uncut members size over fault is cut = cc

unmade_end : (refusal : Refusal) → IsMakingRefusal refusal ⊎ (refusal ≡ Memory) → IsMakeEnd refusal
unmade_end refusal (inl is) = inl is
unmade_end refusal (inr is) = inr (inl is)

pub unsized_stop : (members : ℕ) (size : Size) (over : Bool) (fault : FolderFault) → IsUnsized members size over fault → IsSizedStop members size over fault
unsized_stop members size over (NoFile slot) is = is
unsized_stop members size over (InUse slot) is = is
unsized_stop members size over (NotOpened slot reason) is = is
unsized_stop members size over (NotRegular slot) is = is
unsized_stop members size over (NotSafe slot shortage) is = is
unsized_stop members size over (OtherSet slot) is = is
unsized_stop members size over (SetThere id) is = is
unsized_stop members size over (Absent slot) is = is
unsized_stop members size over NotSynced is = is
unsized_stop members size over (Refused refusal) is = unmade_end refusal is

-- ---- who is blamed for it

module _ {F Made : Type 0} (Opens : (path : List ℕ) → Result (Option F) OpenFault → Type 0) (Creates : (path : List ℕ) → Result Made CreateFault → Type 0)
    (HasFailed : F → Type 0) (folder : List ℕ) where
  pub shape_blamed : (tells : Bool) (told : F → List ℕ) (members chunk : ℕ) (size : Size) (files : List (Option F)) (fault : FolderFault)
      → IsShapeFault tells told HasFailed members chunk size files fault → IsBlamed Opens Creates HasFailed folder fault
  shape_blamed tells told members chunk size files (Absent slot) is = tt
  shape_blamed tells told members chunk size files (NoFile slot) is = inr (some_failed HasFailed (file_in files slot) is.1)
  shape_blamed tells told members chunk size files (Refused refusal) is = tt
  shape_blamed tells told members chunk size files fault is = absurd is

  pub looking_blamed : (tells : Bool) (told : F → List ℕ) (over : Bool) (files : List (Option F)) (fault : FolderFault)
      → IsLookingFault tells told HasFailed over files fault → IsBlamed Opens Creates HasFailed folder fault
  looking_blamed tells told over files (SetThere id) is = tt
  looking_blamed tells told over files (NoFile slot) is = inr is.2
  looking_blamed tells told over files fault is = absurd is

-- ---- files that were taken

-- what holds of the files that were opened and made safe holds of files that were taken, where none was given up or could not be opened
pub taken_all : {F : Type 0} (growing : Ghosts F) (Opens : (slot : ℕ) → Result (Option F) OpenFault → Type 0) (files : List (Option F))
    (unsynced : List Bool) (barred : List (Option Reason)) (Holds : List (Option F) → Type 0)
    → WereMadeSafe growing.tells growing.told growing.is_safe (IsGivenUp growing.has_failed growing.sync_failed) Opens files unsynced barred
    → ((slot : ℕ) → 0 ≤ slot → slot < 10 → slot < 10 → barred_in barred slot ≡ None)
    → ((slot : ℕ) → 0 ≤ slot → slot < 10 → slot < 10 → flag_in unsynced slot ≡ false)
    → Holds files → HoldsOfTaken growing Opens Holds
taken_all growing Opens files unsynced barred Holds made unbarred synced holds = taken_over growing Opens files unsynced barred
    (λ slot. slot < 10) (λ _ _. ⊥) Holds made (λ slot under needed. let from : 0 ≤ slot = omega arith in synced slot from under under)
    (none_barred (λ _. ⊥) barred (λ slot under. let from : 0 ≤ slot = omega arith in unbarred slot from under under)) holds

-- ---- which set was found

module _ {F : Type 0} (growing : Ghosts F) (Opens : (slot : ℕ) → Result (Option F) OpenFault → Type 0) where
  pub open_found : (fault : FolderFault) → IsOpenFault fault → IsFoundIn growing Opens fault
  open_found (SetThere id) is = absurd is
  open_found (Absent slot) is = absurd is
  open_found fault is = tt

  pub barred_found : (barred : List (Option Reason)) (first end : ℕ) (fault : FolderFault) → IsBarredIn barred first end fault
      → IsFoundIn growing Opens fault
  barred_found barred first end (NotOpened slot reason) is = tt
  barred_found barred first end fault is = absurd is

  pub unsynced_found : (unsynced : List Bool) (first end : ℕ) (fault : FolderFault) → IsUnsyncedIn unsynced first end fault
      → IsFoundIn growing Opens fault
  unsynced_found unsynced first end (NoFile slot) is = tt
  unsynced_found unsynced first end fault is = absurd is

  pub shape_found : (members chunk : ℕ) (size : Size) (files : List (Option F)) (unsynced : List Bool) (barred : List (Option Reason)) (fault : FolderFault)
      → WereMadeSafe growing.tells growing.told growing.is_safe (IsGivenUp growing.has_failed growing.sync_failed) Opens files unsynced barred
      → ((slot : ℕ) → 0 ≤ slot → slot < 10 → slot < 10 → barred_in barred slot ≡ None)
      → ((slot : ℕ) → 0 ≤ slot → slot < 10 → slot < 10 → flag_in unsynced slot ≡ false)
      → IsShapeFault growing.tells growing.told growing.has_failed members chunk size files fault → IsFoundIn growing Opens fault
  shape_found members chunk size files unsynced barred (Absent slot) made unbarred synced is =
      taken_all growing Opens files unsynced barred (λ those. file_in those slot ≡ None) made unbarred synced is.2
  shape_found members chunk size files unsynced barred (NoFile slot) made unbarred synced is = tt
  shape_found members chunk size files unsynced barred (Refused refusal) made unbarred synced is = tt
  shape_found members chunk size files unsynced barred fault made unbarred synced is = absurd is

  pub looking_found : (over : Bool) (files : List (Option F)) (unsynced : List Bool) (barred : List (Option Reason)) (fault : FolderFault)
      → WereMadeSafe growing.tells growing.told growing.is_safe (IsGivenUp growing.has_failed growing.sync_failed) Opens files unsynced barred
      → ((slot : ℕ) → 0 ≤ slot → slot < 10 → slot < 10 → barred_in barred slot ≡ None)
      → ((slot : ℕ) → 0 ≤ slot → slot < 10 → slot < 10 → flag_in unsynced slot ≡ false)
      → IsLookingFault growing.tells growing.told growing.has_failed over files fault → IsFoundIn growing Opens fault
  looking_found over files unsynced barred (SetThere id) made unbarred synced is =
      taken_all growing Opens files unsynced barred (λ those. FindsSet growing.tells growing.told growing.has_failed those (Some id)) made unbarred synced is.1
  looking_found over files unsynced barred (NoFile slot) made unbarred synced is = tt
  looking_found over files unsynced barred fault made unbarred synced is = absurd is

  pub unmade_found : (members : ℕ) (fault : FolderFault) → IsUnmade members fault → IsFoundIn growing Opens fault
  unmade_found members (NoFile slot) is = tt
  unmade_found members (InUse slot) is = tt
  unmade_found members (NotOpened slot reason) is = tt
  unmade_found members (NotRegular slot) is = tt
  unmade_found members (NotSafe slot shortage) is = tt
  unmade_found members (OtherSet slot) is = tt
  unmade_found members NotSynced is = tt
  unmade_found members (Refused refusal) is = tt
  unmade_found members fault is = absurd is

-- ---- why it was refused

module _ {F : Type 0} (growing : Ghosts F) (left : F → List ℕ) (Opens : (slot : ℕ) → Result (Option F) OpenFault → Type 0) (id : List ℕ)
    (members chunk : ℕ) (size : Size) where
  -- no set has that room
  pub no_shape : (refusal : Refusal) → refusal ≡ BadGeometry → IsShapeless members chunk size
      → IsCauseOfSized growing left Opens id members chunk size refusal
  no_shape refusal is none = subst (IsCauseOfSized growing left Opens id members chunk size) (sym is) (inl none)

  -- none lies on the members' files
  pub shape_caused : (files : List (Option F)) (unsynced : List Bool) (barred : List (Option Reason)) (fault : FolderFault)
      → WereMadeSafe growing.tells growing.told growing.is_safe (IsGivenUp growing.has_failed growing.sync_failed) Opens files unsynced barred
      → ((slot : ℕ) → 0 ≤ slot → slot < 10 → slot < 10 → barred_in barred slot ≡ None)
      → ((slot : ℕ) → 0 ≤ slot → slot < 10 → slot < 10 → flag_in unsynced slot ≡ false)
      → IsShapeFault growing.tells growing.told growing.has_failed members chunk size files fault
      → IsCausedBy (IsCauseOfSized growing left Opens id members chunk size) fault
  shape_caused files unsynced barred (Refused why) made unbarred synced is = by_refusal _ why (λ other.
      subst (IsCauseOfSized growing left Opens id members chunk size) (sym is.0) (inr (taken_all growing Opens files unsynced barred
      (IsTooShort growing.tells growing.told members chunk size) made unbarred synced is.1)))
  shape_caused files unsynced barred fault made unbarred synced is = λ refusal same other. cc

  pub looking_caused : (over : Bool) (files : List (Option F)) (fault : FolderFault)
      → IsLookingFault growing.tells growing.told growing.has_failed over files fault
      → IsCausedBy (IsCauseOfSized growing left Opens id members chunk size) fault
  looking_caused over files (Refused why) is = absurd is
  looking_caused over files fault is = λ refusal same other. cc

  -- a set that has it was not made
  pub made_caused : (geometry : Geometry) (refusal : Refusal) → geometry.members ≤ 8
      → HoldsOfTaken growing Opens (λ files. IsSizedFor growing.tells growing.told members chunk size files geometry)
      → IsRefusedMake (IsTrue growing.tells) (BeginsSafely growing left) id geometry refusal
      → IsCauseOfSized growing left Opens id members chunk size refusal
  made_caused geometry BadGeometry few sized refused =
      absurd (never_too_small (IsTrue growing.tells) (BeginsSafely growing left) id geometry few refused)
  made_caused geometry refusal few sized refused = (geometry, sized, refused)

-- ---- it was made

-- as many files as there were stand in their list's place again
written_back : {F : Type 0} (was is : List (Option F)) (len : ℕ) → length was ≡ len → length is ≡ length was → take len (is ++ drop (length is) was) ≡ is
written_back was is len whole long =
    ap (λ (n : ℕ). take n (is ++ drop (length is) was)) (sym whole ∙ sym long) ∙ take-append_seam is (drop (length is) was)

pub sized_in : {F : Type 0} (growing : Ghosts F) (left : F → List ℕ) (Creates : (path : List ℕ) → Result (F × Before) CreateFault → Type 0)
    (folder : List ℕ) (Opens : (path : List ℕ) → Result (Option F) OpenFault → Type 0) (id : List ℕ) (members chunk : ℕ) (size : Size) (over : Bool)
    (geometry : Geometry) (was is : List (Option F)) (unsynced : List Bool) (barred : List (Option Reason))
    → WereMadeSafe growing.tells growing.told growing.is_safe (IsGivenUp growing.has_failed growing.sync_failed) (λ slot. Opens (slot_path folder slot)) was
    unsynced barred
    → ((slot : ℕ) → 0 ≤ slot → slot < 10 → slot < 10 → barred_in barred slot ≡ None)
    → ((slot : ℕ) → 0 ≤ slot → slot < 10 → slot < 10 → flag_in unsynced slot ≡ false)
    → IsSizedFor growing.tells growing.told members chunk size was geometry
    → (over ≡ false → (is ≡ was) × FindsSet growing.tells growing.told growing.has_failed was None)
    → (over ≡ true → ClearsPlaces growing.tells growing.told growing.is_safe growing.has_failed (members + 2) was is (Ok tt))
    → (len : ℕ) → length was ≡ len → length is ≡ length was → IsMadeOver growing left Creates folder id geometry (take len (is ++ drop (length is) was))
    → IsMadeSizedIn growing left Creates folder Opens id members chunk size over geometry
sized_in growing left Creates folder Opens id members chunk size over geometry was is unsynced barred made unbarred synced sized alone cleared len whole long
    over_made =
    record {
      taken = record {
        files = was;
        unsynced = unsynced;
        barred = barred;
        made_safe = made;
        passed = none_barred (λ _. ⊥) barred (λ slot under. let from : 0 ≤ slot = omega arith in unbarred slot from under under);
        kept = λ slot under needed. let from : 0 ≤ slot = omega arith in synced slot from under under;
      };
      sized = sized;
      files = is;
      alone = alone;
      cleared = cleared;
      made = subst (λ (files : List (Option _)). IsMadeOver growing left Creates folder id geometry files) (written_back was is len whole long) over_made;
    }
