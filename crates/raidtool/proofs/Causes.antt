-- Why a line was refused.
use Rattle.std.proofs.Common.{◌≡◌, ◌≢◌, ◌⊎◌, ◌+◌, ◌≤◌, inl, inr, refl, arith, ℕ, List, Result, Ok, Err, sym, subst}
use Rattle.std.specs.Borrow.{Bor}
use Rattle.clap.specs.Words.{Text}
use Rattle.device_files.specs.declared.slot_files.OpenFault.{OpenFault}
use Rattle.std.specs.Prelude.{IfErr, IsTrue, Option, Bool}
use Rattle.std.proofs.lemmas.Result.{IfErr-weaker}
use Rattle.sector_model.specs.Bank.{Panel}
use Rattle.sector_model.specs.declared.refusal.Refusal.{Refusal}
use Rattle.sector_model.specs.declared.refusal.Refusal.TheVariants.{BadGeometry, BadTable, Memory, NoSet, ReadFault, Worn, WriteFault}
use Rattle.layout_map.specs.declared.format.Format.TheVariants.{One}
use Rattle.layout_map.specs.declared.geometry.Geometry.{Geometry}
use Rattle.layout_map.specs.Placement.{IsGeometry}
use Rattle.array_io.specs.Believed.Views.{EndsIt}
use Rattle.sector_model.specs.History.{History}
use Rattle.recovery.specs.Making.{BankView, IsNoMake}
use Rattle.device_files.specs.BankFiles.{AreAllSafe}
use Rattle.device_files.specs.DeviceFiles.{IsNoTableIn, WereMadeSafe}
use Rattle.device_files.specs.Faults.{IsGivenUp}
use Rattle.device_files.specs.declared.Reason.{Reason}
use Rattle.device_files.specs.declared.growing.Growing.{Ghosts}
use Rattle.device_files.specs.declared.FolderFault.{FolderFault}
use Rattle.device_files.specs.declared.FolderFault.TheVariants.{Refused}
use Rattle.set_commands.specs.Run.{StoppedByStore, Streams}
use Rattle.set_commands.specs.Serving.{IsEnd, IsNotOpened, LosesOn, ServesOn}
use Rattle.command_line.specs.declared.Invocation.{Invocation}
use Rattle.command_line.specs.declared.Invocation.TheVariants.{Change, Examine, Fail, Make, MakeSized, Rebuild, Replace, Run, Scrub, Serve, Status, Upgrade}
use Rattle.command_line.specs.declared.Size.{Size}
use Rattle.raidtool.specs.Begun.{BeginsOpened, BeginsOver, BeginsSafely, IsNoTableOver}
use Rattle.raidtool.specs.Causes.{HasCause, IsCausedBy, IsCauseOfMake, IsCauseOfSized, IsCauseOver, IsPlainEnd}
use Rattle.raidtool.specs.Done.{HasSizes}
use Rattle.raidtool.specs.OtherSets.{IsRefusedMake, IsUntoldIn}

pub not_memory : (refusal : Refusal) → ¬ IsPlainEnd refusal → refusal ≢ Memory
not_memory refusal other is = other (subst IsPlainEnd (sym is) tt)

not_unread : (refusal : Refusal) → ¬ IsPlainEnd refusal → refusal ≢ ReadFault
not_unread refusal other is = other (subst IsPlainEnd (sym is) tt)

pub not_cut : (refusal : Refusal) → ¬ IsPlainEnd refusal → refusal ≢ WriteFault
not_cut refusal other is = other (subst IsPlainEnd (sym is) tt)

-- ---- what stopped a command over files

-- a fault whose refusals are all for memory has none with another cause
pub by_memory : (Is : FolderFault → Type 0) (Cause : Refusal → Type 0) (fault : FolderFault) → ((refusal : Refusal) → Is (Refused refusal) → refusal ≡ Memory)
    → Is fault → IsCausedBy Cause fault
by_memory Is Cause fault memory is = λ refusal same other. absurd (not_memory refusal other (memory refusal (subst Is same is)))

-- a refusal that is no plain end has its cause
pub by_refusal : (Cause : Refusal → Type 0) (why : Refusal) → (¬ IsPlainEnd why → Cause why) → IsCausedBy Cause (Refused why)
by_refusal Cause why cause = λ refusal same other.
    let its : why ≡ refusal = cc in
    subst (λ (r : Refusal). ¬ IsPlainEnd r → Cause r) its cause other

-- what was a cause is another one
pub caused_as : (Cause Other : Refusal → Type 0) (fault : FolderFault) → ((refusal : Refusal) → Cause refusal → Other refusal) → IsCausedBy Cause fault
    → IsCausedBy Other fault
caused_as Cause Other fault so cause = λ refusal same other. so refusal (cause refusal same other)

-- ---- a set was not made

-- a slot after its own could not be looked at
pub untold_make : (honest : Type 0) (First Begins : History → Type 0) (id : List ℕ) (geometry : Geometry) (refusal : Refusal)
    → ((history : History) → First history → Begins history)
    → IsUntoldIn honest First id (geometry.members + 2) refusal → IsRefusedMake honest Begins id geometry refusal
untold_make honest First Begins id geometry refusal so is = (is.0, so is.0.history is.1, is.2, inl (is.3, is.4))

-- a bank has the set's slots
never_bad : (geometry : Geometry) (panel : Panel) → geometry.members + 2 ≤ panel.devices → IsNoMake geometry panel BadGeometry → ⊥
never_bad geometry panel enough few = omega (arith, enough, few)

-- no bank of ten devices is too small for a set
pub never_too_small : (honest : Type 0) (Begins : History → Type 0) (id : List ℕ) (geometry : Geometry) → geometry.members ≤ 8
    → IsRefusedMake honest Begins id geometry BadGeometry → ⊥
never_too_small honest Begins id geometry most (bank, begins, ten, inl (after, refuses)) =
    let never : BadGeometry ≡ Worn = refuses.0 in cc
never_too_small honest Begins id geometry most (bank, begins, ten, inr (refusal, same, alone)) =
    let its : refusal ≡ BadGeometry = cc in
    let cause = alone.refuses.makes.cause alone.refuses.back refusal refl in
    let first : alone.inspected.panel.devices ≡ bank.panel.devices = alone.alone.later.devices in
    let second : alone.refuses.back.panel.devices ≡ alone.inspected.panel.devices = alone.refuses.makes.later.devices in
    never_bad geometry alone.refuses.back.panel (omega (arith, first, second, ten, most))
    (subst (IsNoMake geometry alone.refuses.back.panel) its cause)

-- and of these sizes none
not_too_small : (honest : Type 0) (Begins : History → Type 0) (id : List ℕ) (members chunk stripes : ℕ) (geometry : Geometry)
    → HasSizes members chunk stripes geometry → IsRefusedMake honest Begins id geometry BadGeometry → ⊥
not_too_small honest Begins id members chunk stripes geometry sizes refused =
    let most : members ≤ 8 = sizes.within.members_most in
    let its_members : geometry.members ≡ members = sizes.members_is in
    never_too_small honest Begins id geometry (omega (arith, most, its_members)) refused

module _ {F : Type 0} (growing : Ghosts F) (left : F → List ℕ) where
  pub sizes_make : (id : List ℕ) (members chunk stripes : ℕ) (geometry : Geometry) → HasSizes members chunk stripes geometry → (refusal : Refusal)
      → IsRefusedMake (IsTrue growing.tells) (BeginsSafely growing left) id geometry refusal
      → IsCauseOfMake growing left id members chunk stripes refusal
  sizes_make id members chunk stripes geometry sizes BadGeometry is =
      absurd (not_too_small (IsTrue growing.tells) (BeginsSafely growing left) id members chunk stripes geometry sizes is)
  sizes_make id members chunk stripes geometry sizes refusal is = (geometry, sizes, is)

  -- no set has these sizes
  pub no_sizes : (id : List ℕ) (members chunk stripes : ℕ) (refusal : Refusal) → refusal ≡ BadGeometry → ¬ IsGeometry One members chunk stripes
      → IsCauseOfMake growing left id members chunk stripes refusal
  no_sizes id members chunk stripes refusal is none = subst (IsCauseOfMake growing left id members chunk stripes) (sym is) none

  -- ---- a line that needs no file to be made

  pub served_cause : {L : Type 0} (reading : Ghosts L) (left_read : L → List ℕ) (Opens : (path : List ℕ) → Result (Option F) OpenFault → Type 0)
      (Inspects : (path : List ℕ) → Result (Option L) OpenFault → Type 0) (line : Invocation) (refusal : Refusal)
      → ((folder : Bor Text) (id : List ℕ) (members chunk stripes : ℕ) → line ≡ Make folder id members chunk stripes → ⊥)
      → ((folder : Bor Text) (id : List ℕ) (members chunk : ℕ) (size : Size) (over reserve : Bool) → line ≡ MakeSized folder id members chunk size over reserve
      → ⊥)
      → ((folder : Bor Text) (id : List ℕ) (slot : ℕ) → line ≡ Replace folder id slot → ⊥)
      → ((folder : Bor Text) (id : Option (List ℕ)) (json check : Bool) → line ≡ Examine folder id json check → ⊥)
      → ((folder : Bor Text) (id : List ℕ) → line ≡ Serve folder id → ⊥)
      → IsCauseOver growing left Opens line refusal → HasCause growing left reading left_read Opens Inspects line refusal
  served_cause reading left_read Opens Inspects (Make folder id members chunk stripes) refusal no_make no_sized no_replace no_inspection no_serve cause =
      absurd (no_make folder id members chunk stripes refl)
  served_cause reading left_read Opens Inspects (MakeSized folder id members chunk size over reserve) refusal no_make no_sized no_replace no_inspection
      no_serve cause = absurd (no_sized folder id members chunk size over reserve refl)
  served_cause reading left_read Opens Inspects (Replace folder id slot) refusal no_make no_sized no_replace no_inspection no_serve cause =
      absurd (no_replace folder id slot refl)
  served_cause reading left_read Opens Inspects (Examine folder id json check) refusal no_make no_sized no_replace no_inspection no_serve cause =
      absurd (no_inspection folder id json check refl)
  served_cause reading left_read Opens Inspects (Serve folder id) refusal no_make no_sized no_replace no_inspection no_serve cause =
      absurd (no_serve folder id refl)
  served_cause reading left_read Opens Inspects line refusal no_make no_sized no_replace no_inspection no_serve cause = cause

  -- a table that could not be sought over these files could not be over some that are safe
  pub no_table_safely : (id : List ℕ) (files : List (Option F)) (refusal : Refusal) → AreAllSafe growing.is_safe files
      → IsNoTableIn (IsTrue growing.tells) (BeginsOver growing left files) id refusal → IsNoTableOver growing left id refusal
  no_table_safely id files refusal safe is = (is.0, is.1, (files, safe, is.2), is.3)

  -- so it could not over these files as they were opened
  pub no_table_opened : (Opens : (slot : ℕ) → Result (Option F) OpenFault → Type 0) (id : List ℕ) (files : List (Option F)) (unsynced : List Bool)
      (barred : List (Option Reason)) (refusal : Refusal)
      → WereMadeSafe growing.tells growing.told growing.is_safe (IsGivenUp growing.has_failed growing.sync_failed) Opens files unsynced barred
      → IsNoTableIn (IsTrue growing.tells) (BeginsOver growing left files) id refusal
      → IsNoTableIn (IsTrue growing.tells) (BeginsOpened growing left Opens) id refusal
  no_table_opened Opens id files unsynced barred refusal made is =
      (is.0, is.1, record { files = files; unsynced = unsynced; barred = barred; made_safe = made; begins = is.2 }, is.3)

-- a script
module _ (honest : Type 0) (id : List ℕ) (bank : BankView) where
  abbrev Ran : Refusal → Type 0
  Ran refusal = IsNotOpened honest id bank refusal
      ⊎ ((was : Streams) × (is : Streams) × ServesOn honest id bank (λ first last. StoppedByStore honest refusal first last was is))

  lost : (refusal : Refusal) (was is : Streams) (same : Type 0) → LosesOn honest id bank refusal was is same → Ran refusal
  lost refusal was is same (inl unopened) = inl unopened.0
  lost refusal was is same (inr serves) = inr (was, is, serves)

  pub ran_for : (result : Result (Unit {0}) Refusal) (was is : Streams) (same : Type 0) → IfErr result IsEnd
      → IfErr result (λ refusal. (refusal ≡ NoSet) ⊎ (refusal ≡ BadTable) → IsNotOpened honest id bank refusal)
      → IfErr result (λ refusal. EndsIt refusal → LosesOn honest id bank refusal was is same)
      → IfErr result (λ refusal. ¬ IsPlainEnd refusal → Ran refusal)
  ran_for (Ok value) was is same end unopened loss = tt
  ran_for (Err refusal) was is same end unopened loss = λ other. elim end [
    | inl (inl memory) ↦ absurd (not_memory refusal other memory)
    | inl (inr none) ↦ inl (unopened none)
    | inr (inl unread) ↦ absurd (not_unread refusal other unread)
    | inr (inr (inl cut)) ↦ absurd (not_cut refusal other cut)
    | inr (inr (inr ends)) ↦ lost refusal was is same (loss ends)
  ]

-- a status
pub told_for : (result : Result (Unit {0}) Refusal) (Cause : Refusal → Type 0)
    → IfErr result (λ refusal. refusal ≢ Memory → refusal ≢ WriteFault → Cause refusal) → IfErr result (λ refusal. ¬ IsPlainEnd refusal → Cause refusal)
told_for result Cause = IfErr-weaker result _ _ (λ refusal cause other. cause (not_memory refusal other) (not_cut refusal other))

-- an event, or steps of a rebuild
pub done_for : (result : Result (Unit {0}) Refusal) (Cause : Refusal → Type 0) → IfErr result (λ refusal. refusal ≢ WriteFault → Cause refusal)
    → IfErr result (λ refusal. ¬ IsPlainEnd refusal → Cause refusal)
done_for result Cause = IfErr-weaker result _ _ (λ refusal cause other. cause (not_cut refusal other))
