-- With what the making of a set is refused.
use Rattle.std.proofs.Common.{◌≡◌, ◌<◌, inl, inr, ℕ, List, Option, refl, subst}
use Rattle.std.specs.Prelude.{Result}
use Rattle.sector_model.specs.declared.refusal.Refusal.{Refusal}
use Rattle.sector_model.specs.declared.refusal.Refusal.TheVariants as refusal
use Rattle.sector_model.specs.Bank.{Panel}
use Rattle.sector_model.specs.History.{History}
use Rattle.layout_map.specs.declared.geometry.Geometry.{Geometry}
use Rattle.recovery.specs.Making.{BankView, IsNoMake, Makes, bank_view, given_back}
use Rattle.device_files.specs.declared.FolderFault.{FolderFault}
use Rattle.device_files.specs.declared.FolderFault.TheVariants.{OtherSet, Refused}
use Rattle.device_files.specs.declared.slot_files.CreateFault.{CreateFault}
use Rattle.device_files.specs.declared.slot_files.OpenFault.{OpenFault}
use Rattle.raidtool.specs.Stops.{IsBlamed, IsMakingFault, IsMakingRefusal, IsStoppedOver, IsUnmade}

-- each cause is of one of three
of_cause : (geometry : Geometry) (panel : Panel) (why : Refusal) → IsNoMake geometry panel why → IsMakingRefusal why
of_cause geometry panel refusal.BadGeometry is = inl refl
of_cause geometry panel refusal.NotUsable is = inr (inl refl)
of_cause geometry panel refusal.Worn is = inr (inr refl)
of_cause geometry panel why is = absurd is

pub making_refusal : (honest : Type 0) (id : List ℕ) (geometry : Geometry) (old : BankView) (panel : Panel) (history : History) (why : Refusal)
    → Makes honest id geometry old (given_back panel history why) → IsMakingRefusal why
making_refusal honest id geometry old panel history why makes = of_cause geometry panel why (makes.cause (bank_view panel history) why refl)

-- what stops the making on a bank of ten devices stops it over files
pub making_over : (members devices : ℕ) (fault : FolderFault) → devices ≡ 10 → IsMakingFault members devices fault → IsStoppedOver members fault
making_over members devices (OtherSet slot) ten is = (is.0, subst (λ (n : ℕ). slot < n) ten is.1)
making_over members devices (Refused why) ten is = inl is
making_over members devices fault ten is = absurd is

-- what stops it there stops that of the set, and blames no file
pub over_unmade : (members : ℕ) (fault : FolderFault) → IsStoppedOver members fault → IsUnmade members fault
over_unmade members (OtherSet slot) is = is
over_unmade members (Refused why) is = is
over_unmade members fault is = absurd is

pub over_blamed : {F Made : Type 0} (Opens : (path : List ℕ) → Result (Option F) OpenFault → Type 0)
    (Creates : (path : List ℕ) → Result Made CreateFault → Type 0) (HasFailed : F → Type 0) (folder : List ℕ) (members : ℕ) (fault : FolderFault)
    → IsStoppedOver members fault → IsBlamed Opens Creates HasFailed folder fault
over_blamed Opens Creates HasFailed folder members (OtherSet slot) is = tt
over_blamed Opens Creates HasFailed folder members (Refused why) is = tt
over_blamed Opens Creates HasFailed folder members fault is = absurd is
