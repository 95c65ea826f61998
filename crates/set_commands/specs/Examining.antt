-- What inspecting sets on a bank of devices comes to.
use Rattle.std.specs.Prelude.{◌≡◌, ◌≢◌, ◌⊎◌, ◌≤◌, ℕ, zero, suc, Bool, if◌then◌else◌, List, [], ◌∷◌, ◌++◌, Option, Some, None, Ok}
use Rattle.std.specs.Io.KnownBytes.{Appends}
use Rattle.sector_model.specs.declared.refusal.Refusal.{Refusal}
use Rattle.sector_model.specs.declared.refusal.Refusal.TheVariants.{Memory, NoSet, Worn, WriteFault}
use Rattle.sector_model.specs.declared.calls.TheConstants.{GREATEST_COUNT}
use Rattle.sector_model.specs.Bank.{IsLater, Panel}
use Rattle.serde_json.specs.Written.{compact_text}
use Rattle.recovery.specs.declared.examination.Examined.{Examined}
use Rattle.recovery.specs.Making.{BankView}
use Rattle.recovery.specs.Examining.{Examines}
use Rattle.recovery.specs.SetIds.{FindsIdAbove}
use Rattle.volume_table.specs.declared.status.Status.{Status}
use Rattle.report.specs.Inspections.{IsStatusOf, inspection_json, inspection_text}
use Rattle.report.specs.Written.{AppendsPart}

-- what is told of an inspection: lines, or JSON without spaces in one line
abbrev pub inspection_told : Bool → Status → Examined → List ℕ
inspection_told json status examined = if json then compact_text (inspection_json status examined) ++ 10 ∷ [] else inspection_text status examined

-- the text is what is told of an inspection
abbrev pub IsInspectionText : Bool → Examined → List ℕ → Type 0
IsInspectionText json examined text = (status : Status) → IsStatusOf examined.table status → text ≡ inspection_told json status examined

-- the same where a set was found, and nothing where none was
abbrev pub IsToldOf : Bool → Option Examined → List ℕ → Type 0
IsToldOf json None text = text ≡ []
IsToldOf json (Some examined) text = IsInspectionText json examined text

-- the set of this id was inspected, and this is what is told
pub record InspectsOne (honest : Type 0) (id : List ℕ) (json : Bool) (old new : BankView) (text : List ℕ) : Type 0 where
  pub found : Option Examined
  pub examines : Examines honest id old new (Ok found)
  pub told : IsToldOf json found text

-- The least id above this one was sought, its set was inspected, and what is told begins with that.
pub record InspectsFurther (honest : Type 0) (json : Bool) (above : Option (List ℕ)) (old new : BankView) (text : List ℕ)
    (Rest : Option (List ℕ) → BankView → BankView → List ℕ → Type 0) : Type 0 where
  pub id : List ℕ
  pub found : BankView
  pub seen : BankView
  pub first : List ℕ
  pub rest : List ℕ
  pub finds : FindsIdAbove honest above old found (Ok (Some id))
  pub inspections : InspectsOne honest id json found seen first
  pub goes_on : Rest (Some id) seen new rest
  pub told : text ≡ first ++ rest

-- The sets with ids above this one were inspected in the order of their ids, so many at most, and this is what is told.
abbrev pub InspectsAbove : (honest : Type 0) (json : Bool) (most : ℕ) → Option (List ℕ) → (old new : BankView) → List ℕ → Type 0
InspectsAbove honest json zero above old new text = (new ≡ old) × (text ≡ [])
InspectsAbove honest json (suc most) above old new text =
    (FindsIdAbove honest above old new (Ok None) × (text ≡ []))
    ⊎ InspectsFurther honest json above old new text (InspectsAbove honest json most)

-- the set of an id was inspected on a bank, or each set where there is no id, and this is what is told
abbrev pub Inspects : (honest : Type 0) → Option (List ℕ) → (json : Bool) → BankView → List ℕ → Type 0
Inspects honest None json bank text = (after : BankView) × InspectsAbove honest json 20 None bank after text
Inspects honest (Some id) json bank text = (after : BankView) × InspectsOne honest id json bank after text

-- bytes of which this holds were put after what there was
pub record Puts (old new : List ℕ) (Is : List ℕ → Type 0) : Type 0 where
  pub part : List ℕ
  pub appended : new ≡ old ++ part
  pub is : Is part

-- what was found was written, and is of some set
pub record ExaminesOn (honest : Type 0) (id : Option (List ℕ)) (json : Bool) (bank : BankView) (was is : Option (List ℕ)) : Type 0 where
  pub text : List ℕ
  pub inspections : Inspects honest id json bank text
  pub some : text ≢ []
  pub written : Appends was is text

-- a beginning of it was written
pub record ExaminesPartOn (honest : Type 0) (id : Option (List ℕ)) (json : Bool) (bank : BankView) (was is : Option (List ℕ)) : Type 0 where
  pub text : List ℕ
  pub inspections : Inspects honest id json bank text
  pub some : text ≢ []
  pub part : AppendsPart was is text

-- the count of device calls came to 2^62 on a bank
pub record IsWornOn (bank : BankView) : Type 0 where
  pub after : Panel
  pub later : IsLater bank.panel after
  pub worn : GREATEST_COUNT ≤ after.calls

-- why inspecting on a bank was refused, where memory did not run out: nothing was found that could be told, or no further call could be counted
abbrev pub RefusesInspecting : (honest : Type 0) (id : Option (List ℕ)) (json : Bool) (bank : BankView) → Refusal → Type 0
RefusesInspecting honest id json bank NoSet = Inspects honest id json bank []
RefusesInspecting honest id json bank Worn = IsWornOn bank
RefusesInspecting honest id json bank refusal = ⊥

-- what an inspection can be refused with
abbrev pub IsInspectionEnd : Refusal → Type 0
IsInspectionEnd refusal = (refusal ≡ Memory) ⊎ (refusal ≡ Worn)

-- what inspecting and telling can be refused with
abbrev pub IsExamineEnd : Refusal → Type 0
IsExamineEnd refusal = (refusal ≡ NoSet) ⊎ ((refusal ≡ WriteFault) ⊎ IsInspectionEnd refusal)
