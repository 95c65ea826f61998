-- What standard output gets of inspections: the text of each, of the set of the id that was given.
use Rattle.std.proofs.Common.{◌≡◌, inl, inr, refl, sym, ◌∙◌, ap, subst, ℕ, zero, suc, Bool, List, [], ◌∷◌, ◌++◌, Option, Some, None, Ok}
use Rattle.std.specs.Prelude.{IfSome}
use Rattle.std.specs.Io.KnownBytes.{Appends}
use Rattle.std.proofs.lemmas.List.{append-nil, append_assoc}
use Rattle.recovery.specs.declared.examination.Examined.{Examined}
use Rattle.recovery.specs.Making.{BankView}
use Rattle.report.specs.Written.{AppendsPart}
use Rattle.set_commands.specs.Examining.{ExaminesOn, ExaminesPartOn, IsToldOf, Inspects, InspectsAbove, InspectsOne}
use Rattle.raidtool.specs.Tool.{AreInspections, IsInspectionTold}

-- inspections one after another
abbrev Told : (id : Option (List ℕ)) (json : Bool) (text : List ℕ) → Type 0
Told id json text = (examined : List Examined) × AreInspections id json examined text

-- the inspection of one set
told_at : (honest : Type 0) (own : Option (List ℕ)) (id : List ℕ) (json : Bool) (old new : BankView) (text : List ℕ) → IfSome own (λ its. id ≡ its)
    → InspectsOne honest id json old new text → Told own json text
told_at honest own id json old new text same inspections = by_found inspections.found refl inspections.told
  where
    of_id : (one : Examined) → inspections.found ≡ Some one → IfSome own (λ its. one.table.id ≡ its)
    of_id one found = by_own own same
      where
        by_own : (o : Option (List ℕ)) → IfSome o (λ its. id ≡ its) → IfSome o (λ its. one.table.id ≡ its)
        by_own None is = tt
        by_own (Some its) is = (inspections.examines.found one (ap Ok found)).of_id ∙ is

    by_found : (found : Option Examined) → inspections.found ≡ found → IsToldOf json found text → Told own json text
    by_found None is told = ([], told)
    by_found (Some one) is told = (one ∷ [], (text, [], told, of_id one is, refl, sym (append-nil text)))

-- the same after it
told_then : (id : Option (List ℕ)) (json : Bool) (examined : List Examined) (first rest : List ℕ) → AreInspections id json examined first → Told id json rest
    → Told id json (first ++ rest)
told_then id json [] first rest are more = subst (Told id json) (ap (λ (t : List ℕ). t ++ rest) (sym are)) more
told_then id json (one ∷ others) first rest (part, left, is, own, are, split) more =
    let beyond = told_then id json others left rest are more in
    (one ∷ beyond.0, (part, left ++ rest, is, own, beyond.1, ap (λ (t : List ℕ). t ++ rest) split ∙ append_assoc part left rest))

told_above : (honest : Type 0) (json : Bool) (most : ℕ) (above : Option (List ℕ)) (old new : BankView) (text : List ℕ)
    → InspectsAbove honest json most above old new text
    → Told None json text
told_above honest json zero above old new text inspections = ([], inspections.1)
told_above honest json (suc most) above old new text (inl none) = ([], none.1)
told_above honest json (suc most) above old new text (inr further) =
    let first = told_at honest None further.id json further.found further.seen further.first tt further.inspections in
    let rest = told_above honest json most (Some further.id) further.seen new further.rest further.goes_on in
    subst (Told None json) (sym further.told) (told_then None json first.0 further.first further.rest first.1 rest)

told : (honest : Type 0) (id : Option (List ℕ)) (json : Bool) (bank : BankView) (text : List ℕ) → Inspects honest id json bank text → Told id json text
told honest None json bank text inspections = told_above honest json 20 None bank inspections.0 text inspections.1
told honest (Some id) json bank text inspections = told_at honest (Some id) id json bank inspections.0 text refl inspections.1

-- they were written
pub inspections_written : (honest : Type 0) (id : Option (List ℕ)) (json : Bool) (bank : BankView) (was is : Option (List ℕ))
    → ExaminesOn honest id json bank was is
    → IsInspectionTold id json (Appends was is)
inspections_written honest id json bank was is done =
    let all = told honest id json bank done.text done.inspections in
    record { examined = all.0; text = done.text; inspections = all.1; some = done.some; written = done.written }

-- or a beginning of them
pub inspections_cut : (honest : Type 0) (id : Option (List ℕ)) (json : Bool) (bank : BankView) (was is : Option (List ℕ))
    → ExaminesPartOn honest id json bank was is
    → IsInspectionTold id json (AppendsPart was is)
inspections_cut honest id json bank was is done =
    let all = told honest id json bank done.text done.inspections in
    record { examined = all.0; text = done.text; inspections = all.1; some = done.some; written = done.part }
