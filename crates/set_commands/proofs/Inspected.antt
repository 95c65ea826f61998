-- What inspecting sets tells, one by one.
use Rattle.std.proofs.Common.{◌≡◌, ◌≢◌, inl, inr, refl, sym, ◌∙◌, ap, subst, arith, ℕ, zero, suc, ◌+◌, ◌-◌, Bool, true, false, ◌||◌, List, [], ◌∷◌, ◌++◌}
use Rattle.std.proofs.Common.{Option, Some, None, Ok}
use Rattle.std.proofs.lemmas.List.{append_assoc, append-nil}
use Rattle.layout_map.specs.declared.format.Format.{Format}
use Rattle.layout_map.specs.declared.format.Format.TheVariants.{One, Two}
use Rattle.serde_json.specs.Data.{Data, object}
use Rattle.serde_json.specs.View.{items_of}
use Rattle.serde_json.specs.Written.{compact_text, has_float, items_have_float}
use Rattle.recovery.specs.declared.examination.Examined.{Examined}
use Rattle.recovery.specs.Examining.{Examines, HasExamined}
use Rattle.recovery.specs.Making.{BankView}
use Rattle.recovery.specs.SetIds.{FindsIdAbove}
use Rattle.recovery.proofs.ExaminedSet.{lasts_by, outlook_still, slots_by}
use Rattle.sector_model.specs.declared.refusal.Refusal.{Refusal}
use Rattle.std.specs.Prelude.{Result}
use Rattle.volume_table.specs.declared.status.Status.{Status}
use Rattle.report.specs.Report.{members_of}
use Rattle.report.specs.Inspections.{IsStatusOf, entry_json, last_in, inspection_json, inspection_pairs, inspection_slot_json, inspection_slots_json}
use Rattle.report.specs.Inspections.{inspection_text}
use Rattle.set_commands.specs.Healths.{HealthAbove, HealthAt}
use Rattle.set_commands.specs.declared.serving.health.Health.{Health}
use Rattle.set_commands.specs.Examining.{IsInspectionText, InspectsAbove, InspectsOne, Puts, inspection_told}
use Rattle.set_commands.proofs.Served.{items_no_float}

-- ---- said under a stronger premise

module _ (honest still : Type 0) (goes_on : honest → still) where
  examined_still : (id : List ℕ) (old new : BankView) (examined : Examined) → HasExamined still id old new examined → HasExamined honest id old new examined
  examined_still id old new examined is = record {
    read = is.read;
    from = is.from;
    until = is.until;
    reads_from = λ fair. is.reads_from (goes_on fair);
    reads_until = λ fair. is.reads_until (goes_on fair);
    of_id = is.of_id;
    has_slots = is.has_slots;
    chosen = λ fair. is.chosen (goes_on fair);
    slots = slots_by honest still goes_on is.read examined.table examined.slots is.slots;
    outlook = outlook_still honest still goes_on is.read examined.table examined.outlook is.outlook;
    last = lasts_by honest still goes_on new examined.table examined.last is.last;
  }

  pub examines_still : (id : List ℕ) (old new : BankView) (answer : Result (Option Examined) Refusal) → Examines still id old new answer
      → Examines honest id old new answer
  examines_still id old new answer is = record {
    later = is.later;
    reads = λ fair. is.reads (goes_on fair);
    found = λ examined same. examined_still id old new examined (is.found examined same);
    none = λ fair. is.none (goes_on fair);
    cause = is.cause;
  }

  finds_still : (above : Option (List ℕ)) (old new : BankView) (answer : Result (Option (List ℕ)) Refusal) → FindsIdAbove still above old new answer
      → FindsIdAbove honest above old new answer
  finds_still above old new answer is = record {
    later = is.later;
    reads = λ fair. is.reads (goes_on fair);
    one = λ fair. is.one (goes_on fair);
    kept = is.kept;
    least = λ fair. is.least (goes_on fair);
    cause = is.cause;
  }

  pub at_still : (id : List ℕ) (json : Bool) (old new : BankView) (text : List ℕ) → InspectsOne still id json old new text
      → InspectsOne honest id json old new text
  at_still id json old new text is = record { found = is.found; examines = examines_still id old new (Ok is.found) is.examines; told = is.told }

  pub above_still : (json : Bool) (most : ℕ) (above : Option (List ℕ)) (old new : BankView) (text : List ℕ) → InspectsAbove still json most above old new text
      → InspectsAbove honest json most above old new text
  above_still json zero above old new text is = is
  above_still json (suc most) above old new text (inl (finds, none)) = inl (finds_still above old new (Ok None) finds, none)
  above_still json (suc most) above old new text (inr is) = inr (record {
    id = is.id;
    found = is.found;
    seen = is.seen;
    first = is.first;
    rest = is.rest;
    finds = finds_still above old is.found (Ok (Some is.id)) is.finds;
    inspections = at_still is.id json is.found is.seen is.first is.inspections;
    goes_on = above_still json most (Some is.id) is.seen new is.rest is.goes_on;
    told = is.told;
  })

  pub health_at_still : (id : List ℕ) (old new : BankView) (was is : Health) → HealthAt still id old new was is → HealthAt honest id old new was is
  health_at_still id old new was is at = record { found = at.found; examines = examines_still id old new (Ok at.found) at.examines; worse = at.worse }

  pub health_above_still : (most : ℕ) (above : Option (List ℕ)) (old new : BankView) (was is : Health) → HealthAbove still most above old new was is
      → HealthAbove honest most above old new was is
  health_above_still zero above old new was is all = all
  health_above_still (suc most) above old new was is (inl (finds, same)) = inl (finds_still above old new (Ok None) finds, same)
  health_above_still (suc most) above old new was is (inr all) = inr (record {
    id = all.id;
    found = all.found;
    seen = all.seen;
    mid = all.mid;
    finds = finds_still above old all.found (Ok (Some all.id)) all.finds;
    inspections = health_at_still all.id all.found all.seen was all.mid all.inspections;
    goes_on = health_above_still most (Some all.id) all.seen new all.mid is all.goes_on;
  })

-- ---- what is put after what there was

pub put_none : (bytes : List ℕ) (Is : List ℕ → Type 0) → Is [] → Puts bytes bytes Is
put_none bytes Is is = record { part = []; appended = sym (append-nil bytes); is = is }

pub put_as : (old new : List ℕ) (Is Will : List ℕ → Type 0) → Puts old new Is → ((part : List ℕ) → Is part → Will part) → Puts old new Will
put_as old new Is Will puts so = record { part = puts.part; appended = puts.appended; is = so puts.part puts.is }

pub put_then : (old mid new : List ℕ) (IsFirst IsRest Is : List ℕ → Type 0) → Puts old mid IsFirst → Puts mid new IsRest
    → ((first rest : List ℕ) → IsFirst first → IsRest rest → Is (first ++ rest)) → Puts old new Is
put_then old mid new IsFirst IsRest Is one other so = record {
  part = one.part ++ other.part;
  appended = other.appended ∙ ap (λ (bytes : List ℕ). bytes ++ other.part) one.appended ∙ append_assoc old one.part other.part;
  is = so one.part other.part one.is other.is;
}

-- ---- inspections one after another

module _ (honest : Type 0) (json : Bool) where
  pub none_left : (most : ℕ) (above : Option (List ℕ)) (bank : BankView) → most ≡ 0 → InspectsAbove honest json most above bank bank []
  none_left zero above bank is = (refl, refl)
  none_left (suc most) above bank is = absurd (omega (arith, is))

  pub none_above : (most : ℕ) (above : Option (List ℕ)) (old new : BankView) → most ≢ 0 → FindsIdAbove honest above old new (Ok None)
      → InspectsAbove honest json most above old new []
  none_above zero above old new some finds = absurd (some refl)
  none_above (suc most) above old new some finds = inl (finds, refl)

  pub one_more : (most less : ℕ) (above : Option (List ℕ)) (id : List ℕ) (old found seen new : BankView) (first rest : List ℕ) → most ≢ 0 → less ≡ most - 1
      → FindsIdAbove honest above old found (Ok (Some id)) → InspectsOne honest id json found seen first
      → InspectsAbove honest json less (Some id) seen new rest
      → InspectsAbove honest json most above old new (first ++ rest)
  one_more zero less above id old found seen new first rest some is finds inspections goes_on = absurd (some refl)
  one_more (suc most) less above id old found seen new first rest some is finds inspections goes_on = inr (record {
    id = id;
    found = found;
    seen = seen;
    first = first;
    rest = rest;
    finds = finds;
    inspections = inspections;
    goes_on = subst (λ (n : ℕ). InspectsAbove honest json n (Some id) seen new rest) (omega (arith, is)) goes_on;
    told = refl;
  })

-- ---- the worst of them

module _ (honest : Type 0) where
  pub health_none_left : (most : ℕ) (above : Option (List ℕ)) (bank : BankView) (was : Health) → most ≡ 0 → HealthAbove honest most above bank bank was was
  health_none_left zero above bank was is = (refl, refl)
  health_none_left (suc most) above bank was is = absurd (omega (arith, is))

  pub health_none_above : (most : ℕ) (above : Option (List ℕ)) (old new : BankView) (was : Health) → most ≢ 0 → FindsIdAbove honest above old new (Ok None)
      → HealthAbove honest most above old new was was
  health_none_above zero above old new was some finds = absurd (some refl)
  health_none_above (suc most) above old new was some finds = inl (finds, refl)

  pub health_one_more : (most less : ℕ) (above : Option (List ℕ)) (id : List ℕ) (old found seen new : BankView) (was mid is : Health) → most ≢ 0
      → less ≡ most - 1
      → FindsIdAbove honest above old found (Ok (Some id)) → HealthAt honest id found seen was mid → HealthAbove honest less (Some id) seen new mid is
      → HealthAbove honest most above old new was is
  health_one_more zero less above id old found seen new was mid is some fewer finds inspections goes_on = absurd (some refl)
  health_one_more (suc most) less above id old found seen new was mid is some fewer finds inspections goes_on = inr (record {
    id = id;
    found = found;
    seen = seen;
    mid = mid;
    finds = finds;
    inspections = inspections;
    goes_on = subst (λ (n : ℕ). HealthAbove honest n (Some id) seen new mid is) (omega (arith, fewer)) goes_on;
  })

-- ---- the text of an inspection

entry_no_float : (last : Option ℕ) → has_float (entry_json last) ≡ false
entry_no_float None = refl
entry_no_float (Some number) = refl

inspection_slot_no_float : (examined : Examined) (slot : ℕ) → has_float (inspection_slot_json examined slot) ≡ false
inspection_slot_no_float examined slot =
    ap (λ (b : Bool). b || false) (entry_no_float (last_in examined.table.geometry.members slot examined.last))

inspection_slots_no_float : (examined : Examined) (slots : ℕ) → items_have_float (items_of (inspection_slots_json examined slots)) ≡ false
inspection_slots_no_float examined zero = refl
inspection_slots_no_float examined (suc slot) =
    items_no_float (inspection_slots_json examined slot) (inspection_slot_json examined slot) (inspection_slots_no_float examined slot)
    (inspection_slot_no_float examined slot)

inspection_no_float_in : (format : Format) (status : Status) (examined : Examined)
    → has_float (object (members_of (inspection_pairs format status examined))) ≡ false
inspection_no_float_in One status examined = ap (λ (b : Bool). b || false) (inspection_slots_no_float examined (examined.table.geometry.members + 2))
inspection_no_float_in Two status examined = ap (λ (b : Bool). b || false) (inspection_slots_no_float examined (examined.table.geometry.members + 2))

inspection_no_float : (status : Status) (examined : Examined) → has_float (inspection_json status examined) ≡ false
inspection_no_float status examined = inspection_no_float_in status.format status examined

-- JSON and a newline after it
pub json_inspection : (examined : Examined) (json : Bool) (value : Data) (text : List ℕ) → json ≡ true
    → ((status : Status) → IsStatusOf examined.table status → value ≡ inspection_json status examined) → (has_float value ≡ false → text ≡ compact_text value)
    → IsInspectionText json examined (text ++ 10 ∷ [])
json_inspection examined json value text is same written status its =
    let value_is = same status its in
    let whole : text ≡ compact_text (inspection_json status examined) = written (ap has_float value_is ∙ inspection_no_float status examined)
    ∙ ap compact_text value_is in
    ap (λ (t : List ℕ). t ++ 10 ∷ []) whole ∙ ap (λ (b : Bool). inspection_told b status examined) (sym is)

-- lines
pub lines_inspection : (examined : Examined) (json : Bool) (text : List ℕ) → json ≡ false
    → ((status : Status) → IsStatusOf examined.table status → text ≡ inspection_text status examined) → IsInspectionText json examined text
lines_inspection examined json text is same status its = same status its ∙ ap (λ (b : Bool). inspection_told b status examined) (sym is)
