-- What `mark_missing` promises, by what it did.
use Rattle.std.proofs.Common.{◌≡◌, ◌≢◌, inl, inr, ℕ, ◌+◌, ◌<◌, ◌≤◌, Bool, true, false, List, [], ◌∷◌, Option, Some, None, Result, Ok, Err, refl}
use Rattle.std.proofs.Common.{sym, ◌∙◌, ap, subst, subst₂, arith}
use Rattle.std.specs.Prelude.{IfErr, is_ok}
use Rattle.sector_model.specs.declared.calls.TheConstants.{GREATEST_COUNT}
use Rattle.sector_model.specs.declared.refusal.Refusal.{Refusal}
use Rattle.sector_model.specs.declared.refusal.Refusal.TheVariants.{TwoLost, Worn}
use Rattle.sector_model.specs.declared.sector.Stop.{Stop}
use Rattle.sector_model.specs.declared.sector.Stop.TheVariants.{Down, Worn as StopWorn}
use Rattle.sector_model.specs.Bank.{IsLater, IsTrueTo, Panel}
use Rattle.sector_model.specs.Calls.{Made}
use Rattle.sector_model.specs.History.{Bytes, History}
use Rattle.sector_model.specs.Moments.{here}
use Rattle.sector_model.proofs.Panels.{later_same}
use Rattle.sector_model.proofs.Steps.{throughout_last}
use Rattle.layout_map.specs.declared.geometry.Geometry.{Geometry}
use Rattle.layout_map.specs.declared.sizes.TheConstants.{SUPERBLOCK_PLACES}
use Rattle.superblock.proofs.LeastSectors.{four_least}
use Rattle.superblock.specs.declared.state.State.TheVariants.{InSync, Missing}
use Rattle.superblock.specs.declared.table.Table.{Table}
use Rattle.superblock.specs.Tables.{state_at}
use Rattle.superblock.specs.Cases.{Lost, MayBeOut, lost_from}
use Rattle.superblock.specs.Counted.{IsChosen, least_sectors}
use Rattle.superblock.specs.Losses.{InEachImage}
use Rattle.superblock.specs.NextTables.{IsMarked, IsNotOlder, IsOut, slots_of}
use Rattle.superblock.specs.Publishing.{CanPublish, Publishes, publish_calls}
use Rattle.superblock.proofs.PublishSteps.{GetsIt, in_publish}
use Rattle.array_io.specs.Believed.ArrayCalls.{Answer, MarksMissing, MayMark}
use Rattle.array_io.specs.Steps.MarkingOn.{HasOtherSlots, IsWhyLeft, MarksOn, answer_of}
use Rattle.array_io.specs.Believed.Moments.{HoldsNow, HoldsThroughout}
use Rattle.array_io.specs.Believed.Views.{ArrayView, EndsIt, GoesOn, HasItsSlots, IsEndOf, IsTwoLost, RestsAfter, RestsOn, view_of}
use Rattle.array_io.proofs.Marks.MarkingCalls.{marking_up}
use Rattle.array_io.proofs.Marks.MarkingHolds.{marked_not_older, missing_then, state_stays}
use Rattle.array_io.proofs.Marks.MarkingImages.{gets_is, gets_it}
use Rattle.array_io.proofs.Marks.MarkingPublished.{GivesUp, published_chosen, published_throughout}
use Rattle.array_io.proofs.Marks.MarkingRests.{chosen_as_lost, gives_up, lost_is, marking_rests, rests_missing, whole_readable}
use Rattle.array_io.proofs.Images.Spellings.{Spellings}

none_differ : Missing ≡ InSync → ⊥
none_differ is = cc

flags_differ : true ≡ false → ⊥
flags_differ is = cc

same_not_older : (table : Table) → IsNotOlder table table
same_not_older table = record { same_id = refl; same_geometry = refl; generation = omega arith; incarnation = λ slot. omega arith }

-- nothing was done: a device is not called

unchanged : (array : ArrayView) → GoesOn array array
unchanged array = record { later = later_same array.panel; not_older = same_not_older array.table; number = omega arith; its_slots = λ its. its }

-- the slot is missing already
pub marks_again : (honest : Type 0) (slot : ℕ) (array : ArrayView) → slot < slots_of array.table → state_at array.table.states slot ≡ Missing
    → MarksMissing honest slot array array (Ok tt)
marks_again honest slot array of_set missing = record {
  goes_on = unchanged array;
  number = refl;
  marked = λ ok. inl (missing, refl);
  marked_or_not = inl refl;
  untouched = λ is. (refl, refl);
  moments = λ is_honest lost X may. here may.holds;
  chosen = λ is_honest ok lost X may. may.chosen;
  rests = λ is_honest ok lost V may rests. rests_missing array slot lost V of_set missing rests;
  cause = λ may refusal is. absurd (cc);
}

-- it is refused, with nothing done
pub refuses : (honest : Type 0) (slot : ℕ) (array : ArrayView) (why : Refusal) → state_at array.table.states slot ≢ Missing
    → (MayMark array slot → IsEndOf array array ⊥ why)
    → MarksMissing honest slot array array (Err why)
refuses honest slot array why counted end = record {
  goes_on = unchanged array;
  number = refl;
  marked = λ ok. absurd (cc);
  marked_or_not = inl refl;
  untouched = λ is. absurd (counted is);
  moments = λ is_honest lost X may. here may.holds;
  chosen = λ is_honest ok. absurd (cc);
  rests = λ is_honest ok. absurd (cc);
  cause = λ may refusal is. let same : why ≡ refusal = cc in subst (IsEndOf array array ⊥) same (end may);
}

-- where another slot is out, and the slot may be marked, its device is down
pub two_are_out : (array : ArrayView) (slot other : ℕ) → slot < slots_of array.table → IsOut array.table other → other ≢ slot → MayMark array slot
    → IsEndOf array array ⊥ TwoLost
two_are_out array slot other of_set out apart (inl alone) = absurd (apart (alone other out))
two_are_out array slot other of_set out apart (inr down) = record {
  first = other;
  second = slot;
  apart = apart;
  first_of_set = out.of_set;
  second_of_set = of_set;
  first_out = inr out.out;
  second_out = inl down;
}

-- the table has no further generation
pub worn_table : (array : ArrayView) → GREATEST_COUNT ≤ array.table.generation → IsEndOf array array ⊥ Worn
worn_table array worn = inl (inr (omega (arith, worn), worn))

-- the new table was published

ok_if : (result : Result (Unit {0}) Stop) → answer_of result ≡ Ok tt → result ≡ Ok tt
ok_if (Ok done) is = refl
ok_if (Err (Down device)) is = absurd (cc)
ok_if (Err StopWorn) is = absurd (cc)

-- The call marked the slot of an array whose other slots are in sync, and published the table.
pub record HasPublished (honest : Type 0) (slot number : ℕ) (old_panel new_panel : Panel) (old_table new_table : Table) (old new : History)
    (result : Result (Unit {0}) Stop) : Type 0 where
  pub of_set : slot < slots_of old_table
  pub counted : state_at old_table.states slot ≢ Missing
  pub others : (other : ℕ) → other < slots_of old_table → other ≢ slot → state_at old_table.states other ≡ InSync
  pub marked : IsMarked old_table slot new_table
  pub its_slots : HasItsSlots old_table old_panel
  pub true_to : honest → IsTrueTo old_panel old
  pub publishes : Publishes honest new_table None old_panel new_panel old new result

-- the set has as many slots
same_slots : (old_table new_table : Table) (slot : ℕ) → IsMarked old_table slot new_table → slots_of new_table ≡ slots_of old_table
same_slots old_table new_table slot marked = ap (λ (g : Geometry). g.members + 2) marked.same_geometry

apart_if : (old_table new_table : Table) (slot other : ℕ) → slot < slots_of old_table → IsMarked old_table slot new_table
    → state_at new_table.states other ≢ Missing → other ≢ slot
apart_if old_table new_table slot other of_set marked there is =
    there (ap (λ (k : ℕ). state_at new_table.states k) is ∙ missing_then old_table new_table slot marked of_set)

up_before : (b : Bool) → (b ≡ true → ⊥) → b ≡ false
up_before true never = absurd (never refl)
up_before false never = refl

-- the set's slots stay slots of the bank
others_of_bank : (old_panel new_panel : Panel) (old_table new_table : Table) (slot : ℕ) → IsMarked old_table slot new_table → IsLater old_panel new_panel
    → HasOtherSlots slot old_table old_panel → slots_of new_table ≤ new_panel.devices
others_of_bank old_panel new_panel old_table new_table slot marked later its =
    omega (arith, its.of_bank, later.devices, same_slots old_table new_table slot marked)

-- and those that are left are long enough
others_fit : (old_panel new_panel : Panel) (old_table new_table : Table) (slot other : ℕ) → slot < slots_of old_table → IsMarked old_table slot new_table
    → IsLater old_panel new_panel → HasOtherSlots slot old_table old_panel
    → other < slots_of new_table → state_at new_table.states other ≢ Missing → new_panel.down other ≡ false
    → least_sectors new_table.geometry other ≤ new_panel.sectors other
others_fit old_panel new_panel old_table new_table slot other of_set marked later its of_set' there up =
    let apart = apart_if old_table new_table slot other of_set marked there in
    let fits = its.fit other (subst (λ (n : ℕ). other < n) (same_slots old_table new_table slot marked) of_set') apart
    (λ is. there (state_stays old_table new_table slot marked other apart ∙ is))
    (up_before (old_panel.down other) (λ down. flags_differ (sym (later.down other down) ∙ up))) in
    subst (λ (g : Geometry). least_sectors g other ≤ new_panel.sectors other) (sym marked.same_geometry)
    (subst (λ (n : ℕ). least_sectors old_table.geometry other ≤ n) (sym (later.sectors other)) fits)

-- so the set has its slots as before
pub others_stay : (old_panel new_panel : Panel) (old_table new_table : Table) (slot : ℕ) → slot < slots_of old_table
    → IsMarked old_table slot new_table
    → IsLater old_panel new_panel
    → HasOtherSlots slot old_table old_panel → HasItsSlots new_table new_panel
others_stay old_panel new_panel old_table new_table slot of_set marked later its = record {
  of_bank = others_of_bank old_panel new_panel old_table new_table slot marked later its;
  fit = λ other of_set' there up. others_fit old_panel new_panel old_table new_table slot other of_set marked later its of_set' there up;
}

-- the same, where all were
slots_stay : (old_panel new_panel : Panel) (old_table new_table : Table) (slot : ℕ) → slot < slots_of old_table → IsMarked old_table slot new_table
    → IsLater old_panel new_panel
    → HasItsSlots old_table old_panel → HasItsSlots new_table new_panel
slots_stay old_panel new_panel old_table new_table slot of_set marked later its =
    others_stay old_panel new_panel old_table new_table slot of_set marked later
    (record { of_bank = its.of_bank; fit = λ other of_set' apart there up. its.fit other of_set' there up })

module _ (spellings : Spellings) (honest : Type 0) (slot number : ℕ) (old_panel new_panel : Panel) (old_table new_table : Table) (old new : History)
    (result : Result (Unit {0}) Stop)
    (has : HasPublished honest slot number old_panel new_panel old_table new_table old new result) where
  abbrev Chosen : Option Lost → Type 0
  Chosen lost = InEachImage old_panel.devices old_table old lost (λ image. IsChosen old_table.id old_panel.devices image old_table)

  missing : state_at new_table.states slot ≡ Missing
  missing = missing_then old_table new_table slot has.marked has.of_set

  gives : (one : Lost) → one.slot ≡ slot → Chosen (Some one) → GivesUp old_panel.devices old_table new_table slot one old
  gives one own chosen = record { marked = has.marked; of_set = has.of_set; own = own; has_slots = has.its_slots.of_bank; chosen = chosen }

  -- by what was lost before
  moments : honest → (lost : Option Lost) (X : List (List Bytes)) → MayBeOut lost slot → Chosen (lost_from lost slot)
      → HoldsNow old_table old_panel.devices (lost_from lost slot) X old
      → HoldsThroughout old_table old_panel.devices (lost_from lost slot) X old new
  moments is_honest lost X may chosen holds =
      let (one, is, own) = lost_is lost slot may in
      subst (λ (l : Option Lost). HoldsThroughout old_table old_panel.devices l X old new) (sym is)
      (published_throughout spellings honest old_panel.devices old_table new_table slot one old_panel new_panel old new result has.publishes
      (gives one own (subst Chosen is chosen))
      is_honest X (subst (λ (l : Option Lost). HoldsNow old_table old_panel.devices l X old) is holds))

  chosen_then : honest → result ≡ Ok tt → (lost : Option Lost) → MayBeOut lost slot → Chosen (lost_from lost slot)
      → InEachImage old_panel.devices new_table new (lost_from lost slot) (λ image. IsChosen new_table.id old_panel.devices image new_table)
  chosen_then is_honest ok lost may chosen =
      let (one, is, own) = lost_is lost slot may in
      subst (λ (l : Option Lost). InEachImage old_panel.devices new_table new l (λ image. IsChosen new_table.id old_panel.devices image new_table)) (sym is)
      (published_chosen spellings honest old_panel.devices old_table new_table slot one old_panel new_panel old new result has.publishes
      (gives one own (subst Chosen is chosen))
      is_honest ok)

  gets_new : (other : ℕ) → other < slots_of old_table → other ≢ slot → GetsIt new_table None other
  gets_new other of_set apart = gets_it new_table other (subst (λ (n : ℕ). other < n) (sym (same_slots old_table new_table slot has.marked)) of_set)
      (state_stays old_table new_table slot has.marked other apart ∙ has.others other of_set apart)

  all_made : honest → result ≡ Ok tt → Made (publish_calls new_table None has.publishes.sectors) true old new
  all_made is_honest ok = subst (λ (b : Bool). Made (publish_calls new_table None has.publishes.sectors) b old new) (ap is_ok ok) (has.publishes.made is_honest)

  rests_then : honest → result ≡ Ok tt → (lost : Option Lost) (V : List Bytes) → MayBeOut lost slot → RestsOn (view_of old_panel old old_table number) lost V
      → RestsAfter (lost_from lost slot) (view_of new_panel new new_table number) V
  rests_then is_honest ok lost V may rests =
      let chosen = chosen_as_lost old_panel.devices old_table slot lost old (λ image. IsChosen old_table.id old_panel.devices image old_table) rests.chosen in
      marking_rests new_panel old_panel.devices old_table new_table slot number lost V has.publishes.sectors old new has.publishes.later.devices
      (record {
        rests = rests;
        marked = has.marked;
        of_set = has.of_set;
        counted = has.counted;
        others = has.others;
        whole = whole_readable old_panel old (has.true_to is_honest);
        spelled = has.publishes.spelled;
        in_publish = throughout_last new (in_publish new_table None has.publishes.sectors (is_ok result) old new (has.publishes.made is_honest));
        gets = gets_new;
        safe = has.publishes.safe is_honest ok;
        up = λ other of_set apart. marking_up new_table has.publishes.sectors old new (all_made is_honest ok) other (gets_new other of_set apart);
      }) may
      (throughout_last new (moments is_honest lost (V ∷ []) may chosen (gives_up old_panel.devices old_table number slot lost V old rests has.of_set)))
      (chosen_then is_honest ok lost may chosen)

  -- why it was refused
  two_then : (device : ℕ) → result ≡ Err (Down device) → IsTwoLost (view_of new_panel new new_table number)
  two_then device is =
      let gets = gets_is new_table device (has.publishes.named device is) in
      record {
        first = device;
        second = slot;
        apart = λ same. none_differ (sym missing ∙ sym (ap (λ (k : ℕ). state_at new_table.states k) same) ∙ gets.1);
        first_of_set = gets.0;
        second_of_set = subst (λ (n : ℕ). slot < n) (sym (same_slots old_table new_table slot has.marked)) has.of_set;
        first_out = inl (has.publishes.cause (Down device) is);
        second_out = inr (λ in_sync. none_differ (sym missing ∙ in_sync));
      }

  ends : (ended : Result (Unit {0}) Stop) → result ≡ ended → (refusal : Refusal) → answer_of ended ≡ Err refusal
      → IsEndOf (view_of old_panel old old_table number) (view_of new_panel new new_table number) ⊥ refusal
  ends (Ok done) is refusal same = absurd (cc)
  ends (Err (Down device)) is refusal same =
      let two : TwoLost ≡ refusal = cc in
      subst (IsEndOf (view_of old_panel old old_table number) (view_of new_panel new new_table number) ⊥) two (two_then device is)
  ends (Err StopWorn) is refusal same =
      let worn : Worn ≡ refusal = cc in
      subst (IsEndOf (view_of old_panel old old_table number) (view_of new_panel new new_table number) ⊥) worn (inl (inl (has.publishes.cause StopWorn is)))

  pub marks_by_publishing : MarksMissing honest slot (view_of old_panel old old_table number) (view_of new_panel new new_table number) (answer_of result)
  marks_by_publishing = record {
    goes_on = record {
      later = has.publishes.later;
      not_older = marked_not_older old_table new_table slot has.marked;
      number = omega arith;
      its_slots = slots_stay old_panel new_panel old_table new_table slot has.of_set has.marked has.publishes.later;
    };
    number = refl;
    marked = λ ok. inr (has.counted, has.marked);
    marked_or_not = inr has.marked;
    untouched = λ is. absurd (has.counted is);
    moments = λ is_honest lost X may. moments is_honest lost X may.may may.chosen may.holds;
    chosen = λ is_honest ok lost X may. subst (λ (n : ℕ). InEachImage n new_table new (lost_from lost slot) (λ image. IsChosen new_table.id n image new_table))
        (sym has.publishes.later.devices)
        (chosen_then is_honest (ok_if result ok) lost may.may may.chosen);
    rests = λ is_honest ok lost V may rests. rests_then is_honest (ok_if result ok) lost V may rests;
    cause = λ may refusal same. ends result refl refusal same;
  }

-- a device of a set has both places of a superblock
pub least_two : (geometry : Geometry) (slot : ℕ) → SUPERBLOCK_PLACES ≤ least_sectors geometry slot
least_two geometry slot = omega (arith, four_least geometry slot)

-- the marked table may be published
pub can_publish : (panel : Panel) (old_table new_table : Table) (slot : ℕ) → slot < slots_of old_table → IsMarked old_table slot new_table
    → HasOtherSlots slot old_table panel
    → CanPublish panel new_table None
can_publish panel old_table new_table slot of_set marked its =
    record {
      of_bank = others_of_bank panel panel old_table new_table slot marked (later_same panel) its;
      last_in_set = λ last is. absurd (cc);
      last_there = λ last is. absurd (cc);
      has_places = λ other of_set' there up. omega (
        arith,
        others_fit panel panel old_table new_table slot other of_set marked (later_same panel) its of_set' there up,
        least_two new_table.geometry other,
      );
    }

-- all slots are long enough, and so the others are
pub but_one : (slot : ℕ) (table : Table) (panel : Panel) → HasItsSlots table panel → HasOtherSlots slot table panel
but_one slot table panel its = record { of_bank = its.of_bank; fit = λ other of_set apart there up. its.fit other of_set there up }

-- the set's slots are slots of the bank whatever was done
pub its_slots_stay : (honest : Type 0) (slot : ℕ) (old_panel new_panel : Panel) (old_table new_table : Table) (old new : History) (answer : Answer)
    → slot < slots_of old_table
    → HasItsSlots old_table old_panel → MarksOn honest slot old_panel new_panel old_table new_table old new answer → HasItsSlots new_table new_panel
its_slots_stay honest slot old_panel new_panel old_table new_table old new answer of_set its (inl left) =
    subst₂ (λ (t : Table) (p : Panel). HasItsSlots t p) (sym left.same_table) (sym left.same_panel) its
its_slots_stay honest slot old_panel new_panel old_table new_table old new answer of_set its (inr is) =
    others_stay old_panel new_panel old_table new_table slot of_set is.marked is.publishes.later (but_one slot old_table old_panel its)

-- what `mark_slot` did of an array's bank and table is what `mark_missing` promises
pub marks_missing : Spellings → (honest : Type 0) (slot number : ℕ) (old_panel new_panel : Panel) (old_table new_table : Table) (old new : History)
    (answer : Answer)
    → slot < slots_of old_table → HasItsSlots old_table old_panel → (honest → IsTrueTo old_panel old)
    → MarksOn honest slot old_panel new_panel old_table new_table old new answer
    → MarksMissing honest slot (view_of old_panel old old_table number) (view_of new_panel new new_table number) answer
marks_missing spellings honest slot number old_panel new_panel old_table new_table old new answer of_set its true_to (inl left) =
    subst (λ (p : Panel). MarksMissing honest slot array (view_of p new new_table number) answer) (sym left.same_panel)
    (subst (λ (t : Table). MarksMissing honest slot array (view_of old_panel new t number) answer) (sym left.same_table)
    (subst (λ (h : History). MarksMissing honest slot array (view_of old_panel h old_table number) answer) (sym left.same_history)
    (by_cause left.why)))
  where
    array : ArrayView
    array = view_of old_panel old old_table number

    by_cause : IsWhyLeft old_table slot answer → MarksMissing honest slot array array answer
    by_cause (inl (missing, is)) = subst (MarksMissing honest slot array array) (sym is) (marks_again honest slot array of_set missing)
    by_cause (inr (inl (counted, beside, is))) = subst (MarksMissing honest slot array array) (sym is)
        (refuses honest slot array TwoLost counted (two_are_out array slot beside.other of_set beside.out beside.apart))
    by_cause (inr (inr (counted, worn, others, is))) = subst (MarksMissing honest slot array array) (sym is)
        (refuses honest slot array Worn counted (λ may. worn_table array worn))
marks_missing spellings honest slot number old_panel new_panel old_table new_table old new answer of_set its true_to (inr is) =
    subst (MarksMissing honest slot (view_of old_panel old old_table number) (view_of new_panel new new_table number)) (sym is.answered)
    (marks_by_publishing spellings honest slot number old_panel new_panel old_table new_table old new is.result record {
      of_set = of_set;
      counted = is.counted;
      others = is.others;
      marked = is.marked;
      its_slots = its;
      true_to = true_to;
      publishes = is.publishes;
    })

-- whatever it was refused for, it is 15 or 16
ends_as : (result : Result (Unit {0}) Stop) → IfErr (answer_of result) (λ refusal. EndsIt refusal)
ends_as (Ok done) = tt
ends_as (Err (Down device)) = tt
ends_as (Err StopWorn) = tt

pub ends_marking : (honest : Type 0) (slot : ℕ) (old_panel new_panel : Panel) (old_table new_table : Table) (old new : History) (answer : Answer)
    → MarksOn honest slot old_panel new_panel old_table new_table old new answer → IfErr answer (λ refusal. EndsIt refusal)
ends_marking honest slot old_panel new_panel old_table new_table old new answer (inl left) = by_why left.why
  where
    by_why : IsWhyLeft old_table slot answer → IfErr answer (λ refusal. EndsIt refusal)
    by_why (inl (gone, is)) = subst (λ (a : Answer). IfErr a (λ refusal. EndsIt refusal)) (sym is) tt
    by_why (inr (inl (counted, beside, is))) = subst (λ (a : Answer). IfErr a (λ refusal. EndsIt refusal)) (sym is) tt
    by_why (inr (inr (counted, worn, others, is))) = subst (λ (a : Answer). IfErr a (λ refusal. EndsIt refusal)) (sym is) tt
ends_marking honest slot old_panel new_panel old_table new_table old new answer (inr is) =
    subst (λ (a : Answer). IfErr a (λ refusal. EndsIt refusal)) (sym is.answered) (ends_as is.result)
