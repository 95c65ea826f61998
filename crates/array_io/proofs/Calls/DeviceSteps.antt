-- A step that calls one device: it is done, or no further call can be counted, or the device failed and its slot is marked missing.
use Rattle.std.proofs.Common.{◌≡◌, ◌≢◌, inl, inr, ℕ, ◌+◌, ◌<◌, ◌≤◌, Bool, true, false, List, Option, refl, sym, ◌∙◌, ap, subst, arith}
use Rattle.std.specs.Prelude.{Ok, Err, Result}
use Rattle.std.proofs.lemmas.Bool.{cases_eq}
use Rattle.sector_model.specs.declared.refusal.Refusal.{Refusal}
use Rattle.sector_model.specs.declared.refusal.Refusal.TheVariants.{TwoLost, Worn}
use Rattle.sector_model.specs.declared.sector.Stop.{Stop}
use Rattle.sector_model.specs.declared.sector.Stop.TheVariants as stop
use Rattle.sector_model.specs.Bank.{IsCauseOf, IsLater, IsTrueTo, Panel}
use Rattle.sector_model.specs.History.{Bytes, History, is_down, sector_of, seen}
use Rattle.sector_model.specs.Moments.{Throughout, here}
use Rattle.sector_model.proofs.Steps.{throughout_last, throughout_on, up_seen}
use Rattle.layout_map.specs.declared.geometry.Geometry.{Geometry}
use Rattle.superblock.specs.declared.state.State.TheVariants.{InSync, Missing}
use Rattle.superblock.specs.declared.table.Table.{Table}
use Rattle.superblock.specs.Cases.{Lost}
use Rattle.superblock.specs.Counted.{least_sectors}
use Rattle.superblock.specs.Losses.{IsSingleFailure}
use Rattle.superblock.specs.NextTables.{slots_of}
use Rattle.superblock.specs.Publishing.{place_of}
use Rattle.superblock.specs.Tables.{state_at}
use Rattle.superblock.proofs.LaterTables.{not_older_same}
use Rattle.stripe_journal.specs.OneEntry.{StaysOff}
use Rattle.stripe_journal.proofs.OneEntryCalls.{made_down}
use Rattle.array_io.specs.Believed.ArrayCalls.{Answer, IsWithout, MarksMissing}
use Rattle.array_io.specs.Steps.Bringing.{CountsOn}
use Rattle.array_io.specs.Steps.CallSteps.{CallsOne, IsPublishedOn, IsStepEnd, StaysDown, StepsOf}
use Rattle.array_io.specs.Steps.MarkingOn.{AreOthersInSync, IsWhyLeft, MarksOn, answer_of}
use Rattle.array_io.specs.Believed.Moments.{HoldsNow, HoldsThroughout}
use Rattle.array_io.specs.Believed.Views.{ArrayView, DeviceFailed, GoesOn, HasEnded, HasItsSlots, view_of}
use Rattle.array_io.specs.Steps.Writing.{HasFailedOnce}
use Rattle.array_io.proofs.Calls.CallSteps.{down_on, ended_by, goes_on_both}
use Rattle.array_io.proofs.Images.LossBefore.{was_lost}
use Rattle.array_io.proofs.Laws.Fresh.{lowest_apart, lowest_but, lowest_of_set}
use Rattle.array_io.proofs.Marks.FailedMarked.{MarkedOn, failed_marked}
use Rattle.array_io.proofs.Marks.MarkMissing.{marks_missing}
use Rattle.array_io.proofs.Marks.MarkedEnd.{gets_others, made, result_ok, stays_throughout, up_then}
use Rattle.array_io.proofs.Marks.MarkedWhole.{throughout_if_lost}
use Rattle.array_io.proofs.Marks.MarkingHolds.{missing_then}
use Rattle.array_io.proofs.Marks.MarkingImages.{gets_is}
use Rattle.array_io.proofs.Images.Spellings.{Spellings}

flags_differ : ¬ (true ≡ false)
flags_differ e = cc

states_differ : ¬ (Missing ≡ InSync)
states_differ e = cc

-- the set's slots stay slots of the bank
pub its_slots_later : (table : Table) (old new : Panel) → IsLater old new → HasItsSlots table old → HasItsSlots table new
its_slots_later table old new later has = record {
  of_bank = subst (λ (n : ℕ). slots_of table ≤ n) (sym later.devices) has.of_bank;
  fit = λ slot of_set there up. subst (λ (n : ℕ). least_sectors table.geometry slot ≤ n) (sym (later.sectors slot))
      (has.fit slot of_set there (was_up slot (old.down slot) refl up));
}
  where
    was_up : (slot : ℕ) (b : Bool) → old.down slot ≡ b → new.down slot ≡ false → old.down slot ≡ false
    was_up slot true down up = absurd (flags_differ (sym (later.down slot down) ∙ up))
    was_up slot false is up = is

-- what an array keeps over calls that leave its table
pub goes_on_later : (old new : Panel) (before now : History) (table : Table) (number : ℕ) → IsLater old new
    → GoesOn (view_of old before table number) (view_of new now table number)
goes_on_later old new before now table number later = record {
  later = later;
  not_older = not_older_same table;
  number = omega arith;
  its_slots = its_slots_later table old new later;
}

-- a slot that failed while one device was called is that device's
pub failed_is_it : (device : ℕ) (old_panel new_panel : Panel) (old new : History) → IsTrueTo old_panel old → IsTrueTo new_panel new
    → StaysOff (λ d. d ≡ device) old new → (slot : ℕ)
    → DeviceFailed slot old_panel new_panel → slot ≡ device
failed_is_it device old_panel new_panel old new was now off slot failed = elim (cases_eq slot device) [
  | inl same ↦ same
  | inr apart ↦ absurd (flags_differ (sym failed.is_down ∙ now.down slot ∙ off.others_down slot apart ∙ sym (was.down slot) ∙ failed.was_up))
]

-- over calls of one device that is up at their end no device failed
pub same_down : (device : ℕ) (old new : History) → StaysOff (λ d. d ≡ device) old new → is_down new device ≡ false → (other : ℕ)
    → is_down new other ≡ is_down old other
same_down device old new off up other = elim (cases_eq other device) [
  | inr apart ↦ off.others_down other apart
  | inl same ↦ subst (λ (d : ℕ). is_down new d ≡ is_down old d) (sym same) (up ∙ sym (was_up (is_down old device) refl))
]
  where
    was_up : (b : Bool) → is_down old device ≡ b → is_down old device ≡ false
    was_up true down = absurd (flags_differ (sym (off.stays_down device down) ∙ up))
    was_up false is = is

-- one slot is lost at most at the first moment, if it is so at the last
pub single_failure_before : (slots : ℕ) (lost : Option Lost) (old new : History) → Throughout (StaysDown old) old new → IsSingleFailure slots lost new
    → IsSingleFailure slots lost old
single_failure_before slots lost old new runs loss =
    let was = was_lost slots lost old new loss.0 (throughout_last new runs) loss.1 in
    (was.before, was.was)

module _ (spellings : Spellings) (honest : Type 0) {From : Type 0} (devices_of : From → ℕ) (base_of : From → Table) (lost_of : From → Option Lost)
    (list_of : From → List (List Bytes))
    (before after : From → Table → History → Type 0) (device number : ℕ) (table : Table) (old_panel mid_panel : Panel) (old mid : History)
    (true_old : honest → IsTrueTo old_panel old) (true_mid : honest → IsTrueTo mid_panel mid) where
  abbrev Holding : From → History → Type 0
  Holding from h = HoldsNow (base_of from) (devices_of from) (lost_of from) (list_of from) h

  abbrev Was : ArrayView
  Was = view_of old_panel old table number

  -- it is done
  pub step_done : CallsOne honest device old_panel mid_panel old mid (Ok tt)
      → (honest → (from : From) → before from table old → Throughout (Holding from) old mid × after from table mid)
      → StepsOf honest Holding before after Was (view_of mid_panel mid table number) (Ok tt)
  step_done calls done = record {
    goes_on = goes_on_later old_panel mid_panel old mid table number calls.later;
    stays = record {
      table = inl refl;
      failure = λ is goes slot of_set failed.
          let it = failed_is_it device old_panel mid_panel old mid (true_old is) (true_mid is) (calls.off is) slot failed in
          absurd (flags_differ (sym failed.is_down ∙ (true_mid is).down slot ∙ calls.none_failed is refl slot ∙ sym ((true_old is).down slot) ∙ failed.was_up));
    };
    number = refl;
    moments = λ is from at. (done is from at).0;
    reached = λ is ok from at. (done is from at).1;
    runs = calls.runs;
    carried = λ is ok. inl record { table = refl; front = calls.front is refl; down = calls.none_failed is refl };
    cause = λ refusal is. absurd (cc);
  }

  -- no further call can be counted
  pub step_worn : CallsOne honest device old_panel mid_panel old mid (Err stop.Worn)
      → (honest → (from : From) → before from table old → Throughout (Holding from) old mid)
      → StepsOf honest Holding before after Was (view_of mid_panel mid table number) (Err Worn)
  step_worn calls moments = record {
    goes_on = goes_on_later old_panel mid_panel old mid table number calls.later;
    stays = record { table = inl refl; failure = λ is goes slot of_set failed. absurd (goes tt) };
    number = refl;
    moments = moments;
    reached = λ is ok. absurd (cc);
    runs = calls.runs;
    carried = λ is ok. absurd (cc);
    cause = λ refusal is. inr (inl (cc, calls.cause stop.Worn refl));
  }

  -- the device failed
  module _ (new_panel : Panel) (new_table : Table) (new : History) (answer : Answer) (its_slots : HasItsSlots table old_panel) (counted : CountsOn table device)
      (calls : CallsOne honest device old_panel mid_panel old mid (Err (stop.Down device)))
      (marks : MarksOn honest device mid_panel new_panel table new_table mid new answer)
      (true_new : honest → IsTrueTo new_panel new) where
    abbrev Then : ArrayView
    Then = view_of new_panel new new_table number

    missing : MarksMissing honest device (view_of mid_panel mid table number) Then answer
    missing = marks_missing spellings honest device number mid_panel new_panel table new_table mid new answer counted.of_set
        (its_slots_later table old_panel mid_panel calls.later its_slots) true_mid marks

    is_down_then : mid_panel.down device ≡ true
    is_down_then = calls.cause (stop.Down device) refl

    goes : GoesOn Was Then
    goes = goes_on_both Was (view_of mid_panel mid table number) Then (goes_on_later old_panel mid_panel old mid table number calls.later) missing.goes_on

    none_missing : AreOthersInSync table device → (slot : ℕ) → slot < slots_of table → state_at table.states slot ≢ Missing
    none_missing others slot of_set gone = elim (cases_eq slot device) [
      | inl same ↦ counted.there (subst (λ (k : ℕ). state_at table.states k ≡ Missing) same gone)
      | inr apart ↦ states_differ (sym gone ∙ others slot of_set apart)
    ]

    -- why it ended
    marked_end : (refusal : Refusal) → answer ≡ Err refusal → IsStepEnd Was Then refusal
    marked_end refusal is = by_marks marks
      where
        two : refusal ≡ TwoLost → IsStepEnd Was Then refusal
        two same = inl (same, missing.cause (inr is_down_then) TwoLost (is ∙ ap (λ (r : Refusal). Err r) same))

        by_result : (result : Result (Unit {0}) Stop) → answer ≡ answer_of result → ((s : Stop) → result ≡ Err s → IsCauseOf new_panel s)
            → IsStepEnd Was Then refusal
        by_result (Ok done) same cause = absurd (cc)
        by_result (Err (stop.Down other)) same cause = two (cc)
        by_result (Err stop.Worn) same cause = inr (inl (cc, cause stop.Worn refl))

        by_why : IsWhyLeft table device answer → new_table ≡ table → IsStepEnd Was Then refusal
        by_why (inl (gone, ok)) same = absurd (counted.there gone)
        by_why (inr (inl (there, beside, is_two))) same = two (cc)
        by_why (inr (inr (there, worn, others, is_worn))) same = inr (inr (cc, worn, same, none_missing others))

        by_marks : MarksOn honest device mid_panel new_panel table new_table mid new answer → IsStepEnd Was Then refusal
        by_marks (inl left) = by_why left.why left.same_table
        by_marks (inr marked) = by_result marked.result marked.answered marked.publishes.cause

    -- at Ok the slot is missing, and no further device failed
    gone_then : answer ≡ Ok tt → state_at new_table.states device ≡ Missing
    gone_then ok = by_without (missing.marked ok)
      where
        by_without : IsWithout table device new_table → state_at new_table.states device ≡ Missing
        by_without (inl (gone, same)) = absurd (counted.there gone)
        by_without (inr (there, marked)) = missing_then table new_table device marked counted.of_set

    down_then : honest → answer ≡ Ok tt → (slot : ℕ) → is_down new slot ≡ is_down mid slot
    down_then is ok slot = by_marks marks
      where
        by_why : IsWhyLeft table device answer → is_down new slot ≡ is_down mid slot
        by_why (inl (gone, same)) = absurd (counted.there gone)
        by_why (inr (inl (there, beside, is_two))) = absurd (cc)
        by_why (inr (inr (there, worn, others, is_worn))) = absurd (cc)

        by_marks : MarksOn honest device mid_panel new_panel table new_table mid new answer → is_down new slot ≡ is_down mid slot
        by_marks (inl left) = by_why left.why
        by_marks (inr marked) = made_down (made honest table new_table device mid_panel new_panel mid new answer marked counted.of_set is ok) slot

    failed_then : honest → ¬ HasEnded answer → (slot : ℕ) → slot < slots_of table → DeviceFailed slot old_panel new_panel
        → state_at new_table.states slot ≡ Missing
    failed_then is open_still slot of_set failed = by_answer answer refl
      where
        by_answer : (a : Answer) → answer ≡ a → state_at new_table.states slot ≡ Missing
        by_answer (Err refusal) ended = absurd (open_still (subst HasEnded (sym ended) (ended_by Was Then refusal (marked_end refusal ended))))
        by_answer (Ok done) ok = elim (cases_eq slot device) [
          | inl same ↦ ap (state_at new_table.states) same ∙ gone_then ok
          | inr apart ↦ absurd (flags_differ (sym failed.is_down ∙ (true_new is).down slot ∙ down_then is ok slot ∙ (calls.off is).others_down slot apart
              ∙ sym ((true_old is).down slot) ∙ failed.was_up))
        ]

    -- what was down stays down
    marking_runs : honest → Throughout (StaysDown mid) mid new
    marking_runs is = by_marks marks
      where
        by_marks : MarksOn honest device mid_panel new_panel table new_table mid new answer → Throughout (StaysDown mid) mid new
        by_marks (inl left) = subst (λ (h : History). Throughout (StaysDown mid) mid h) (sym left.same_history) (here (λ other down. down))
        by_marks (inr marked) = stays_throughout honest table new_table device mid_panel new_panel mid new answer marked counted.of_set is

    runs : honest → Throughout (StaysDown old) old new
    runs is = down_on (calls.runs is) (marking_runs is)

    -- at Ok a superblock of the new table stands
    published : honest → answer ≡ Ok tt → IsPublishedOn table.id old_panel.devices new_table new
    published is ok = by_marks marks
      where
        by_why : IsWhyLeft table device answer → ⊥
        by_why (inl (gone, same)) = counted.there gone
        by_why (inr (inl (there, beside, is_two))) = cc
        by_why (inr (inr (there, worn, others, is_worn))) = cc

        by_marks : MarksOn honest device mid_panel new_panel table new_table mid new answer → IsPublishedOn table.id old_panel.devices new_table new
        by_marks (inl left) = absurd (by_why left.why)
        by_marks (inr marked) =
            let other = lowest_but device in
            let of_set : other < slots_of table = lowest_of_set device table.geometry.members in
            let gets = gets_others honest table new_table device mid_panel new_panel mid new answer marked counted.of_set is other of_set
            (lowest_apart device) in
            let up = up_then honest table new_table device mid_panel new_panel mid new answer marked counted.of_set is ok other gets in
            let got = gets_is new_table other gets in
            record {
              slot = other;
              sector = marked.publishes.sectors other;
              same_id = marked.marked.same_id;
              room = subst (λ (g : Geometry). g.members + 2 ≤ old_panel.devices) (sym marked.marked.same_geometry) its_slots.of_bank;
              stands = marked.publishes.spelled other got.0 (λ gone. states_differ (sym gone ∙ got.1));
              up = up;
              is_there = marked.publishes.safe is (result_ok honest table new_table device mid_panel new_panel mid new answer marked counted.of_set is ok) other
                  gets
                  (sector_of (seen new other) (place_of new_table)) (up_seen new other (place_of new_table) up);
            }

    -- the device failed, by what was so of it, where one slot was lost at most
    pub step_marked : (honest → (from : From) → before from table old → IsSingleFailure (slots_of (base_of from)) (lost_of from) old
        → Throughout (Holding from) old mid × HasFailedOnce (devices_of from) (base_of from) table (lost_of from) (list_of from) device mid)
        → (honest → (from : From) → before from table old → Throughout (StaysDown old) old new
        → (IsSingleFailure (slots_of (base_of from)) (lost_of from) old
        → HasFailedOnce (devices_of from) (base_of from) table (lost_of from) (list_of from) device mid
        × MarkedOn (devices_of from) (base_of from) table new_table (lost_of from) (list_of from) device mid new) → after from new_table new)
        → StepsOf honest Holding before after Was Then answer
    step_marked failed then_on = record {
      goes_on = goes;
      stays = record {
        table = elim missing.marked_or_not [
          | inl same ↦ inl same
          | inr marked ↦ inr record {
            slot = device;
            of_set = counted.of_set;
            counted = counted.there;
            is_down = missing.goes_on.later.down device is_down_then;
            marked = marked;
          }
        ];
        failure = failed_then;
      };
      number = refl;
      moments = λ is from at. throughout_if_lost (base_of from) (devices_of from) (lost_of from) (list_of from) old new (runs is)
          (λ was lost_at. throughout_on mid (failed is from at (was, lost_at)).0 new (by_marks is from at (was, lost_at)).0);
      reached = λ is ok from at. then_on is from at (runs is) (λ loss. ((failed is from at loss).1, (by_marks is from at loss).1 ok));
      runs = runs;
      carried = λ is ok. inr record {
        slot = device;
        of_set = subst (λ (g : Geometry). device < g.members + 2) (sym missing.goes_on.not_older.same_geometry) counted.of_set;
        missing = gone_then ok;
        published = published is ok;
      };
      cause = marked_end;
    }
      where
        by_marks : honest → (from : From) → before from table old → IsSingleFailure (slots_of (base_of from)) (lost_of from) old
            → HoldsThroughout (base_of from) (devices_of from) (lost_of from) (list_of from) mid new
            × (answer ≡ Ok tt → MarkedOn (devices_of from) (base_of from) table new_table (lost_of from) (list_of from) device mid new)
        by_marks is from at loss = failed_marked spellings honest (devices_of from) (base_of from) table new_table (lost_of from) (list_of from) device
            mid_panel new_panel mid new answer
            (failed is from at loss).1 is marks
