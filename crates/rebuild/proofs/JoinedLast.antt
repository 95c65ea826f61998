-- Publishing a table that differs in one slot, whose device comes last, keeps what `publish_last` promises, however it ends.
use Rattle.std.proofs.Common.{◌≡◌, ◌≢◌, ◌⊎◌, inl, inr, ℕ, ◌+◌, ◌<◌, ◌≤◌, Bool, true, false, List, [], ◌∷◌, Option, Some, None, Result, Ok, Err, refl, sym, ◌∙◌}
use Rattle.std.proofs.Common.{ap, subst, arith}
use Rattle.std.specs.Prelude.{is_ok}
use Rattle.std.proofs.lemmas.Bool.{cases_eq}
use Rattle.std.proofs.lemmas.Result.{IfErr-at_err}
use Rattle.layout_map.specs.declared.geometry.Geometry.{Geometry}
use Rattle.sector_model.specs.declared.refusal.Refusal.{Refusal}
use Rattle.sector_model.specs.declared.refusal.Refusal.TheVariants.{TwoLost, Worn}
use Rattle.sector_model.specs.declared.sector.Stop.{Stop}
use Rattle.sector_model.specs.declared.sector.Stop.TheVariants as stop
use Rattle.sector_model.specs.declared.calls.TheConstants.{GREATEST_COUNT}
use Rattle.sector_model.specs.Bank.{IsCauseOf, IsTrueTo, Panel}
use Rattle.sector_model.specs.Calls.{Made}
use Rattle.sector_model.specs.History.{Bytes, History, is_down}
use Rattle.sector_model.specs.MemoryLaw.{length-seen}
use Rattle.superblock.specs.declared.state.State.TheVariants.{InSync, Missing}
use Rattle.superblock.specs.declared.table.Table.{Table}
use Rattle.superblock.specs.Cases.{Lost}
use Rattle.superblock.specs.Counted.{least_sectors}
use Rattle.superblock.specs.NextTables.{IsMarked, IsOut, slots_of}
use Rattle.superblock.specs.Publishing.{CanPublish, Publishes, publish_calls}
use Rattle.superblock.specs.SlotSteps.{IsStepAt}
use Rattle.superblock.specs.Tables.{state_at}
use Rattle.superblock.proofs.PublishedSlots.{IsFirst}
use Rattle.stripe_journal.proofs.OneEntryCalls.{made_down}
use Rattle.array_io.specs.Believed.ArrayCalls.{Answer, IsWithout, MarksMissing}
use Rattle.array_io.specs.Steps.MarkingOn.{IsWhyLeft, MarksOn, answer_of}
use Rattle.array_io.specs.Believed.Moments.{HoldsThroughout}
use Rattle.array_io.specs.Believed.Views.{ArrayView, EndsIt, GoesOn, HasItsSlots, IsEndOf, RestsAfter, RestsOn, view_of}
use Rattle.array_io.proofs.Calls.CallSteps.{goes_on_both}
use Rattle.array_io.proofs.Calls.DeviceSteps.{goes_on_later, its_slots_later}
use Rattle.array_io.proofs.Laws.Fresh.{in_sync_not_missing}
use Rattle.array_io.proofs.Marks.MarkMissing.{ends_marking, least_two, marks_missing}
use Rattle.array_io.proofs.Marks.MarkingHolds.{state_stays}
use Rattle.array_io.proofs.Tables.PublishImages.{gets_how}
use Rattle.array_io.proofs.Reading.ReadCall.{sectors_of}
use Rattle.array_io.proofs.Rest.SettledAgain.{rests_one}
use Rattle.array_io.proofs.Images.Spellings.{Spellings}
use Rattle.array_io.proofs.Tables.StepEnds.{one_fails, takes_rests, takes_throughout}
use Rattle.array_io.proofs.Tables.StepHolds.{step_not_older, step_slots}
use Rattle.array_io.proofs.Tables.StepMarked.{left_rests, left_throughout}
use Rattle.rebuild.specs.Joining.{IsTableAfter, MayJoin, PublishesLast}
use Rattle.rebuild.proofs.Joins.{JoinsFrom, lost_at, takes_from}

-- the conditions of `publish_last`
pub record CanJoin (panel : Panel) (table next : Table) (slot : ℕ) : Type 0 where
  pub step : IsStepAt table next slot
  pub out : state_at table.states slot ≢ InSync
  pub there : state_at next.states slot ≢ Missing
  pub its_slots : HasItsSlots table panel
  pub up : panel.down slot ≡ false
  pub fits : least_sectors table.geometry slot ≤ panel.sectors slot

differ : true ≡ false → ⊥
differ e = cc

-- the set's slots are slots of the bank by the next table too
pub its_slots_next : (panel : Panel) (table next : Table) (slot : ℕ) → CanJoin panel table next slot → HasItsSlots next panel
its_slots_next panel table next slot can = record {
  of_bank = omega (arith, can.its_slots.of_bank, step_slots table next slot can.step);
  fit = λ other of_set there up.
      let of_table : other < slots_of table = omega (arith, of_set, step_slots table next slot can.step) in
      subst (λ (g : Geometry). least_sectors g other ≤ panel.sectors other) (sym can.step.same_geometry) (elim (cases_eq other slot) [
        | inl same ↦ subst (λ (k : ℕ). least_sectors table.geometry k ≤ panel.sectors k) (sym same) can.fits
        | inr apart ↦ can.its_slots.fit other of_table (λ missing. in_sync_not_missing (sym (can.step.others_in_sync other of_table apart) ∙ missing)) up
      ]);
}

-- no device fails while a slot is marked missing to the end
pub marked_down : (honest : Type 0) (slot : ℕ) (old_panel new_panel : Panel) (table new_table : Table) (old new : History) (answer : Answer)
    → state_at table.states slot ≢ Missing
    → MarksOn honest slot old_panel new_panel table new_table old new answer → honest → answer ≡ Ok tt → (device : ℕ) → is_down new device ≡ is_down old device
marked_down honest slot old_panel new_panel table new_table old new answer there (inl left) fair ok device = by_why left.why
  where
    by_why : IsWhyLeft table slot answer → is_down new device ≡ is_down old device
    by_why (inl (gone, same)) = absurd (there gone)
    by_why (inr (inl (counted, beside, two))) = absurd (cc)
    by_why (inr (inr (counted, worn, others, is_worn))) = absurd (cc)
marked_down honest slot old_panel new_panel table new_table old new answer there (inr marked) fair ok device =
    made_down (subst (λ (b : Bool). Made (publish_calls new_table None marked.publishes.sectors) b old new) (all_ok marked.result marked.answered)
    (marked.publishes.made fair)) device
  where
    all_ok : (result : Result (Unit {0}) Stop) → answer ≡ answer_of result → is_ok result ≡ true
    all_ok (Ok done) same = refl
    all_ok (Err (stop.Down other)) same = absurd (cc)
    all_ok (Err stop.Worn) same = absurd (cc)

-- the other slots keep their states, whichever table stands then
pub others_stay : (old next : Table) (slot other : ℕ) (new : ArrayView) → IsStepAt old next slot → other ≢ slot → IsTableAfter old next slot new
    → state_at new.table.states other ≡ state_at old.states other
others_stay old next slot other new step apart (inl same) = ap (λ (t : Table). state_at t.states other) same
others_stay old next slot other new step apart (inr (inl same)) = ap (λ (t : Table). state_at t.states other) same ∙ step.states other apart
others_stay old next slot other new step apart (inr (inr marked)) = state_stays next new.table slot marked.0 other apart ∙ step.states other apart

same_some : (a b : ℕ) → Some a ≡ Some b → a ≡ b
same_some a b is = cc

same_refusal : (result : Result Bool Refusal) (a b : Refusal) → result ≡ Err a → result ≡ Err b → a ≡ b
same_refusal result a b first second = cc

-- so it may be published
pub can_publish_last : (panel : Panel) (table next : Table) (slot : ℕ) → CanJoin panel table next slot → CanPublish panel next (Some slot)
can_publish_last panel table next slot can = record {
  of_bank = (its_slots_next panel table next slot can).of_bank;
  last_in_set = λ last is. omega (arith, same_some slot last is, can.step.of_set, step_slots table next slot can.step);
  last_there = λ last is. subst (λ (k : ℕ). state_at next.states k ≢ Missing) (same_some slot last is) can.there;
  has_places = λ other of_set there up.
      let fits = (its_slots_next panel table next slot can).fit other of_set there up in omega (arith, fits, least_two next.geometry other);
}

module _ (spellings : Spellings) (honest : Type 0) (number : ℕ) (table next : Table) (slot : ℕ) (old_panel new_panel : Panel) (old new : History)
    (result : Result (Unit {0}) Stop)
    (can : CanJoin old_panel table next slot) (published : Publishes honest next (Some slot) old_panel new_panel old new result)
    (true_old : honest → IsTrueTo old_panel old) (true_new : honest → IsTrueTo new_panel new) where
  abbrev Was : ArrayView
  Was = view_of old_panel old table number

  devices : ℕ
  devices = old_panel.devices

  out : IsOut table slot
  out = record { of_set = can.step.of_set; out = can.out }

  joins_from : honest → (one : Lost) (V : List Bytes) → one.slot ≡ slot → RestsOn Was (Some one) V → MayJoin old_panel.devices table next slot old
      → JoinsFrom old_panel.devices number table next slot one V published.sectors old
  joins_from fair one V own rests may = record {
    settled = rests;
    leaves = sectors_of old_panel old (true_old fair);
    own = own;
    steps = record {
      step = can.step;
      only_last = λ other is. sym (same_some slot other is);
      last_there = λ is. can.there;
      gets_last = λ gets. refl;
      has_slots = can.its_slots.of_bank;
      spelled = published.spelled;
    };
    there = can.there;
    out = can.out;
    up = sym ((true_old fair).down slot) ∙ can.up;
    long = omega (arith, can.fits, (true_old fair).sectors slot, length-seen old slot);
    may = may;
  }

  -- by whichever slot was lost
  by_lost : (P : Option Lost → Type 0) (lost : Option Lost) (V : List Bytes) → RestsOn Was lost V
      → ((one : Lost) → one.slot ≡ slot → RestsOn Was (Some one) V → P (Some one)) → P lost
  by_lost P lost V rests then_is =
      let at = lost_at old_panel.devices number table slot old lost V rests out in
      subst P (sym at.1) (then_is at.0 at.2 (subst (λ (l : Option Lost). RestsOn Was l V) at.1 rests))

  moments : honest → (lost : Option Lost) (V : List Bytes) → RestsOn Was lost V → MayJoin old_panel.devices table next slot old
      → HoldsThroughout table old_panel.devices lost (V ∷ []) old new
  moments fair lost V rests may = by_lost (λ l. HoldsThroughout table old_panel.devices l (V ∷ []) old new) lost V rests (λ one own settled.
      takes_throughout spellings honest old_panel.devices number table next slot one V old_panel new_panel old new result published
      (takes_from spellings old_panel.devices number table next slot one V published.sectors old (joins_from fair one V own settled may)) fair)

  goes_on : GoesOn Was (view_of new_panel new next number)
  goes_on = record {
    later = published.later;
    not_older = step_not_older table next slot can.step;
    number = omega arith;
    its_slots = λ its. its_slots_later next old_panel new_panel published.later (its_slots_next old_panel table next slot can);
  }

  stays_on : GoesOn Was (view_of new_panel new table number)
  stays_on = goes_on_later old_panel new_panel old new table number published.later

  -- all of it was done
  pub joined_all : result ≡ Ok tt → PublishesLast honest next slot Was (view_of new_panel new next number) (Ok true)
  joined_all done = record {
    goes_on = goes_on;
    number = refl;
    taken = λ is. (refl, published.up slot done refl);
    failed = λ is. absurd (cc);
    table = inr (inl refl);
    others = λ fair open_still other apart. (true_new fair).down other
        ∙ made_down (subst (λ (b : Bool). Made (publish_calls next (Some slot) published.sectors) b old new) (ap is_ok done) (published.made fair)) other
        ∙ sym ((true_old fair).down other);
    moments = moments;
    rests = λ fair open_still lost V rests may. by_lost (λ l. RestsAfter l (view_of new_panel new next number) V) lost V rests (λ one own settled.
        rests_one new_panel old_panel.devices number table next (Some one) V new published.later.devices
        (takes_rests spellings honest old_panel.devices number table next slot one V old_panel new_panel old new result published
        (takes_from spellings old_panel.devices number table next slot one V published.sectors old (joins_from fair one V own settled may)) fair done
        (sectors_of new_panel new (true_new fair))));
    cause = λ refusal is. absurd (cc);
  }

  -- it was refused, and the table stays
  refused : (refusal : Refusal) → EndsIt refusal → IsEndOf Was (view_of new_panel new table number) ⊥ refusal
      → PublishesLast honest next slot Was (view_of new_panel new table number) (Err refusal)
  refused refusal ends why = record {
    goes_on = stays_on;
    number = refl;
    taken = λ is. absurd (cc);
    failed = λ is. absurd (cc);
    table = inl refl;
    others = λ fair open_still. absurd (open_still ends);
    moments = moments;
    rests = λ fair open_still. absurd (open_still ends);
    cause = λ other is. subst (IsEndOf Was (view_of new_panel new table number) ⊥) (same_refusal (Err refusal) refusal other refl is) why;
  }

  pub joined_worn : result ≡ Err stop.Worn → PublishesLast honest next slot Was (view_of new_panel new table number) (Err Worn)
  joined_worn is = refused Worn tt (inl (inl (published.cause stop.Worn is)))

  -- another device is down
  pub joined_two : (device : ℕ) → result ≡ Err (stop.Down device) → device ≢ slot
      → PublishesLast honest next slot Was (view_of new_panel new table number) (Err TwoLost)
  joined_two device is apart = refused TwoLost tt record {
    first = device;
    second = slot;
    apart = apart;
    first_of_set = of_set (gets_how next (Some slot) device (published.named device is));
    second_of_set = can.step.of_set;
    first_out = inl (published.cause (stop.Down device) is);
    second_out = inr can.out;
  }
    where
      of_set : IsFirst next (Some slot) device ⊎ (Some slot ≡ Some device) → device < slots_of table
      of_set (inl first) = omega (arith, first.of_set, step_slots table next slot can.step)
      of_set (inr same) = absurd (apart (sym (same_some slot device same)))

  -- the slot's device is down, once the others have the table
  module _ (missing : Table) (final_panel : Panel) (final : History) (answer : Answer) (failed : result ≡ Err (stop.Down slot))
      (marks : MarksOn honest slot new_panel final_panel next missing new final answer) (true_final : honest → IsTrueTo final_panel final) where
    abbrev Then : ArrayView
    Then = view_of final_panel final missing number

    of_next : slot < slots_of next
    of_next = omega (arith, can.step.of_set, step_slots table next slot can.step)

    down : new_panel.down slot ≡ true
    down = published.cause (stop.Down slot) failed

    its_new : HasItsSlots next new_panel
    its_new = its_slots_later next old_panel new_panel published.later (its_slots_next old_panel table next slot can)

    as_call : MarksMissing honest slot (view_of new_panel new next number) Then answer
    as_call = marks_missing spellings honest slot number new_panel final_panel next missing new final answer of_next its_new true_new marks

    goes : GoesOn Was Then
    goes = goes_on_both Was (view_of new_panel new next number) Then goes_on as_call.goes_on

    down_final : final_panel.down slot ≡ true
    down_final = as_call.goes_on.later.down slot down

    table_then : IsTableAfter table next slot Then
    table_then = elim as_call.marked_or_not [
      | inl same ↦ inr (inl same)
      | inr marked ↦ inr (inr (marked, down_final))
    ]

    is_down_new : honest → is_down new slot ≡ true
    is_down_new fair = sym ((true_new fair).down slot) ∙ down

    left_moments : honest → (lost : Option Lost) (V : List Bytes) → RestsOn Was lost V → MayJoin old_panel.devices table next slot old
        → HoldsThroughout table old_panel.devices lost (V ∷ []) old final
    left_moments fair lost V rests may = by_lost (λ l. HoldsThroughout table old_panel.devices l (V ∷ []) old final) lost V rests (λ one own settled.
        left_throughout spellings honest old_panel.devices number table next missing slot one V old_panel new_panel final_panel old new final result answer
        published
        (takes_from spellings old_panel.devices number table next slot one V published.sectors old (joins_from fair one V own settled may)) fair failed
        (is_down_new fair) marks)

    -- the slot is missing
    pub joined_and_failed : answer ≡ Ok tt → PublishesLast honest next slot Was Then (Ok false)
    joined_and_failed ok = record {
      goes_on = goes;
      number = refl;
      taken = λ is. absurd (cc);
      failed = λ is. (marked_then (as_call.marked ok), down_final);
      table = table_then;
      others = λ fair open_still other apart. (true_final fair).down other ∙ still_down fair other
          ∙ one_fails (publish_calls next (Some slot) published.sectors) (is_ok result) old new slot other (published.made fair).performed
          (sym ((true_old fair).down slot) ∙ can.up) (is_down_new fair) apart
          ∙ sym ((true_old fair).down other);
      moments = left_moments;
      rests = λ fair open_still lost V rests may. by_lost (λ l. RestsAfter l Then V) lost V rests (λ one own settled.
          rests_one final_panel old_panel.devices number table missing (Some one) V final (as_call.goes_on.later.devices ∙ published.later.devices)
          (left_rests spellings honest old_panel.devices number table next missing slot one V old_panel new_panel final_panel old new final result answer
          published
          (takes_from spellings old_panel.devices number table next slot one V published.sectors old (joins_from fair one V own settled may)) fair failed
          (is_down_new fair) marks ok
          (sectors_of final_panel final (true_final fair))));
      cause = λ refusal is. absurd (cc);
    }
      where
        marked_then : IsWithout next slot missing → IsMarked next slot missing
        marked_then (inl (gone, same)) = absurd (can.there gone)
        marked_then (inr (there, marked)) = marked

        still_down : honest → (other : ℕ) → is_down final other ≡ is_down new other
        still_down fair other = marked_down honest slot new_panel final_panel next missing new final answer can.there marks fair ok other

    -- marking was refused
    pub joined_and_refused : (refusal : Refusal) → answer ≡ Err refusal → PublishesLast honest next slot Was Then (Err refusal)
    joined_and_refused refusal is = record {
      goes_on = goes;
      number = refl;
      taken = λ same. absurd (cc);
      failed = λ same. absurd (cc);
      table = table_then;
      others = λ fair open_still. absurd (open_still (ends marks));
      moments = left_moments;
      rests = λ fair open_still. absurd (open_still (ends marks));
      cause = λ other same. subst (IsEndOf Was Then ⊥) (same_refusal (Err refusal) refusal other refl same) why;
    }
      where
        of_two : refusal ≡ TwoLost → IsEndOf Was Then ⊥ refusal
        of_two same = subst (IsEndOf Was Then ⊥) (sym same) (as_call.cause (inr down) TwoLost (is ∙ ap (λ (r : Refusal). Err r) same))

        of_worn : refusal ≡ Worn → (GREATEST_COUNT ≤ final_panel.calls) ⊎ ((GREATEST_COUNT ≤ table.generation + 1) × (GREATEST_COUNT ≤ missing.generation))
            → IsEndOf Was Then ⊥ refusal
        of_worn same worn = subst (IsEndOf Was Then ⊥) (sym same) (inl worn)

        by_why : IsWhyLeft next slot answer → missing ≡ next → IsEndOf Was Then ⊥ refusal
        by_why (inl (gone, ok)) same = absurd (can.there gone)
        by_why (inr (inl (there, beside, two))) same = of_two (cc)
        by_why (inr (inr (there, worn, others, is_worn))) same =
            of_worn (cc) (inr (omega (arith, worn, can.step.generation), omega (arith, worn, ap (λ (t : Table). t.generation) same)))

        by_result : (ended : Result (Unit {0}) Stop) → answer ≡ answer_of ended → ((s : Stop) → ended ≡ Err s → IsCauseOf final_panel s)
            → IsEndOf Was Then ⊥ refusal
        by_result (Ok done) same cause = absurd (cc)
        by_result (Err (stop.Down other)) same cause = of_two (cc)
        by_result (Err stop.Worn) same cause = of_worn (cc) (inl (cause stop.Worn refl))

        by_marks : MarksOn honest slot new_panel final_panel next missing new final answer → IsEndOf Was Then ⊥ refusal
        by_marks (inl left) = by_why left.why left.same_table
        by_marks (inr marked) = by_result marked.result marked.answered marked.publishes.cause

        why : IsEndOf Was Then ⊥ refusal
        why = by_marks marks

        ends : MarksOn honest slot new_panel final_panel next missing new final answer → EndsIt refusal
        ends m = IfErr-at_err EndsIt is
            (ends_marking honest slot new_panel final_panel next missing new final answer m)

-- what is promised of a bank that is honest later is promised of one that is honest now
pub published_as : {honest still : Type 0} {next : Table} {slot : ℕ} {old new : ArrayView} {result : Result Bool Refusal} → (honest → still)
    → PublishesLast still next slot old new result → PublishesLast honest next slot old new result
published_as more is = record {
  goes_on = is.goes_on;
  number = is.number;
  taken = is.taken;
  failed = is.failed;
  table = is.table;
  others = λ fair. is.others (more fair);
  moments = λ fair. is.moments (more fair);
  rests = λ fair. is.rests (more fair);
  cause = is.cause;
}
