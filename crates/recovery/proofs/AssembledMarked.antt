-- What assembling promises where it marks a slot missing.
use Rattle.std.proofs.Common.{◌≡◌, ◌≢◌, ◌⊎◌, inl, inr, ℕ, ◌+◌, ◌<◌, ◌≤◌, Bool, true, false, List, Option, Result, Ok, Err, refl, sym, ◌∙◌, ap, subst, subst₂}
use Rattle.std.proofs.lemmas.Bool.{cases_eq}
use Rattle.sector_model.specs.declared.refusal.Refusal.{Refusal}
use Rattle.sector_model.specs.declared.refusal.Refusal.TheVariants.{TwoLost, Worn}
use Rattle.sector_model.specs.declared.sector.Stop.{Stop}
use Rattle.sector_model.specs.declared.sector.Stop.TheVariants as stop
use Rattle.sector_model.specs.Bank.{IsLater, IsTrueTo, Panel}
use Rattle.sector_model.specs.History.{Bytes, History, MayLeave, Slots, is_down}
use Rattle.sector_model.specs.Moments.{Throughout}
use Rattle.sector_model.specs.Readable.{readable}
use Rattle.sector_model.proofs.Panels.{later_both}
use Rattle.sector_model.proofs.Readable.{readable_left}
use Rattle.sector_model.proofs.Steps.{throughout_last, throughout_more, throughout_on, up_seen}
use Rattle.layout_map.specs.declared.geometry.Geometry.{Geometry}
use Rattle.superblock.specs.declared.state.State.TheVariants.{InSync, Missing}
use Rattle.superblock.specs.declared.table.Table.{Table}
use Rattle.superblock.specs.Tables.{state_at}
use Rattle.superblock.specs.Cases.{Lost}
use Rattle.superblock.specs.Counted.{IsChosen, IsInFull, IsLive}
use Rattle.superblock.specs.Losses.{IsLostAt, IsSingleFailure}
use Rattle.superblock.specs.NextTables.{slots_of}
use Rattle.superblock.specs.Publishing.{place_of}
use Rattle.array_io.specs.Believed.ArrayCalls.{Answer}
use Rattle.array_io.specs.Steps.MarkingOn.{HasOtherSlots, IsMarkedOn, IsOutBeside, IsWhyLeft, MarksOn, answer_of}
use Rattle.array_io.specs.Believed.Moments.{HoldsThroughout}
use Rattle.array_io.specs.Believed.Views.{view_of}
use Rattle.array_io.proofs.Rest.AtRestImages.{Held}
use Rattle.array_io.proofs.Laws.Fresh.{in_sync_not_missing, lowest_apart, lowest_but, lowest_of_set}
use Rattle.array_io.proofs.Images.LossBefore.{was_lost}
use Rattle.array_io.proofs.Marks.MarkMissing.{others_stay}
use Rattle.array_io.proofs.Marks.MarkedEnd.{gets_others, result_ok, stays_throughout, up_then}
use Rattle.array_io.specs.Steps.CallSteps.{StaysDown}
use Rattle.array_io.proofs.Marks.MarkedWhole.{IsLostThen, MarksFrom, marks_chosen, marks_throughout, throughout_if_lost}
use Rattle.array_io.proofs.Marks.MarkingHolds.{missing_then, state_stays}
use Rattle.array_io.proofs.Marks.MarkingImages.{gets_is}
use Rattle.array_io.proofs.Marks.MarkingMoments.{calls_grow}
use Rattle.array_io.proofs.Images.Spellings.{Spellings}
use Rattle.recovery.specs.Assembling.{HasStatesOf, IsTwoLostThen, IsWornThen, MayAssemble}
use Rattle.recovery.specs.Making.{BankView, Outcome, bank_after, given_back, opened}
use Rattle.recovery.specs.Unwritten.{RefusesUnwritten}
use Rattle.recovery.specs.PuttingInOrder.{IsInOrder, PutsInOrder}
use Rattle.recovery.proofs.AssembledAnswer.{not_in_order, put_in_order}
use Rattle.recovery.proofs.AssembledCause.{HasOne, carried_then, cut_back, own_counts, two_lost_then, worn_then}
use Rattle.recovery.proofs.AssembledLaw.{HasSurveyed, calls_read, in_order, surveyed_from, surveyed_holds}
use Rattle.recovery.proofs.AssembledReads.{read_last}
use Rattle.recovery.proofs.AssembledRests.{marked_in_order}
use Rattle.recovery.proofs.AssembledSince.{IsOneOut, IsSeen, one_out_but, since}
use Rattle.recovery.proofs.AssembledStates.{states_without}
use Rattle.recovery.proofs.AssembledTable.{IsSurveyed, now_quiet, told}
use Rattle.recovery.proofs.AssembledUnwritten.{one_is_out}
use Rattle.recovery.proofs.AssembledWithout.{LeadsTo, marked_one}

-- a case by case: each image that a crash may leave is held by the table, and the slot is the lost one
pub record IsHeldThen (base table : Table) (devices : ℕ) (lost : Option Lost) (X : List (List Bytes)) (h : History) (after : Option Lost) (slot : ℕ) : Type 0
  where
    pub held : (image : Slots) → MayLeave h image → Held base devices table X image after
    pub its : IsLostThen lost h after slot

-- After the survey a slot is to be marked missing, on the bank as it stands some time later: either right away, where it is not live; or where its device
-- failed while superblocks were brought up.
pub record MarksLater (honest : Type 0) (id : List ℕ) (old mid before : BankView) (table : Table) (slot : ℕ) : Type 0 where
  pub surveyed : HasSurveyed honest id old mid table
  pub of_set : slot < slots_of table
  pub counted : state_at table.states slot ≢ Missing
  pub later : IsLater mid.panel before.panel
  pub others : HasOtherSlots slot table before.panel
  pub live : honest → (other : ℕ) → other < slots_of table → other ≢ slot → state_at table.states other ≢ Missing
      → IsLive old.panel.devices table other (readable mid.history other)
  pub leads : honest → LeadsTo table slot mid.history before.history
  pub run : honest → Throughout (StaysDown mid.history) mid.history before.history
  pub moments : honest → (base : Table) (lost : Option Lost) (X : List (List Bytes)) → IsSurveyed base table old.panel.devices lost X old.history mid.history
      → HoldsThroughout base old.panel.devices lost X mid.history before.history
  pub lost : honest → (base : Table) (lost : Option Lost) (X : List (List Bytes)) → IsSurveyed base table old.panel.devices lost X old.history mid.history
      → (after : Option Lost) → IsLostAt (slots_of base) lost before.history after → IsHeldThen base table old.panel.devices lost X before.history after slot
  pub gone : honest → is_down before.history slot ≡ false → ¬ IsLive old.panel.devices table slot (readable old.history slot)
  pub slot_out : honest → (is_down before.history slot ≡ true) ⊎ ¬ IsInFull old.panel.devices table slot (readable mid.history slot)
  pub beside : honest → IsOutBeside table slot → ¬ ¬ IsInFull old.panel.devices table slot (readable mid.history slot)

none_differ : Missing ≡ InSync → ⊥
none_differ is = cc

up_before : (b : Bool) → (b ≡ true → ⊥) → b ≡ false
up_before true never = absurd (never refl)
up_before false never = refl

flags_differ : true ≡ false → ⊥
flags_differ is = cc

module _ (spellings : Spellings) (honest marking : Type 0) (still : honest → marking) (id : List ℕ) (old mid before : BankView) (table : Table) (slot : ℕ)
    (m : MarksLater honest id old mid before table slot) where
  abbrev devices : ℕ
  devices = old.panel.devices

  from : honest → (base : Table) (lost : Option Lost) (X : List (List Bytes)) → base.id ≡ id → MayAssemble base lost X old
      → IsSurveyed base table devices lost X old.history mid.history
  from is_honest base lost X same_id may = surveyed_from honest id old mid table base lost X m.surveyed is_honest same_id may

  moments_before : honest → (base : Table) (lost : Option Lost) (X : List (List Bytes)) → base.id ≡ id → MayAssemble base lost X old
      → HoldsThroughout base devices lost X old.history before.history
  moments_before is_honest base lost X same_id may =
      let is_from = from is_honest base lost X same_id may in
      throughout_on mid.history (surveyed_holds spellings base table devices lost X old.history mid.history is_from) before.history
      (m.moments is_honest base lost X is_from)

  later_before : IsLater old.panel before.panel
  later_before = later_both old.panel mid.panel before.panel m.surveyed.later m.later

  -- one slot is out at most by the survey: this one, or one that the table does not call in sync
  one_out : honest → IsOneOut devices table mid.history
  one_out is_honest first second of_set of_set' not_full not_full' = elim (cases_eq first slot) [
    | inl is ↦ elim (cases_eq second slot) [
      | inl is' ↦ is ∙ sym is'
      | inr apart' ↦ absurd (m.beside is_honest (out_beside second of_set' not_full' apart') (not_full_at first is not_full))
    ]
    | inr apart ↦ elim (cases_eq second slot) [
      | inl is' ↦ absurd (m.beside is_honest (out_beside first of_set not_full apart) (not_full_at second is' not_full'))
      | inr apart' ↦ table.allowed.one_out first second of_set of_set' (not_in_sync first of_set not_full apart) (not_in_sync second of_set' not_full' apart')
    ]
  ]
    where
      not_full_at : (other : ℕ) → other ≡ slot → ¬ IsInFull devices table other (readable mid.history other)
          → ¬ IsInFull devices table slot (readable mid.history slot)
      not_full_at other is = subst (λ (k : ℕ). ¬ IsInFull devices table k (readable mid.history k)) is

      not_in_sync : (other : ℕ) → other < slots_of table → ¬ IsInFull devices table other (readable mid.history other) → other ≢ slot
          → state_at table.states other ≢ InSync
      not_in_sync other of_set out apart in_sync =
          out record { live = m.live is_honest other of_set apart (λ missing. in_sync_not_missing (sym in_sync ∙ missing)); in_sync = in_sync }

      out_beside : (other : ℕ) → other < slots_of table → ¬ IsInFull devices table other (readable mid.history other) → other ≢ slot → IsOutBeside table slot
      out_beside other of_set out apart = record { other = other; apart = apart; out = record { of_set = of_set; out = not_in_sync other of_set out apart } }

  unwritten_then : (outcome : Outcome) → (honest → StaysDown mid.history (bank_after outcome).history) → RefusesUnwritten honest id old outcome
  unwritten_then outcome = one_is_out spellings honest id old mid.history table outcome m.surveyed.reads m.surveyed.chosen one_out

  unwritten_left : (refusal : Refusal) → RefusesUnwritten honest id old (given_back before.panel before.history refusal)
  unwritten_left refusal = unwritten_then (given_back before.panel before.history refusal) (λ is_honest. (m.leads is_honest).stays_down)

  -- nothing was done

  left_two : honest → IsOutBeside table slot → IsTwoLostThen id devices old.history before.history
  left_two is_honest beside = two_lost_then id devices old.history mid.history before.history table slot beside.other record {
    from = calls_read old.history mid.history (m.surveyed.reads is_honest);
    until = calls_grow before.history (m.run is_honest);
    cut = cut_back mid.history before.history (m.run is_honest);
    chosen = m.surveyed.chosen is_honest;
    apart = λ same. beside.apart (sym same);
    first_of_set = m.of_set;
    second_of_set = beside.out.of_set;
    first_out = m.slot_out is_honest;
    second_out = inr (λ full. beside.out.out full.in_sync);
    unwritten = λ out out'. absurd (m.beside is_honest beside out);
  }

  left_by : (answer : Answer) (refusal : Refusal) → answer ≡ Err refusal → IsWhyLeft table slot answer
      → PutsInOrder honest id old (given_back before.panel before.history refusal)
  left_by answer refusal is (inl (missing, ok)) = absurd (m.counted missing)
  left_by answer refusal is (inr (inl (counted, beside, two))) =
      let same : TwoLost ≡ refusal = cc in
      subst (λ (r : Refusal). PutsInOrder honest id old (given_back before.panel before.history r)) same
      (not_in_order honest id old before TwoLost record {
        later = later_before;
        moments = moments_before;
        refused = tt;
        cause = λ is_honest. subst (λ (n : ℕ). IsTwoLostThen id n old.history before.history) (sym later_before.devices) (left_two is_honest beside);
        unwritten = unwritten_left TwoLost;
      })
  left_by answer refusal is (inr (inr (counted, worn, others, worn_is))) =
      let same : Worn ≡ refusal = cc in
      subst (λ (r : Refusal). PutsInOrder honest id old (given_back before.panel before.history r)) same
      (not_in_order honest id old before Worn record {
        later = later_before;
        moments = moments_before;
        refused = tt;
        cause = λ is_honest. inr (subst (λ (n : ℕ). IsWornThen id n (readable old.history)) (sym later_before.devices)
            (worn_then spellings id devices old.history mid.history table (read_last (m.surveyed.reads is_honest)) (m.surveyed.chosen is_honest) worn));
        unwritten = unwritten_left Worn;
      })

  -- the slot was marked

  module _ (new_panel : Panel) (new_table : Table) (new : History) (answer : Answer)
      (is : IsMarkedOn marking slot before.panel new_panel table new_table before.history new answer)
      (true_new : honest → IsTrueTo new_panel new) where
    later_new : IsLater old.panel new_panel
    later_new = later_both old.panel before.panel new_panel later_before is.publishes.later

    stays : honest → Throughout (StaysDown before.history) before.history new
    stays is_honest = stays_throughout marking table new_table slot before.panel new_panel before.history new answer is m.of_set (still is_honest)

    stays_end : honest → StaysDown before.history new
    stays_end is_honest = throughout_last new (stays is_honest)

    stays_new : honest → StaysDown mid.history new
    stays_new is_honest device down = stays_end is_honest device ((m.leads is_honest).stays_down device down)

    live_others : honest → (other : ℕ) → other < slots_of table → other ≢ slot → IsLive devices table other (readable mid.history other)
    live_others is_honest other of_set apart = m.live is_honest other of_set apart
        (λ missing. in_sync_not_missing (sym (is.others other of_set apart) ∙ missing))

    marks_from : (is_honest : honest) (base : Table) (lost : Option Lost) (X : List (List Bytes)) → IsSurveyed base table devices lost X old.history mid.history
        → (after : Option Lost) (lost_at : IsLostAt (slots_of base) lost before.history after)
        → (then : IsHeldThen base table devices lost X before.history after slot)
        → MarksFrom base table new_table devices slot lost X then.its.one before.history
    marks_from is_honest base lost X is_from after lost_at then = record {
      not_older = (then.held (readable before.history) (readable_left before.history)).not_older;
      marked = is.marked;
      of_set = m.of_set;
      has_slots = m.surveyed.has_slots;
      own = then.its.own;
      by = then.its.by;
      held = λ image may. subst (Held base devices table X image) then.its.is (then.held image may);
    }

    moments_marked : honest → (base : Table) (lost : Option Lost) (X : List (List Bytes)) → base.id ≡ id → MayAssemble base lost X old
        → HoldsThroughout base devices lost X old.history new
    moments_marked is_honest base lost X same_id may =
        let is_from = from is_honest base lost X same_id may in
        throughout_on before.history (moments_before is_honest base lost X same_id may) new
        (throughout_if_lost base devices lost X before.history new (stays is_honest) (λ after lost_at.
        let then = m.lost is_honest base lost X is_from after lost_at in
        marks_throughout spellings marking devices base table new_table slot lost X then.its.one before.panel new_panel before.history new is.result
        is.publishes
        (marks_from is_honest base lost X is_from after lost_at then) (still is_honest)))

    run_new : honest → Throughout (λ h. Unit {0}) mid.history new
    run_new is_honest = throughout_on before.history (throughout_more (λ h s. tt) before.history (m.run is_honest)) new
        (throughout_more (λ h s. tt) new (stays is_honest))

    missing : state_at new_table.states slot ≡ Missing
    missing = missing_then table new_table slot is.marked m.of_set

    slot_out_now : honest → (is_down new slot ≡ true) ⊎ ¬ IsInFull devices table slot (readable mid.history slot)
    slot_out_now is_honest = elim (m.slot_out is_honest) [
      | inl down ↦ inl (stays_end is_honest slot down)
      | inr out ↦ inr out
    ]

    -- a device that got the new table failed
    failed_two : honest → (device : ℕ) → is.result ≡ Err (stop.Down device) → IsTwoLostThen id devices old.history new
    failed_two is_honest device failed =
        let got = gets_is new_table device (is.publishes.named device failed) in
        let of_set : device < slots_of table = subst (λ (g : Geometry). device < g.members + 2) is.marked.same_geometry got.0 in
        let apart : device ≢ slot = λ same. none_differ (sym missing ∙ sym (ap (λ (k : ℕ). state_at new_table.states k) same) ∙ got.1) in
        two_lost_then id devices old.history mid.history new table device slot record {
          from = calls_read old.history mid.history (m.surveyed.reads is_honest);
          until = calls_grow new (run_new is_honest);
          cut = cut_back mid.history new (run_new is_honest);
          chosen = m.surveyed.chosen is_honest;
          apart = apart;
          first_of_set = of_set;
          second_of_set = m.of_set;
          first_out = inl (sym ((true_new is_honest).down device) ∙ is.publishes.cause (stop.Down device) failed);
          second_out = slot_out_now is_honest;
          unwritten = λ out out'. absurd (out record { live = live_others is_honest device of_set apart; in_sync = is.others device of_set apart });
        }

    refused_by : (result : Result (Unit {0}) Stop) → is.result ≡ result → (refusal : Refusal) → answer_of result ≡ Err refusal
        → PutsInOrder honest id old (given_back new_panel new refusal)
    refused_by (Ok done) result_is refusal same = absurd (cc)
    refused_by (Err (stop.Down device)) result_is refusal same =
        let two : TwoLost ≡ refusal = cc in
        subst (λ (r : Refusal). PutsInOrder honest id old (given_back new_panel new r)) two
        (not_in_order honest id old (record { panel = new_panel; history = new }) TwoLost record {
          later = later_new;
          moments = moments_marked;
          refused = tt;
          cause = λ is_honest. subst (λ (n : ℕ). IsTwoLostThen id n old.history new) (sym later_new.devices) (failed_two is_honest device result_is);
          unwritten = unwritten_then (given_back new_panel new TwoLost) stays_new;
        })
    refused_by (Err stop.Worn) result_is refusal same =
        let worn : Worn ≡ refusal = cc in
        subst (λ (r : Refusal). PutsInOrder honest id old (given_back new_panel new r)) worn
        (not_in_order honest id old (record { panel = new_panel; history = new }) Worn record {
          later = later_new;
          moments = moments_marked;
          refused = tt;
          cause = λ is_honest. inl (is.publishes.cause stop.Worn result_is);
          unwritten = unwritten_then (given_back new_panel new Worn) stays_new;
        })

    module _ (ok : answer ≡ Ok tt) where
      lost_mid : honest → (base : Table) (lost : Option Lost) → IsSingleFailure (slots_of base) lost new → IsSingleFailure (slots_of base) lost before.history
      lost_mid is_honest base lost single_failure =
          let was = was_lost (slots_of base) lost before.history new single_failure.0 (stays_end is_honest) single_failure.1 in
          (was.before, was.was)

      lost_then : honest → (base : Table) (lost : Option Lost) → IsSingleFailure (slots_of base) lost new → IsSingleFailure (slots_of base) lost mid.history
      lost_then is_honest base lost single_failure =
          let before_loss = lost_mid is_honest base lost single_failure in
          let was = was_lost (slots_of base) lost mid.history before.history before_loss.0 (m.leads is_honest).stays_down before_loss.1 in
          (was.before, was.was)

      rests : honest → (base : Table) (lost : Option Lost) (X : List (List Bytes)) → base.id ≡ id → MayAssemble base lost X old
          → IsSingleFailure (slots_of base) lost new
          → IsInOrder base lost X (view_of new_panel new new_table 0)
      rests is_honest base lost X same_id may single_failure =
          let is_from = from is_honest base lost X same_id may in
          let before_loss = lost_mid is_honest base lost single_failure in
          let then = m.lost is_honest base lost X is_from before_loss.0 before_loss.1 in
          let chosen = marks_chosen spellings marking devices base table new_table slot lost X then.its.one before.panel new_panel before.history new is.result
          is.publishes
          (marks_from is_honest base lost X is_from before_loss.0 before_loss.1 then) (still is_honest)
          (result_ok marking table new_table slot before.panel new_panel before.history new answer is m.of_set (still is_honest) ok) in
          let one = marked_one marking table new_table slot before.panel new_panel before.history new answer is m.of_set (still is_honest) ok devices
          mid.history (m.leads is_honest)
          (live_others is_honest) (now_quiet spellings base table devices lost X old.history mid.history is_from) chosen in
          in_order base new_table devices lost X new_panel new later_new.devices
          (marked_in_order devices table new_table slot is.publishes.sectors mid.history new one base lost X is_from.same_id
          (throughout_last new (moments_marked is_honest base lost X same_id may)))

      states : honest → (base : Table) (lost : Option Lost) (X : List (List Bytes)) → base.id ≡ id → MayAssemble base lost X old
          → IsSingleFailure (slots_of base) lost new
          → (one : Table) → IsChosen id devices (readable old.history) one → HasStatesOf one old (view_of new_panel new new_table 0)
      states is_honest base lost X same_id may single_failure one chosen =
          let is_from = from is_honest base lost X same_id may in
          let mid_loss = lost_then is_honest base lost single_failure in
          let known = told spellings base table devices lost X old.history mid.history is_from mid_loss.0 mid_loss.1 in
          let same : one ≡ table = known.was_chosen one (subst (λ (i : List ℕ). IsChosen i devices (readable old.history) one) (sym same_id) chosen) in
          subst (λ (t : Table). HasStatesOf t old (view_of new_panel new new_table 0)) (sym same)
          (states_without spellings table new_table slot old mid.history new new_panel (read_last (m.surveyed.reads is_honest)) record {
            marked = is.marked;
            of_set = m.of_set;
            live = live_others is_honest;
            gone = λ up. m.gone is_honest (up_before (is_down before.history slot) (λ down. flags_differ (sym (stays_end is_honest slot down) ∙ up)));
            up = λ other of_set apart. up_then marking table new_table slot before.panel new_panel before.history new answer is m.of_set (still is_honest) ok
                other
                (gets_others marking table new_table slot before.panel new_panel before.history new answer is m.of_set (still is_honest) other of_set apart);
          })

      -- a slot that the new table does not call in sync is the one that was marked
      seen : honest → IsSeen id devices old.history mid.history new table new_table
      seen is_honest = record {
        from = calls_read old.history mid.history (m.surveyed.reads is_honest);
        until = calls_grow new (run_new is_honest);
        cut = cut_back mid.history new (run_new is_honest);
        chosen = m.surveyed.chosen is_honest;
        carried = carried_then spellings id devices old.history mid.history table (read_last (m.surveyed.reads is_honest)) (m.surveyed.chosen is_honest);
        marked = inr (slot, m.of_set, is.marked);
        out = λ other of_set not_in_sync. elim (cases_eq other slot) [
          | inl same ↦ subst (λ (k : ℕ). (is_down new k ≡ true) ⊎ ¬ IsInFull devices table k (readable mid.history k)) (sym same) (slot_out_now is_honest)
          | inr apart ↦ absurd (not_in_sync (state_stays table new_table slot is.marked other apart ∙ is.others other of_set apart))
        ];
        one = one_out_but devices table mid.history slot
            (λ other of_set apart. record { live = live_others is_honest other of_set apart; in_sync = is.others other of_set apart });
      }

      -- the new table counts on the lowest other slot
      one_counts : honest → HasOne id devices new
      one_counts is_honest =
          let other = lowest_but slot in
          let of_set : other < slots_of table = lowest_of_set slot table.geometry.members in
          let gets = gets_others marking table new_table slot before.panel new_panel before.history new answer is m.of_set (still is_honest) other of_set
          (lowest_apart slot) in
          let up = up_then marking table new_table slot before.panel new_panel before.history new answer is m.of_set (still is_honest) ok other gets in
          let got = gets_is new_table other gets in
          own_counts id devices new_table other (is.publishes.sectors other) new (is.marked.same_id ∙ m.surveyed.of_id)
          (subst (λ (g : Geometry). g.members + 2 ≤ devices) (sym is.marked.same_geometry) m.surveyed.has_slots)
          (is.publishes.spelled other got.0 (λ none. in_sync_not_missing (sym got.1 ∙ none))) up
          (is.publishes.safe (still is_honest) (result_ok marking table new_table slot before.panel new_panel before.history new answer is m.of_set
          (still is_honest) ok) other gets _ (up_seen new other (place_of new_table) up))

      opened_by : PutsInOrder honest id old (opened new_panel new new_table 0)
      opened_by = put_in_order honest id old (view_of new_panel new new_table 0) record {
        later = later_new;
        of_id = is.marked.same_id ∙ m.surveyed.of_id;
        its_slots = others_stay before.panel new_panel table new_table slot m.of_set is.marked is.publishes.later m.others;
        moments = moments_marked;
        rests = rests;
        states = states;
        one = one_counts;
        unwritten = unwritten_then (opened new_panel new new_table 0) stays_new;
      } (λ is_honest. since id devices old mid.history new table new_table new_panel later_new.devices (seen is_honest))

  -- what the marking answered
  pub assembled_without : (new_panel : Panel) (new_table : Table) (new : History) (answer : Answer)
      → MarksOn marking slot before.panel new_panel table new_table before.history new answer
      → (honest → IsTrueTo new_panel new) → answer ≡ Ok tt → PutsInOrder honest id old (opened new_panel new new_table 0)
  assembled_without new_panel new_table new answer (inr is) true_new ok = opened_by new_panel new_table new answer is true_new ok
  assembled_without new_panel new_table new answer (inl left) true_new ok = absurd (not_ok left.why)
    where
      not_ok : IsWhyLeft table slot answer → ⊥
      not_ok (inl (missing, is)) = m.counted missing
      not_ok (inr (inl (counted, beside, two))) = cc
      not_ok (inr (inr (counted, worn, others, worn_is))) = cc

  pub not_assembled : (new_panel : Panel) (new_table : Table) (new : History) (answer : Answer) (refusal : Refusal)
      → MarksOn marking slot before.panel new_panel table new_table before.history new answer
      → (honest → IsTrueTo new_panel new) → answer ≡ Err refusal → PutsInOrder honest id old (given_back new_panel new refusal)
  not_assembled new_panel new_table new answer refusal (inr is) true_new refused =
      refused_by new_panel new_table new answer is true_new is.result refl refusal (sym is.answered ∙ refused)
  not_assembled new_panel new_table new answer refusal (inl left) true_new refused =
      subst₂ (λ (p : Panel) (h : History). PutsInOrder honest id old (given_back p h refusal)) (sym left.same_panel) (sym left.same_history)
      (left_by answer refusal refused left.why)
