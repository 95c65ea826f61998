-- What assembling promises by which slots were out: one of them, or none, and then the superblocks are brought up.
use Rattle.std.proofs.Common.{◌≡◌, ◌≢◌, inl, inr, ℕ, ◌<◌, ◌≤◌, true, false, List, Option, None, Result, Ok, Err, refl, sym, ◌∙◌, subst}
use Rattle.std.proofs.Common.{arith}
use Rattle.sector_model.specs.declared.refusal.Refusal.TheVariants.{Worn}
use Rattle.sector_model.specs.declared.sector.Stop.{Stop}
use Rattle.sector_model.specs.declared.sector.Stop.TheVariants as stop
use Rattle.sector_model.specs.Bank.{IsLater, IsTrueTo, Panel}
use Rattle.sector_model.specs.History.{Bytes, History, is_down}
use Rattle.sector_model.specs.Moments.{here}
use Rattle.sector_model.specs.Readable.{readable}
use Rattle.sector_model.proofs.Panels.{later_both, later_same}
use Rattle.sector_model.proofs.Readable.{readable_left}
use Rattle.sector_model.proofs.Steps.{throughout_last, throughout_more, throughout_on}
use Rattle.superblock.specs.declared.state.State.TheVariants.{Missing}
use Rattle.superblock.specs.declared.table.Table.{Table}
use Rattle.superblock.specs.Tables.{state_at}
use Rattle.superblock.specs.Cases.{Lost}
use Rattle.superblock.specs.Counted.{IsChosen, IsLive, least_sectors}
use Rattle.superblock.specs.NextTables.{slots_of}
use Rattle.superblock.specs.Publishing.{CanPublish}
use Rattle.array_io.specs.Steps.Bringing.{CountsOn}
use Rattle.array_io.specs.Steps.CallSteps.{StaysDown}
use Rattle.array_io.specs.Believed.Moments.{HoldsThroughout}
use Rattle.array_io.specs.Believed.Settled.{IsAllThere}
use Rattle.array_io.specs.Believed.Views.{HasItsSlots, view_of}
use Rattle.array_io.proofs.Marks.MarkMissing.{least_two}
use Rattle.array_io.proofs.Marks.MarkedWhole.{out_is_lost}
use Rattle.array_io.proofs.Marks.MarkingMoments.{calls_grow}
use Rattle.array_io.proofs.Images.Spellings.{Spellings}
use Rattle.recovery.specs.Assembling.{HasStatesOf, MayAssemble}
use Rattle.recovery.specs.StaleSuperblocks.{BringsUp}
use Rattle.recovery.specs.Making.{BankView, Outcome, bank_after, given_back, opened}
use Rattle.recovery.specs.Unwritten.{RefusesUnwritten}
use Rattle.recovery.specs.PuttingInOrder.{PutsInOrder}
use Rattle.recovery.specs.Surveying.{IsOutOf, IsThere}
use Rattle.recovery.specs.declared.survey.Out.TheVariants as out
use Rattle.recovery.proofs.AssembledAnswer.{not_in_order, put_in_order}
use Rattle.recovery.proofs.AssembledBrings.{brings_throughout, brought_held, brought_in_order, failed_is_lost, was_single_failure}
use Rattle.recovery.proofs.AssembledCause.{carried_then, cut_back, one_brought}
use Rattle.recovery.proofs.AssembledLaw.{HasSurveyed, calls_read, in_order, surveyed_from, surveyed_holds}
use Rattle.recovery.proofs.AssembledMarked.{MarksLater}
use Rattle.recovery.proofs.AssembledReads.{read_last}
use Rattle.recovery.proofs.AssembledSince.{one_out_there, since}
use Rattle.recovery.proofs.AssembledStates.{states_whole, still_live}
use Rattle.recovery.proofs.AssembledTable.{IsSurveyed, now_holds, told}
use Rattle.recovery.proofs.AssembledUnwritten.{one_is_out}
use Rattle.recovery.proofs.AssembledWithout.{leads_bringing, leads_nowhere}

differ : true ≡ false → ⊥
differ is = cc

-- one slot is out

pub marks_one : Spellings → (honest asked : Type 0) → (honest → asked) → (id : List ℕ) (old mid : BankView) (table : Table) (slot : ℕ)
    → HasSurveyed honest id old mid table
    → IsOutOf asked mid table (out.One slot) → MarksLater honest id old mid mid table slot
marks_one spellings honest asked still id old mid table slot has (is_gone, others) = record {
  surveyed = has;
  of_set = is_gone.of_set;
  counted = is_gone.counted;
  later = later_same mid.panel;
  others = record {
    of_bank = omega (arith, has.has_slots, has.later.devices);
    fit = λ other of_set apart there up. (others other of_set apart).1.long_enough;
  };
  live = λ is_honest other of_set apart there. subst (λ (n : ℕ). IsLive n table other (readable mid.history other)) has.later.devices
      ((others other of_set apart).1.live (still is_honest));
  leads = λ is_honest. leads_nowhere table slot mid.history;
  run = λ is_honest. here (λ device down. down);
  moments = λ is_honest base lost X from. here (now_holds spellings base table old.panel.devices lost X old.history mid.history from);
  lost = λ is_honest base lost X from after lost_at.
      let known = told spellings base table old.panel.devices lost X old.history mid.history from after lost_at in
      record {
        held = known.held;
        its = out_is_lost spellings base table old.panel.devices lost X mid.history after (known.held (readable mid.history) (readable_left mid.history))
            lost_at slot is_gone.of_set (dead is_honest);
      };
  gone = λ is_honest up live. dead is_honest (still_live old.panel.devices table old.history mid.history (read_last (has.reads is_honest)) slot up live);
  slot_out = λ is_honest. inr (λ full. dead is_honest full.live);
  beside = λ is_honest beside out. beside.out.out (others beside.other beside.out.of_set beside.apart).0;
}
  where
    dead : honest → ¬ IsLive old.panel.devices table slot (readable mid.history slot)
    dead is_honest live = is_gone.dead (still is_honest) (subst (λ (n : ℕ). IsLive n table slot (readable mid.history slot)) (sym has.later.devices) live)

-- no slot is out

-- all slots of the set that the table counts on are there
abbrev AreThere : (honest : Type 0) → BankView → Table → Type 0
AreThere honest bank table = (slot : ℕ) → slot < slots_of table → state_at table.states slot ≢ Missing → IsThere honest bank table slot

-- each is long enough
pub its_slots : (honest : Type 0) (mid : BankView) (table : Table) (panel : Panel) → slots_of table ≤ mid.panel.devices → IsLater mid.panel panel
    → ((slot : ℕ) → slot < slots_of table → state_at table.states slot ≢ Missing → IsThere honest mid table slot) → HasItsSlots table panel
its_slots honest mid table panel room later there = record {
  of_bank = omega (arith, room, later.devices);
  fit = λ slot of_set counted up. subst (λ (n : ℕ). least_sectors table.geometry slot ≤ n) (sym (later.sectors slot)) (there slot of_set counted).long_enough;
}

-- so superblocks of the table may be written
pub can_bring : (honest : Type 0) (mid : BankView) (table : Table) → slots_of table ≤ mid.panel.devices → IsOutOf honest mid table out.Nobody
    → CanPublish mid.panel table None
can_bring honest mid table room there = record {
  of_bank = room;
  last_in_set = λ last is. absurd (cc);
  last_there = λ last is. absurd (cc);
  has_places = λ slot of_set counted up. let long = (there slot of_set counted).long_enough in omega (arith, long, least_two table.geometry slot);
}

module _ (spellings : Spellings) (honest asked : Type 0) (still : honest → asked) (id : List ℕ) (old mid : BankView) (table : Table)
    (has : HasSurveyed honest id old mid table)
    (are_there : IsOutOf asked mid table out.Nobody) (panel : Panel) (new : History) (result : Result (Unit {0}) Stop)
    (brings : BringsUp asked table mid.panel panel mid.history new result) (true_new : honest → IsTrueTo panel new) where
  abbrev devices : ℕ
  devices = old.panel.devices

  room : slots_of table ≤ mid.panel.devices
  room = omega (arith, has.has_slots, has.later.devices)

  all_there : honest → IsAllThere devices table mid.history
  all_there is_honest slot of_set counted =
      subst (λ (n : ℕ). IsLive n table slot (readable mid.history slot)) has.later.devices ((are_there slot of_set counted).live (still is_honest))

  from : honest → (base : Table) (lost : Option Lost) (X : List (List Bytes)) → base.id ≡ id → MayAssemble base lost X old
      → IsSurveyed base table devices lost X old.history mid.history
  from is_honest base lost X same_id may = surveyed_from honest id old mid table base lost X has is_honest same_id may

  moments_from : honest → (base : Table) (lost : Option Lost) (X : List (List Bytes)) → IsSurveyed base table devices lost X old.history mid.history
      → HoldsThroughout base devices lost X mid.history new
  moments_from is_honest base lost X is_from =
      brings_throughout spellings base table devices lost X old.history mid.history brings.sectors is_from (all_there is_honest) brings.spelled asked mid.panel
      panel new result brings.brings (still is_honest)

  moments : honest → (base : Table) (lost : Option Lost) (X : List (List Bytes)) → base.id ≡ id → MayAssemble base lost X old
      → HoldsThroughout base devices lost X old.history new
  moments is_honest base lost X same_id may =
      let is_from = from is_honest base lost X same_id may in
      throughout_on mid.history (surveyed_holds spellings base table devices lost X old.history mid.history is_from) new
      (moments_from is_honest base lost X is_from)

  later : IsLater old.panel panel
  later = later_both old.panel mid.panel panel has.later brings.brings.later

  stays : honest → StaysDown mid.history new
  stays is_honest = (throughout_last new (brings.brings.moments (still is_honest))).stays_down

  one_out : (outcome : Outcome) → (honest → StaysDown mid.history (bank_after outcome).history) → RefusesUnwritten honest id old outcome
  one_out outcome = one_is_out spellings honest id old mid.history table outcome has.reads has.chosen
      (λ is_honest. one_out_there devices table mid.history (all_there is_honest))

  -- all superblocks are up to date
  pub assembled_whole : result ≡ Ok tt → PutsInOrder honest id old (opened panel new table 0)
  assembled_whole ok = put_in_order honest id old (view_of panel new table 0) record {
    later = later;
    of_id = has.of_id;
    its_slots = its_slots asked mid table panel room brings.brings.later are_there;
    moments = moments;
    rests = λ is_honest base lost X same_id may single_failure.
        let is_from = from is_honest base lost X same_id may in
        in_order base table devices lost X panel new later.devices
        (brought_in_order spellings base table devices lost X old.history mid.history brings.sectors is_from (all_there is_honest) brings.spelled asked
        mid.panel panel new result brings.brings
        (still is_honest) ok single_failure);
    states = λ is_honest base lost X same_id may single_failure one chosen.
        let is_from = from is_honest base lost X same_id may in
        let mid_loss = was_single_failure spellings base table devices lost X old.history mid.history brings.sectors is_from (all_there is_honest)
        brings.spelled asked mid.panel panel new result brings.brings
        (still is_honest) ok single_failure in
        let known = told spellings base table devices lost X old.history mid.history is_from mid_loss.0 mid_loss.1 in
        let same : one ≡ table = known.was_chosen one (subst (λ (i : List ℕ). IsChosen i devices (readable old.history) one) (sym same_id) chosen) in
        subst (λ (t : Table). HasStatesOf t old (view_of panel new table 0)) (sym same)
        (states_whole spellings table old mid.history new panel (read_last (has.reads is_honest)) (all_there is_honest)
        (brings.brings.none_failed (still is_honest) ok));
    one = λ is_honest.
        one_brought spellings id devices table brings.sectors mid.history new has.of_id has.has_slots (has.chosen is_honest) brings.spelled
        (throughout_last new (brings.brings.moments (still is_honest))) (brings.brings.none_failed (still is_honest) ok);
    unwritten = one_out (opened panel new table 0) stays;
  } (λ is_honest. since id devices old mid.history new table table panel later.devices record {
    from = calls_read old.history mid.history (has.reads is_honest);
    until = calls_grow new (brings.brings.moments (still is_honest));
    cut = cut_back mid.history new (brings.brings.moments (still is_honest));
    chosen = has.chosen is_honest;
    carried = carried_then spellings id devices old.history mid.history table (read_last (has.reads is_honest)) (has.chosen is_honest);
    marked = inl refl;
    out = λ slot of_set not_in_sync. inr (λ full. not_in_sync full.in_sync);
    one = one_out_there devices table mid.history (all_there is_honest);
  })

  -- no further call could be counted
  pub brought_worn : result ≡ Err stop.Worn → PutsInOrder honest id old (given_back panel new Worn)
  brought_worn is = not_in_order honest id old (record { panel = panel; history = new }) Worn record {
    later = later;
    moments = moments;
    refused = tt;
    cause = λ is_honest. inl (brings.brings.cause stop.Worn is);
    unwritten = one_out (given_back panel new Worn) stays;
  }

  -- a device failed
  pub marks_failed : (slot : ℕ) → result ≡ Err (stop.Down slot) → MarksLater honest id old mid (record { panel = panel; history = new }) table slot
  marks_failed slot is = record {
    surveyed = has;
    of_set = counted.of_set;
    counted = counted.there;
    later = brings.brings.later;
    others = record { of_bank = its.of_bank; fit = λ other of_set apart there up. its.fit other of_set there up };
    live = λ is_honest other of_set apart there. all_there is_honest other of_set there;
    leads = λ is_honest. leads_bringing table slot brings.sectors mid.history new (throughout_last new (brings.brings.moments (still is_honest)))
        (down is_honest);
    run = λ is_honest. throughout_more (λ h bringing. bringing.stays_down) new (brings.brings.moments (still is_honest));
    moments = moments_from;
    lost = λ is_honest base lost X is_from after lost_at. record {
      held = brought_held spellings base table devices lost X old.history mid.history brings.sectors is_from (all_there is_honest) brings.spelled asked
          mid.panel panel new result brings.brings
          (still is_honest) after lost_at;
      its = failed_is_lost spellings base table devices lost X old.history mid.history brings.sectors is_from (all_there is_honest) brings.spelled asked
          mid.panel panel new result brings.brings
          (still is_honest) after lost_at slot counted.of_set (down is_honest);
    };
    gone = λ is_honest up. absurd (differ (sym (down is_honest) ∙ up));
    slot_out = λ is_honest. inl (down is_honest);
    beside = λ is_honest beside out. beside.apart (table.allowed.one_out beside.other slot beside.out.of_set counted.of_set beside.out.out
        (λ in_sync. out record { live = all_there is_honest slot counted.of_set counted.there; in_sync = in_sync }));
  }
    where
      counted : CountsOn table slot
      counted = brings.brings.named slot is

      its : HasItsSlots table panel
      its = its_slots asked mid table panel room brings.brings.later are_there

      down : honest → is_down new slot ≡ true
      down is_honest = sym ((true_new is_honest).down slot) ∙ brings.brings.cause (stop.Down slot) is
