-- A slot of a store's set is given up.
use Rattle.std.proofs.Common.{◌≡◌, ◌≢◌, ◌⊎◌, inl, inr, ℕ, zero, suc, ◌+◌, ◌<◌, ◌≤◌, Bool, true, false, cond, not, nat_le, List, [], ◌∷◌, length, take, Option}
use Rattle.std.proofs.Common.{Some, None, Result, Ok, Err, refl, sym, ap, ap₂, subst, ◌∙◌, arith}
use Rattle.std.specs.Prelude.{is_ok, slice_set}
use Rattle.std.proofs.lemmas.Bool.{cases_eq, le-leb, lt-leb, true≢false}
use Rattle.std.proofs.lemmas.List.{get_or-set_other, get_or-set_same, length-set, set-get_or}
use Rattle.std.proofs.Math.Seq.{take-set-lt}
use Rattle.sector_model.specs.declared.refusal.Refusal.{Refusal}
use Rattle.sector_model.specs.declared.refusal.Refusal.TheVariants.{NotMissing, TwoLost, WouldLose, Worn}
use Rattle.sector_model.specs.declared.sector.Stop.{Stop}
use Rattle.sector_model.specs.declared.sector.Stop.TheVariants.{Down}
use Rattle.sector_model.specs.declared.sector.Stop.TheVariants.{Worn as StopWorn}
use Rattle.sector_model.specs.Bank.{IsTrueTo, Panel}
use Rattle.sector_model.specs.Calls.{Made}
use Rattle.sector_model.specs.History.{Bytes, History}
use Rattle.sector_model.proofs.Steps.{throughout_more}
use Rattle.layout_map.specs.declared.geometry.Geometry.{Geometry}
use Rattle.superblock.specs.declared.state.State.{State}
use Rattle.superblock.specs.declared.state.State.TheVariants.{InSync, Missing, Rebuilding}
use Rattle.superblock.specs.declared.table.Table.{Table}
use Rattle.superblock.specs.Cases.{Lost, MayBeOut, lost_from}
use Rattle.superblock.specs.Counted.{IsChosen}
use Rattle.superblock.specs.NextTables.{slots_of}
use Rattle.superblock.specs.Publishing.{publish_calls}
use Rattle.superblock.specs.States.{has_rebuilding, is_complete, position_in}
use Rattle.superblock.specs.Tables.{state_at}
use Rattle.array_io.specs.Believed.ArrayCalls.{Answer, MarksMissing, MayGiveUp}
use Rattle.array_io.specs.Steps.MarkingOn.{AreOthersInSync, IsOutBeside, MarksOn, answer_of}
use Rattle.array_io.specs.Believed.Settled.{IsLostSlot}
use Rattle.array_io.specs.Believed.Views.{ArrayView, EndsIt, DeviceFailed, IsEndOf, RestsOn}
use Rattle.array_io.proofs.Laws.Beginning.{state_in_sync}
use Rattle.array_io.proofs.Marks.MarkingCalls.{marking_up}
use Rattle.array_io.proofs.Marks.MarkingHolds.{missing_then, state_stays}
use Rattle.array_io.proofs.Marks.MarkingImages.{gets_it}
use Rattle.array_io.proofs.Marks.MarkingRests.{chosen_as_lost, gives_up}
use Rattle.volume_table.specs.SetReplies.{Devices, set_refusal, settled}
use Rattle.volume_table.specs.Stands.{IsSettledAfter, IsSettledOn, StandsThroughout, StoreView}
use Rattle.volume_table.specs.StoreCalls.{Applies, GivesUp, IncarnationsStay, lost_in, lost_unless, no_devices, set_of}
use Rattle.volume_table.specs.StoreFunctions.{FailsSlot}
use Rattle.volume_table.specs.VolumeStep.{Done, Fail, OnSet, Refused}
use Rattle.volume_table.specs.Volumes.{VolumeMap}
use Rattle.volume_table.proofs.OnSet.{are_devices, devices_leave, none_ended, none_rebuilding, refused_differ, refused_on_set, set_left_by, settled_still}
use Rattle.volume_table.proofs.OnSet.{stands_for, state_in, states_in}
use Rattle.volume_table.proofs.StoreSteps.{devices_in, generation_marked, generation_same, incarnations_marked, incarnations_same, length-set_of, made}
use Rattle.volume_table.proofs.StoreSteps.{no_position}

-- ---- whether another slot is out

-- all are in sync that are so one by one
all_in_sync : (states : List State) → ((k : ℕ) → k < length states → state_at states k ≡ InSync) → is_complete states ≡ true
all_in_sync [] each = refl
all_in_sync (state ∷ states) each = by_first state (each 0 (omega arith)) (all_in_sync states (λ k below. each (suc k) (omega (arith, below))))
  where
    by_first : (first : State) → first ≡ InSync → is_complete states ≡ true → is_complete (first ∷ states) ≡ true
    by_first InSync is rest = rest
    by_first Missing is rest = absurd (cc)
    by_first Rebuilding is rest = absurd (cc)

-- where all others are in sync, the set is complete but for the slot
pub complete_but : (table : Table) (slot : ℕ) → ((other : ℕ) → other < slots_of table → other ≢ slot → state_at table.states other ≡ InSync)
    → is_complete (slice_set (states_in table) slot InSync) ≡ true
complete_but table slot each = all_in_sync (slice_set (states_in table) slot InSync) (λ k below.
    let of_set : k < slots_of table = omega (arith, below, length-set (states_in table) slot InSync, length-set_of table) in
    elim (cases_eq k slot) [
      | inl same ↦ ap (state_at (slice_set (states_in table) slot InSync)) same
          ∙ get_or-set_same (states_in table) slot InSync Missing (omega (arith, of_set, same, length-set_of table))
      | inr apart ↦ get_or-set_other (states_in table) slot k InSync Missing apart ∙ state_in table k of_set ∙ each k of_set apart
    ])

pub in_sync_at : (states : List State) → is_complete states ≡ true → (k : ℕ) → k < length states → state_at states k ≡ InSync
in_sync_at [] all k below = absurd (omega arith)
in_sync_at (InSync ∷ states) all zero below = refl
in_sync_at (InSync ∷ states) all (suc k) below = in_sync_at states all k (omega (arith, below))
in_sync_at (Missing ∷ states) all k below = absurd (true≢false (sym all))
in_sync_at (Rebuilding ∷ states) all k below = absurd (true≢false (sym all))

-- and where it is, they are
pub others_in_sync : (table : Table) (slot : ℕ) → is_complete (slice_set (states_in table) slot InSync) ≡ true → AreOthersInSync table slot
others_in_sync table slot all other of_set apart =
    sym (get_or-set_other (states_in table) slot other InSync Missing apart ∙ state_in table other of_set)
    ∙ in_sync_at (slice_set (states_in table) slot InSync) all other (omega (arith, of_set, length-set (states_in table) slot InSync, length-set_of table))

-- ---- what the command is refused with

-- the refusal, by whether another slot is out and whether the set has no such slot
abbrev refusal_by : Bool → Bool → Option Refusal
refusal_by out past = cond out (Some WouldLose) (cond past (Some NotMissing) None)

abbrev is_out_beside : Table → ℕ → Bool
is_out_beside table slot = not (is_complete (slice_set (states_in table) slot InSync))

not_so : (b : Bool) → (b ≡ true → ⊥) → true ≡ not b
not_so true no_way = absurd (no_way refl)
not_so false no_way = refl

-- another slot of the set is out
pub one_other_out : (table : Table) (slot other : ℕ) → other < slots_of table → other ≢ slot → state_at table.states other ≢ InSync
    → true ≡ not (is_complete (slice_set (states_in table) slot InSync))
one_other_out table slot other of_set apart out =
    not_so (is_complete (slice_set (states_in table) slot InSync)) (λ complete. out (others_in_sync table slot complete other of_set apart))

-- so what is found of the others says whether the set is complete but for the slot
pub beside_out : (table : Table) (slot : ℕ) (answer : Bool) → (answer ≡ true → IsOutBeside table slot) → (answer ≡ false → AreOthersInSync table slot)
    → answer ≡ not (is_complete (slice_set (states_in table) slot InSync))
beside_out table slot true out in_sync =
    let is = out refl in
    one_other_out table slot is.other is.out.of_set is.apart is.out.out
beside_out table slot false out in_sync = sym (ap not (complete_but table slot (in_sync refl)))

pub would_lose : (table : Table) (slot : ℕ) → is_out_beside table slot ≡ true → set_refusal no_devices (Fail slot) (set_of table) ≡ Some WouldLose
would_lose table slot out = ap (λ (b : Bool). refusal_by b (nat_le (length (states_in table)) slot)) out

pub not_missing : (table : Table) (slot : ℕ) → is_out_beside table slot ≡ false → slots_of table ≤ slot
    → set_refusal no_devices (Fail slot) (set_of table) ≡ Some NotMissing
not_missing table slot none past =
    ap₂ refusal_by none (le-leb (length (states_in table)) slot (omega (arith, past, length-set_of table)))

pub admitted : (table : Table) (slot : ℕ) → is_out_beside table slot ≡ false → slot < slots_of table → set_refusal no_devices (Fail slot) (set_of table) ≡ None
admitted table slot none of_set =
    ap₂ refusal_by none (lt-leb (length (states_in table)) slot (omega (arith, of_set, length-set_of table)))

complete_if : (b : Bool) → not b ≡ false → b ≡ true
complete_if true is = refl
complete_if false is = absurd (true≢false is)

pub others_if_none : (table : Table) (slot : ℕ) → is_out_beside table slot ≡ false → AreOthersInSync table slot
others_if_none table slot none = others_in_sync table slot (complete_if (is_complete (slice_set (states_in table) slot InSync)) none)

-- ---- a refused command leaves its store as it is

done_differs : (refusal : Refusal) → Done ≡ Refused refusal → ⊥
done_differs refusal is = cc

pub fail_refused : (honest : Type 0) (slot : ℕ) (store : StoreView) (refusal : Refusal) → store.ended ≡ None → ¬ EndsIt refusal
    → set_refusal no_devices (Fail slot) (set_of store.array.table) ≡ Some refusal → Applies honest (OnSet (Fail slot)) store store (Refused refusal)
fail_refused honest slot store refusal alive goes refuses =
    refused_on_set honest (Fail slot) store refusal alive goes (λ lost. ap (λ o. lost_unless o lost slot) refuses) refuses

-- ---- a slot that is given up

-- A slot of a set whose other slots are in sync was marked missing, or that was refused.
pub record MarksOwn (honest : Type 0) (slot : ℕ) (old new : StoreView) (answer : Answer) : Type 0 where
  pub going : old.ended ≡ None
  pub same : new.keeps ≡ old.keeps
  pub of_set : slot < slots_of old.array.table
  pub none_out : is_out_beside old.array.table slot ≡ false
  pub marks : MarksMissing honest slot old.array new.array answer

module _ (honest : Type 0) (slot : ℕ) (old new : StoreView) (answer : Answer) (is : MarksOwn honest slot old new answer) where
  others : AreOthersInSync old.array.table slot
  others = others_if_none old.array.table slot is.none_out

  given : set_refusal no_devices (Fail slot) (set_of old.array.table) ≡ None
  given = admitted old.array.table slot is.none_out is.of_set

  lost_is : (lost : Option Lost) → lost_in (OnSet (Fail slot)) old.array.table lost ≡ lost_from lost slot
  lost_is lost = ap (λ o. lost_unless o lost slot) given

  -- what is lost already is the slot
  may_be_out : (lost : Option Lost) → IsLostSlot old.array.table lost → MayBeOut lost slot
  may_be_out None is_lost = tt
  may_be_out (Some lost) is_lost = elim (state_in_sync (state_at old.array.table.states slot)) [
    | inl in_sync ↦ absurd (some_lost (is_lost.none record {
      in_sync = λ other of_set. elim (cases_eq other slot) [
        | inl same ↦ ap (state_at old.array.table.states) same ∙ in_sync
        | inr apart ↦ others other of_set apart
      ];
    }))
    | inr out ↦ sym (is_lost.out slot record { of_set = is.of_set; out = out }).0
  ]
    where
      some_lost : Some lost ≡ None → ⊥
      some_lost none = cc

  may_give_up : (lost : Option Lost) (V : List Bytes) → RestsOn old.array lost V → MayGiveUp old.array slot lost (V ∷ [])
  may_give_up lost V rests = record {
    may = may_be_out lost rests.lost_slot;
    chosen = chosen_as_lost old.array.panel.devices old.array.table slot lost old.array.history
        (λ image. IsChosen old.array.table.id old.array.panel.devices image old.array.table) rests.chosen;
    holds = gives_up old.array.panel.devices old.array.table old.array.number slot lost V old.array.history rests is.of_set;
  }

  moments : honest → (lost : Option Lost) (volumes : VolumeMap) → IsSettledOn old lost volumes
      → StandsThroughout old.array.table old.array.panel.devices (lost_in (OnSet (Fail slot)) old.array.table lost) (volumes ∷ volumes ∷ []) old.array.history
      new.array.history
  moments fair lost volumes settled =
      subst (λ (l : Option Lost). StandsThroughout old.array.table old.array.panel.devices l (volumes ∷ volumes ∷ []) old.array.history new.array.history)
      (sym (lost_is lost))
      (throughout_more (stands_for old.array.table old.array.panel.devices (lost_from lost slot) settled.logical volumes settled.shown) new.array.history
      (is.marks.moments fair lost (settled.logical ∷ []) (may_give_up lost settled.logical settled.rests)))

  spared : (other : ℕ) → state_at old.array.table.states other ≡ InSync → ¬ GivesUp (OnSet (Fail slot)) old.array.table other
      → (state_at new.array.table.states other ≡ InSync) ⊎ (new.array.panel.down other ≡ true)
  spared other in_sync kept = elim is.marks.marked_or_not [
    | inl same ↦ inl (ap (λ (t : Table). state_at t.states other) same ∙ in_sync)
    | inr marked ↦ inl (state_stays old.array.table new.array.table slot marked other (λ one. kept (one, given)) ∙ in_sync)
  ]

  generation : new.array.table.generation ≤ old.array.table.generation + 2
  generation = elim is.marks.marked_or_not [
    | inl same ↦ generation_same old.array.table new.array.table same
    | inr marked ↦ generation_marked old.array.table new.array.table slot marked
  ]

  incarnations : IncarnationsStay (OnSet (Fail slot)) old.array.table new.array.table
  incarnations = elim is.marks.marked_or_not [
    | inl same ↦ incarnations_same (OnSet (Fail slot)) old.array.table new.array.table same
    | inr marked ↦ incarnations_marked (OnSet (Fail slot)) old.array.table new.array.table slot marked
  ]

  same_geometry : new.array.table.geometry ≡ old.array.table.geometry
  same_geometry = is.marks.goes_on.not_older.same_geometry

  same_slots : slots_of new.array.table ≡ slots_of old.array.table
  same_slots = ap (λ (g : Geometry). g.members + 2) same_geometry

  -- it is missing then, and all others are in sync
  missing_now : answer ≡ Ok tt → state_at new.array.table.states slot ≡ Missing
  missing_now ok = elim (is.marks.marked ok) [
    | inl (missing, same) ↦ ap (λ (t : Table). state_at t.states slot) same ∙ missing
    | inr (counted, marked) ↦ missing_then old.array.table new.array.table slot marked is.of_set
  ]

  in_sync_now : (other : ℕ) → other < slots_of old.array.table → other ≢ slot → state_at new.array.table.states other ≡ InSync
  in_sync_now other of_set apart = elim is.marks.marked_or_not [
    | inl same ↦ ap (λ (t : Table). state_at t.states other) same ∙ others other of_set apart
    | inr marked ↦ state_stays old.array.table new.array.table slot marked other apart ∙ others other of_set apart
  ]

  states_now : answer ≡ Ok tt → slice_set (states_in old.array.table) slot Missing ≡ states_in new.array.table
  states_now ok = elim (is.marks.marked ok) [
    | inl (missing, same) ↦ ap (slice_set (states_in old.array.table) slot) (sym (state_in old.array.table slot is.of_set ∙ missing))
        ∙ set-get_or (states_in old.array.table) slot Missing ∙ ap states_in (sym same)
    | inr (counted, marked) ↦ sym (take-set-lt (slots_of old.array.table) old.array.table.states slot Missing is.of_set)
        ∙ ap (take (slots_of old.array.table)) (sym marked.has_states)
        ∙ ap (λ (n : ℕ). take n new.array.table.states) (sym same_slots)
  ]

  none_then : answer ≡ Ok tt → has_rebuilding (states_in new.array.table) ≡ false
  none_then ok = none_rebuilding (states_in new.array.table) (λ k below rebuilding.
      let of_new : k < slots_of new.array.table = omega (arith, below, length-set_of new.array.table) in
      let now : state_at new.array.table.states k ≡ Rebuilding = sym (state_in new.array.table k of_new) ∙ rebuilding in
      elim (cases_eq k slot) [
        | inl same ↦ let gone : state_at new.array.table.states k ≡ Missing = ap (state_at new.array.table.states) same
            ∙ missing_now ok in let never : Missing ≡ Rebuilding = sym gone ∙ now in cc
        | inr apart ↦ let kept : state_at new.array.table.states k ≡ InSync =
            in_sync_now k (omega (arith, of_new, same_slots)) apart in let never : InSync ≡ Rebuilding = sym kept ∙ now in cc
      ])

  position_then : answer ≡ Ok tt → position_in (states_in new.array.table) old.array.table.position ≡ new.array.table.position
  position_then ok = ap (λ (b : Bool). cond b old.array.table.position 0) (none_then ok) ∙ sym (no_position new.array.table (none_then ok))

-- it was marked
pub fail_done : (honest : Type 0) (slot : ℕ) (old new : StoreView) → MarksOwn honest slot old new (Ok tt) → new.ended ≡ None
    → (honest → (other : ℕ) → other < slots_of old.array.table → DeviceFailed other old.array.panel new.array.panel
    → state_at new.array.table.states other ≡ Missing)
    → Applies honest (OnSet (Fail slot)) old new Done
fail_done honest slot old new is goes failure = record {
  ended = λ other kept. absurd (none_ended other (sym kept ∙ is.going));
  going = λ going. record {
    goes_on = is.marks.goes_on;
    generation = generation honest slot old new (Ok tt) is;
    incarnations = incarnations honest slot old new (Ok tt) is;
    spared = λ other of_set in_sync kept. spared honest slot old new (Ok tt) is other in_sync kept;
    set_left = λ unended. set_left_by honest (Fail slot) old new Done devices None (are_devices honest old.array new.array failure) admits refl
        (ap (λ (states : List State). settled devices (made states old.array.table.position)) (states_now honest slot old new (Ok tt) is refl)
        ∙ devices_leave old.array new.array old.array.table.position (position_then honest slot old new (Ok tt) is refl));
    ends = λ other same ends. absurd (done_differs other same);
    goes = λ unended. goes;
    listed = tt;
    scrubs = λ fair scrub. absurd scrub;
    moments = moments honest slot old new (Ok tt) is;
    answered = λ fair unended. tt;
    settled = λ fair unended lost volumes settled.
        subst (λ (l : Option Lost). IsSettledAfter l new volumes) (sym (lost_is honest slot old new (Ok tt) is lost))
        (settled_still old new lost (lost_from lost slot) volumes is.marks.goes_on is.same goes settled
        (is.marks.rests fair refl lost settled.logical (may_be_out honest slot old new (Ok tt) is lost settled.rests.lost_slot) settled.rests));
  };
}
  where
    devices : Devices
    devices = devices_in old.array new.array

    admits : set_refusal no_devices (Fail slot) (set_of old.array.table) ≡ None
    admits = given honest slot old new (Ok tt) is

-- a call that ended the array was refused with 15 or 16
ends_it : (old new : ArrayView) (refusal : Refusal) → IsEndOf old new ⊥ refusal → EndsIt refusal
ends_it old new TwoLost end = tt
ends_it old new Worn end = tt
ends_it old new refusal end = absurd end

-- it was refused with 15 or 16
pub fail_ended : (honest : Type 0) (slot : ℕ) (old new : StoreView) (refusal : Refusal) → MarksOwn honest slot old new (Err refusal) → new.ended ≡ Some refusal
    → Applies honest (OnSet (Fail slot)) old new (Refused refusal)
fail_ended honest slot old new refusal is ended = record {
  ended = λ other kept. absurd (none_ended other (sym kept ∙ is.going));
  going = λ going. record {
    goes_on = is.marks.goes_on;
    generation = generation honest slot old new (Err refusal) is;
    incarnations = incarnations honest slot old new (Err refusal) is;
    spared = λ other of_set in_sync kept. spared honest slot old new (Err refusal) is other in_sync kept;
    set_left = λ unended. absurd (unended it_ends);
    ends = λ other same ends. subst (λ (r : Refusal). (new.ended ≡ Some r) × IsEndOf old.array new.array ⊥ r) (refused_differ refusal other same) (ended, end);
    goes = λ unended. absurd (unended it_ends);
    listed = tt;
    scrubs = λ fair scrub. absurd scrub;
    moments = moments honest slot old new (Err refusal) is;
    answered = λ fair unended. tt;
    settled = λ fair unended. absurd (unended it_ends);
  };
}
  where
    end : IsEndOf old.array new.array ⊥ refusal
    end = is.marks.cause (inl (λ other out. elim (cases_eq other slot) [
      | inl same ↦ same
      | inr apart ↦ absurd (out.out (others honest slot old new (Err refusal) is other out.of_set apart))
    ])) refusal refl

    it_ends : EndsIt refusal
    it_ends = ends_it old.array new.array refusal end

-- ---- by what marking the slot did

pub fail_marked : (honest : Type 0) (slot : ℕ) (old new : StoreView) (answer : Answer) → old.ended ≡ None → new.keeps ≡ old.keeps
    → slot < slots_of old.array.table
    → is_out_beside old.array.table slot ≡ false → (answer ≡ Ok tt → new.ended ≡ old.ended)
    → ((refusal : Refusal) → answer ≡ Err refusal → new.ended ≡ Some refusal)
    → MarksMissing honest slot old.array new.array answer
    → (honest → answer ≡ Ok tt → (other : ℕ) → other < slots_of old.array.table → DeviceFailed other old.array.panel new.array.panel
    → state_at new.array.table.states other ≡ Missing)
    → FailsSlot honest slot old new answer
fail_marked honest slot old new (Ok done) going same of_set none goes_on ends marks failure =
    fail_done honest slot old new record { going = going; same = same; of_set = of_set; none_out = none; marks = marks } (goes_on refl ∙ going)
    (λ fair. failure fair refl)
fail_marked honest slot old new (Err refusal) going same of_set none goes_on ends marks failure =
    fail_ended honest slot old new refusal record { going = going; same = same; of_set = of_set; none_out = none; marks = marks } (ends refusal refl)

answered_ok : (result : Result (Unit {0}) Stop) → answer_of result ≡ Ok tt → is_ok result ≡ true
answered_ok (Ok done) is = refl
answered_ok (Err (Down device)) is = absurd (cc)
answered_ok (Err StopWorn) is = absurd (cc)

module _ (honest : Type 0) (slot : ℕ) (old_panel new_panel : Panel) (old_table new_table : Table) (old new : History) (answer : Answer)
    (marks : MarksOn honest slot old_panel new_panel old_table new_table old new answer) where
  pub marks_geometry : new_table.geometry ≡ old_table.geometry
  marks_geometry = elim marks [
    | inl left ↦ ap (λ (t : Table). t.geometry) left.same_table
    | inr is ↦ is.marked.same_geometry
  ]

  -- where the slot was marked, each other device of the set is up; and where nothing was done, none failed
  pub marks_failed : slot < slots_of old_table → (honest → IsTrueTo new_panel new) → honest → answer ≡ Ok tt → (other : ℕ) → other < slots_of old_table
      → DeviceFailed other old_panel new_panel
      → state_at new_table.states other ≡ Missing
  marks_failed of_set true_new fair ok other within failed = elim marks [
    | inl left ↦ absurd (true≢false (sym failed.is_down ∙ ap (λ (p : Panel). p.down other) left.same_panel ∙ failed.was_up))
    | inr is ↦ elim (cases_eq other slot) [
      | inl same ↦ ap (state_at new_table.states) same ∙ missing_then old_table new_table slot is.marked of_set
      | inr apart ↦
          let made = subst (λ (b : Bool). Made (publish_calls new_table None is.publishes.sectors) b old new) (answered_ok is.result (sym is.answered ∙ ok))
          (is.publishes.made fair) in
          let within_new : other < slots_of new_table = omega (arith, within, ap (λ (g : Geometry). g.members + 2) is.marked.same_geometry) in
          let up = marking_up new_table is.publishes.sectors old new made other
          (gets_it new_table other within_new (state_stays old_table new_table slot is.marked other apart ∙ is.others other within apart)) in
          absurd (true≢false (sym failed.is_down ∙ (true_new fair).down other ∙ up))
    ]
  ]
