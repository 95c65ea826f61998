-- Replacing a device: what its parts promise is what the whole does.
use Rattle.std.proofs.Common.{◌≡◌, ◌≢◌, ◌⊎◌, inl, inr, ℕ, ◌+◌, ◌<◌, ◌≤◌, Bool, true, false, List, [], ◌∷◌, Option, Result, Ok, Err, refl, sym, ◌∙◌, ap, subst}
use Rattle.std.proofs.Common.{arith}
use Rattle.std.specs.Prelude.{nat_lt, if◌then◌else◌}
use Rattle.std.proofs.lemmas.Bool.{cases_eq}
use Rattle.std.proofs.lemmas.Bool.Decides.{nat_tests}
use Rattle.std.proofs.lemmas.List.{get_or-set_same, get_or-set_other}
use Rattle.layout_map.specs.declared.geometry.Geometry.{Geometry}
use Rattle.sector_model.specs.declared.refusal.Refusal.{Refusal}
use Rattle.sector_model.specs.declared.refusal.Refusal.TheVariants.{NotMissing, NotUsable, TwoLost, Worn}
use Rattle.sector_model.specs.declared.sector.Stop.{Stop}
use Rattle.sector_model.specs.declared.sector.Stop.TheVariants as stop
use Rattle.sector_model.specs.Bank.{Panel}
use Rattle.sector_model.specs.History.{Bytes, History}
use Rattle.sector_model.proofs.Steps.{throughout_on}
use Rattle.superblock.specs.declared.state.State.{State}
use Rattle.superblock.specs.declared.state.State.TheVariants.{InSync, Missing, Rebuilding}
use Rattle.superblock.specs.declared.table.Table.{Table}
use Rattle.superblock.specs.Cases.{Lost}
use Rattle.superblock.specs.Counted.{least_sectors}
use Rattle.superblock.specs.NextTables.{IsJoined, joining_state, slots_of}
use Rattle.superblock.specs.SlotSteps.{IsStepAt}
use Rattle.superblock.specs.Tables.{incarnation_at, state_at}
use Rattle.array_io.specs.Believed.Moments.{HoldsThroughout}
use Rattle.array_io.specs.Believed.Settled.{trusts}
use Rattle.array_io.specs.Believed.ArrayCalls.{Answer}
use Rattle.array_io.specs.Believed.Views.{ArrayView, EndsIt, DeviceFailed, GoesOn, HasEnded, IsEndOf, RestsOn, view_of}
use Rattle.array_io.proofs.Rest.AtRestLost.{in_sync_apart}
use Rattle.array_io.proofs.Calls.CallSteps.{goes_on_both}
use Rattle.array_io.proofs.Calls.DeviceSteps.{goes_on_later}
use Rattle.array_io.proofs.Instances.{goes_on_at_rest, keeps_at_rest}
use Rattle.array_io.proofs.Marks.MarkingHolds.{missing_then}
use Rattle.array_io.proofs.Rest.SettledAgain.{lost_stays}
use Rattle.rebuild.proofs.JoinedLast.{others_stay}
use Rattle.rebuild.specs.Joining.{IsTableAfter, MayJoin, PublishesLast}
use Rattle.rebuild.specs.Preparing.{EndsBeside, IsPrepared, Prepares}
use Rattle.rebuild.specs.Replacing.{CanReplace, IsWhyNot}
use Rattle.rebuild.specs.Rebuilding.{IsJoinedOrNot, IsNoReplacing, IsNotMissing, IsUnusable, OthersKeepTheirs, Replaces}

differ : true ≡ false → ⊥
differ e = cc

missing_in_sync : Missing ≡ InSync → ⊥
missing_in_sync e = cc

is_missing : (table : Table) (slot : ℕ) → slot < slots_of table → state_at table.states slot ≡ Missing → ¬ IsNotMissing table slot
is_missing table slot of_set missing (inl beyond) = omega (arith, of_set, beyond)
is_missing table slot of_set missing (inr there) = there missing

-- nothing was done
refused_at_once : (honest : Type 0) (slot : ℕ) (array : ArrayView) (refusal : Refusal) → IsNoReplacing array array slot refusal
    → (IsNotMissing array.table slot → refusal ≡ NotMissing) → Replaces honest slot array array (Err refusal)
refused_at_once honest slot array refusal why where_not_missing = record {
  goes_on = goes_on_at_rest array;
  number = refl;
  others = λ other of_set apart. record { state = inl refl };
  joined = λ answered. absurd (cc);
  may_join = λ answered. absurd (cc);
  refused = λ other is. inl refl;
  failure = λ fair open_still other of_set failed. absurd (differ (sym failed.is_down ∙ failed.was_up));
  nothing = λ not_missing. (ap (λ (r : Refusal). Err r) (where_not_missing not_missing), refl);
  keeps = keeps_at_rest honest array _;
  cause = λ other is. subst (IsNoReplacing array array slot) (same refusal other refl is) why;
}
  where
    same : {answer : Answer} (a b : Refusal) → answer ≡ Err a → answer ≡ Err b → a ≡ b
    same a b first second = cc

pub replace_refused : (honest : Type 0) (slot : ℕ) (array : ArrayView) (refusal : Refusal) → IsWhyNot array.panel array.table slot refusal
    → Replaces honest slot array array (Err refusal)
replace_refused honest slot array refusal (inl (is, not_missing)) =
    subst (λ (r : Refusal). Replaces honest slot array array (Err r)) (sym is)
    (refused_at_once honest slot array NotMissing (not_missing, refl) (λ not_missing. refl))
replace_refused honest slot array refusal (inr (inl (is, without))) =
    subst (λ (r : Refusal). Replaces honest slot array array (Err r)) (sym is)
    (refused_at_once honest slot array NotUsable (is_missing array.table slot without.of_set without.missing, without.unusable, without.missing)
    (λ not_missing. absurd (is_missing array.table slot without.of_set without.missing not_missing)))
replace_refused honest slot array refusal (inr (inr (is, worn))) =
    subst (λ (r : Refusal). Replaces honest slot array array (Err r)) (sym is) (refused_at_once honest slot array Worn (elim worn.full [
      | inl generation ↦ inl (inr (omega (arith, generation), generation))
      | inr incarnation ↦ inr incarnation
    ]) (λ not_missing. absurd (is_missing array.table slot worn.of_set worn.missing not_missing)))

-- the joined table

-- the slot's place is one of the ten
pub slot_within : (table : Table) (slot : ℕ) → slot < slots_of table → slot < 10
slot_within table slot of_set = omega (arith, of_set, table.geometry.limits.members_most)

pub joined_state : (table next : Table) (slot : ℕ) → slot < slots_of table → IsJoined table slot next → state_at next.states slot ≡ joining_state table slot
joined_state table next slot of_set joined =
    ap (λ (l : List State). state_at l slot) joined.has_states
    ∙ get_or-set_same table.states slot (joining_state table slot) Missing (omega (arith, slot_within table slot of_set, table.allowed.ten_states))

pub joined_incarnation : (table next : Table) (slot : ℕ) → slot < slots_of table → IsJoined table slot next
    → incarnation_at next.incarnations slot ≡ incarnation_at table.incarnations slot + 1
joined_incarnation table next slot of_set joined =
    ap (λ (l : List ℕ). incarnation_at l slot) joined.has_incarnations
    ∙ get_or-set_same table.incarnations slot (incarnation_at table.incarnations slot + 1) 0
    (omega (arith, slot_within table slot of_set, table.allowed.ten_incarnations))

pub joined_step : (table next : Table) (slot : ℕ) → slot < slots_of table → state_at table.states slot ≡ Missing → IsJoined table slot next
    → IsStepAt table next slot
joined_step table next slot of_set missing joined = record {
  of_set = of_set;
  same_id = joined.same_id;
  same_geometry = joined.same_geometry;
  generation = joined.generation;
  others_in_sync = λ other below apart. in_sync_apart table slot other (record { of_set = of_set; out = λ is. missing_in_sync (sym missing ∙ is) }) below apart;
  states = λ other apart. ap (λ (l : List State). state_at l other) joined.has_states
      ∙ get_or-set_other table.states slot other (joining_state table slot) Missing apart;
  incarnations = λ other apart. ap (λ (l : List ℕ). incarnation_at l other) joined.has_incarnations
      ∙ get_or-set_other table.incarnations slot other (incarnation_at table.incarnations slot + 1) 0 apart;
  incarnation = omega (arith, joined_incarnation table next slot of_set joined);
}

joining_there : (b : Bool) → (if b then Rebuilding else InSync) ≢ Missing
joining_there true is = cc
joining_there false is = cc

pub joined_there : (table next : Table) (slot : ℕ) → slot < slots_of table → IsJoined table slot next → state_at next.states slot ≢ Missing
joined_there table next slot of_set joined missing = joining_there (nat_lt slot table.geometry.members)
    (sym (joined_state table next slot of_set joined) ∙ missing)

-- it trusts no own sector of a member that has joined
joined_trusts : (table next : Table) (slot row : ℕ) → slot < slots_of table → IsJoined table slot next → slot < table.geometry.members
    → trusts (state_at next.states slot) row next.position ≡ true → ⊥
joined_trusts table next slot row of_set joined within counts =
    by_test (nat_lt slot table.geometry.members) refl (subst (λ (s : State). trusts s row 0 ≡ true) (joined_state table next slot of_set joined)
    (subst (λ (p : ℕ). trusts (state_at next.states slot) row p ≡ true) joined.has_position counts))
  where
    none_below : (r : ℕ) → nat_lt r 0 ≡ true → ⊥
    none_below r is = grind (arith, nat_tests, is)

    not_member : nat_lt slot table.geometry.members ≡ false → ⊥
    not_member is = grind (arith, nat_tests, is, within)

    by_test : (b : Bool) → nat_lt slot table.geometry.members ≡ b → trusts (if b then Rebuilding else InSync) row 0 ≡ true → ⊥
    by_test true is counts = none_below row counts
    by_test false is counts = not_member is

-- a prepared device may join
pub prepared_may_join : (devices : ℕ) (table next : Table) (slot : ℕ) (h : History) → slot < slots_of table → state_at table.states slot ≡ Missing
    → IsJoined table slot next
    → IsPrepared devices table slot h → MayJoin devices table next slot h
prepared_may_join devices table next slot h of_set missing joined prepared = record {
  device = inr (joined_incarnation table next slot of_set joined, missing, prepared);
  more = λ row counts. absurd (differ (sym (subst (λ (s : State). trusts s row table.position ≡ true) missing counts)));
  own = λ row within below counts. absurd (joined_trusts table next slot row of_set joined within counts);
}

-- the whole

module _ (honest : Type 0) (slot number : ℕ) (table : Table) (old_panel mid_panel : Panel) (old mid : History) (result : Result (Unit {0}) Stop)
    (can : CanReplace old_panel table slot)
    (prepares : Prepares honest slot (view_of old_panel old table number) (view_of mid_panel mid table number) result) where
  abbrev Was : ArrayView
  Was = view_of old_panel old table number

  abbrev Mid : ArrayView
  Mid = view_of mid_panel mid table number

  goes : GoesOn Was Mid
  goes = goes_on_later old_panel mid_panel old mid table number prepares.later

  not_not_missing : ¬ IsNotMissing table slot
  not_not_missing = is_missing table slot can.of_set can.missing

  -- the device was not prepared
  not_prepared : (refusal : Refusal) → IsNoReplacing Was Mid slot refusal → (¬ EndsIt refusal → ¬ EndsBeside slot result)
      → Replaces honest slot Was Mid (Err refusal)
  not_prepared refusal why ends = record {
    goes_on = goes;
    number = refl;
    others = λ other of_set apart. record { state = inl refl };
    joined = λ answered. absurd (cc);
    may_join = λ answered. absurd (cc);
    refused = λ other is. inl refl;
    failure = λ fair open_still other of_set failed. elim (cases_eq other slot) [
      | inl same ↦ ap (λ (k : ℕ). state_at table.states k) same ∙ can.missing
      | inr apart ↦ absurd (differ (sym failed.is_down ∙ prepares.others fair (ends open_still) other apart ∙ failed.was_up))
    ];
    nothing = λ not_missing. absurd (not_not_missing not_missing);
    keeps = record {
      moments = λ fair lost V rests. prepares.keeps.moments fair lost V rests;
      rests = λ fair open_still lost V rests. prepares.keeps.rests fair (ends open_still) lost V rests;
    };
    cause = λ other is. subst (IsNoReplacing Was Mid slot) (same refusal other refl is) why;
  }
    where
      same : {answer : Answer} (a b : Refusal) → answer ≡ Err a → answer ≡ Err b → a ≡ b
      same a b first second = cc

  pub replace_own_down : result ≡ Err (stop.Down slot) → Replaces honest slot Was Mid (Err NotUsable)
  replace_own_down is = not_prepared NotUsable (not_not_missing, inl (prepares.cause (stop.Down slot) is), can.missing)
      (λ open_still. subst (λ (r : Result (Unit {0}) Stop). ¬ EndsBeside slot r) (sym is) (λ apart. apart refl))

  pub replace_other_down : (device : ℕ) → result ≡ Err (stop.Down device) → device ≢ slot → Replaces honest slot Was Mid (Err TwoLost)
  replace_other_down device is apart = not_prepared TwoLost record {
    first = device;
    second = slot;
    apart = apart;
    first_of_set = elim (prepares.named device is) [
      | inl same ↦ absurd (apart same)
      | inr beside ↦ beside.of_set
    ];
    second_of_set = can.of_set;
    first_out = inl (prepares.cause (stop.Down device) is);
    second_out = inr (λ in_sync. missing_in_sync (sym can.missing ∙ in_sync));
  } (λ open_still. absurd (open_still tt))

  pub replace_worn : result ≡ Err stop.Worn → Replaces honest slot Was Mid (Err Worn)
  replace_worn is = not_prepared Worn (inl (inl (prepares.cause stop.Worn is))) (λ open_still. absurd (open_still tt))

  -- the device was prepared, and the next table published
  module _ (done : result ≡ Ok tt) (next new_table : Table) (joined : IsJoined table slot next) (new_panel : Panel) (new : History)
      (answer : Result Bool Refusal)
      (publishes : PublishesLast honest next slot (view_of mid_panel mid table number) (view_of new_panel new new_table number) answer) where
    abbrev Now : ArrayView
    Now = view_of new_panel new new_table number

    not_beside : ¬ EndsBeside slot result
    not_beside = subst (λ (r : Result (Unit {0}) Stop). ¬ EndsBeside slot r) (sym done) (λ never. never)

    step : IsStepAt table next slot
    step = joined_step table next slot can.of_set can.missing joined

    of_next : slot < slots_of next
    of_next = omega (arith, can.of_set, ap (λ (g : Geometry). g.members) joined.same_geometry)

    -- between the two
    rests_mid : honest → (lost : Option Lost) (V : List Bytes) → RestsOn Was lost V → RestsOn Mid lost V
    rests_mid fair lost V rests =
        let after = prepares.keeps.rests fair not_beside lost V rests in
        subst (λ (l : Option Lost). RestsOn Mid l V) (lost_stays table lost after.lost rests.lost_slot after.is_lost) after.rests

    may_join : honest → (lost : Option Lost) (V : List Bytes) → RestsOn Was lost V → MayJoin mid_panel.devices table next slot mid
    may_join fair lost V rests = prepared_may_join mid_panel.devices table next slot mid can.of_set can.missing joined
        (prepares.prepared fair done lost V rests)

    moments : honest → (lost : Option Lost) (V : List Bytes) → RestsOn Was lost V → HoldsThroughout table old_panel.devices lost (V ∷ []) old new
    moments fair lost V rests = throughout_on mid (prepares.keeps.moments fair lost V rests) new
        (subst (λ (n : ℕ). HoldsThroughout table n lost (V ∷ []) mid new) prepares.later.devices
        (publishes.moments fair lost V (rests_mid fair lost V rests) (may_join fair lost V rests)))

    others_then : OthersKeepTheirs Was Now slot
    others_then other of_set apart = record { state = inl (others_stay table next slot other Now step apart publishes.table) }

    refused_then : IsJoinedOrNot table slot new_table
    refused_then = by_table publishes.table
      where
        by_table : IsTableAfter table next slot Now → IsJoinedOrNot table slot new_table
        by_table (inl same) = inl same
        by_table (inr (inl same)) = inr (inl (subst (IsJoined table slot) (sym same) joined))
        by_table (inr (inr marked)) = inr (inr (next, joined, marked.0))

    goes_then : GoesOn Was Now
    goes_then = goes_on_both Was Mid Now goes publishes.goes_on

    others_up : honest → ¬ HasEnded answer → (other : ℕ) → other ≢ slot → new_panel.down other ≡ old_panel.down other
    others_up fair open_still other apart = publishes.others fair open_still other apart ∙ prepares.others fair not_beside other apart

    -- the slot has joined
    pub replace_joined : answer ≡ Ok true → Replaces honest slot Was Now (Ok tt)
    replace_joined is = record {
      goes_on = goes_then;
      number = refl;
      others = others_then;
      joined = λ answered. subst (IsJoined table slot) (sym (publishes.taken is).0) joined;
      may_join = λ answered. (not_not_missing, unusable_not old_panel can.up can.fits, unusable_not_now);
      refused = λ refusal same. absurd (cc);
      failure = λ fair open_still other of_set failed. absurd (by_slot fair other failed (cases_eq other slot));
      nothing = λ not_missing. absurd (not_not_missing not_missing);
      keeps = record {
        moments = moments;
        rests = λ fair open_still lost V rests. publishes.rests fair not_ended lost V (rests_mid fair lost V rests) (may_join fair lost V rests);
      };
      cause = λ refusal same. absurd (cc);
    }
      where
        not_ended : ¬ HasEnded answer
        not_ended = subst (λ (r : Result Bool Refusal). ¬ HasEnded r) (sym is) (λ never. never)

        unusable_not : (panel : Panel) → panel.down slot ≡ false → least_sectors table.geometry slot ≤ panel.sectors slot
            → ¬ ((panel.down slot ≡ true) ⊎ (panel.sectors slot < least_sectors table.geometry slot))
        unusable_not panel up fits (inl down) = differ (sym down ∙ up)
        unusable_not panel up fits (inr short) = omega (arith, fits, short)

        same_geometry : new_table.geometry ≡ table.geometry
        same_geometry = ap (λ (t : Table). t.geometry) (publishes.taken is).0 ∙ joined.same_geometry

        unusable_not_now : ¬ IsUnusable Now slot
        unusable_not_now = subst (λ (g : Geometry). ¬ ((new_panel.down slot ≡ true) ⊎ (new_panel.sectors slot < least_sectors g slot))) (sym same_geometry)
            (unusable_not new_panel (publishes.taken is).1 (omega (arith, can.fits, prepares.later.sectors slot, publishes.goes_on.later.sectors slot)))

        by_slot : honest → (other : ℕ) → DeviceFailed other old_panel new_panel → (other ≡ slot) ⊎ (other ≢ slot) → ⊥
        by_slot fair other failed (inl same) = differ (sym failed.is_down ∙ ap (λ (k : ℕ). new_panel.down k) same ∙ (publishes.taken is).1)
        by_slot fair other failed (inr apart) = differ (sym failed.is_down ∙ others_up fair not_ended other apart ∙ failed.was_up)

    -- what is the same at each refusal
    joined_refused : (refusal : Refusal) → IsNoReplacing Was Now slot refusal
        → (¬ EndsIt refusal → (¬ HasEnded answer) × (state_at new_table.states slot ≡ Missing))
        → Replaces honest slot Was Now (Err refusal)
    joined_refused refusal why ends = record {
      goes_on = goes_then;
      number = refl;
      others = others_then;
      joined = λ answered. absurd (cc);
      may_join = λ answered. absurd (cc);
      refused = λ other is. refused_then;
      failure = λ fair open_still other of_set failed. elim (cases_eq other slot) [
        | inl same ↦ ap (λ (k : ℕ). state_at new_table.states k) same ∙ (ends open_still).1
        | inr apart ↦ absurd (differ (sym failed.is_down ∙ others_up fair (ends open_still).0 other apart ∙ failed.was_up))
      ];
      nothing = λ not_missing. absurd (not_not_missing not_missing);
      keeps = record {
        moments = moments;
        rests = λ fair open_still lost V rests. publishes.rests fair (ends open_still).0 lost V (rests_mid fair lost V rests) (may_join fair lost V rests);
      };
      cause = λ other is. subst (IsNoReplacing Was Now slot) (same refusal other refl is) why;
    }
      where
        same : {given : Answer} (a b : Refusal) → given ≡ Err a → given ≡ Err b → a ≡ b
        same a b first second = cc

    -- its device went down, and the slot is missing again
    pub replace_failed : answer ≡ Ok false → Replaces honest slot Was Now (Err NotUsable)
    replace_failed is =
        let gone = missing_then next new_table slot (publishes.failed is).0 of_next in
        joined_refused NotUsable (not_not_missing, inl (publishes.failed is).1, gone)
        (λ open_still. (subst (λ (r : Result Bool Refusal). ¬ HasEnded r) (sym is) (λ never. never), gone))

    -- another device went down, or a counter is at its end
    pub replace_ended : (refusal : Refusal) → answer ≡ Err refusal → Replaces honest slot Was Now (Err refusal)
    replace_ended refusal is = by_end refusal is (publishes.cause refusal is)
      where
        by_end : (refusal : Refusal) → answer ≡ Err refusal → IsEndOf Mid Now ⊥ refusal → Replaces honest slot Was Now (Err refusal)
        by_end TwoLost is two = joined_refused TwoLost two (λ open_still. absurd (open_still tt))
        by_end Worn is (inl worn) = joined_refused Worn (inl worn) (λ open_still. absurd (open_still tt))
        by_end Worn is (inr never) = absurd never
        by_end refusal is never = absurd never
