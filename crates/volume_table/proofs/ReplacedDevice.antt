-- A missing slot of a store's set is given a device.
use Rattle.std.proofs.Common.{◌≡◌, ◌≢◌, ◌⊎◌, inl, inr, ℕ, ◌+◌, ◌<◌, ◌≤◌, Bool, true, false, cond, not, ◌||◌, nat_le, nat_lt, List, length, take, Option, Some}
use Rattle.std.proofs.Common.{None, Ok, Err, refl, sym, ap, ap₂, ◌∙◌, subst, arith}
use Rattle.std.specs.Prelude.{slice_index_or, slice_set}
use Rattle.std.proofs.lemmas.Bool.{cases_eq, le-leb, le-ltb, lt-leb, lt-ltb, ltb-false, ltb-true, or_from, or_left, or_right}
use Rattle.std.proofs.lemmas.List.{get_or-set_other, get_or-set_same, get_or_default}
use Rattle.std.proofs.Math.Seq.{take-set-lt}
use Rattle.sector_model.specs.declared.refusal.Refusal.{Refusal}
use Rattle.sector_model.specs.declared.refusal.Refusal.TheVariants.{NotMissing, NotUsable, TwoLost, Worn}
use Rattle.layout_map.specs.declared.geometry.Geometry.{Geometry}
use Rattle.superblock.specs.declared.state.State.{State}
use Rattle.superblock.specs.declared.state.State.TheVariants.{InSync, Missing, Rebuilding}
use Rattle.superblock.specs.declared.table.Table.{Table}
use Rattle.superblock.specs.Counted.{least_sectors}
use Rattle.superblock.specs.NextTables.{IsJoined, joining_state, slots_of}
use Rattle.superblock.specs.States.{has_rebuilding, is_missing, position_in}
use Rattle.superblock.specs.Tables.{incarnation_at, state_at}
use Rattle.array_io.specs.Believed.ArrayCalls.{Answer}
use Rattle.array_io.specs.Believed.Views.{ArrayView, EndsIt, HasEnded, IsEndOf}
use Rattle.array_io.proofs.Marks.MarkingHolds.{incarnation_stays}
use Rattle.extents.specs.declared.volume_table.VolumeTable.{VolumeTable}
use Rattle.rebuild.specs.Rebuilding.{IsJoinedOrNot, IsNoReplacing, IsNotMissing, IsUnusable, Replaces}
use Rattle.volume_table.specs.SetReplies.{Devices, SetState, joined, set_refusal, settled}
use Rattle.volume_table.specs.Stands.{StoreView, store_of}
use Rattle.volume_table.specs.StoreCalls.{IncarnationsStay, IsCounterFull, SetIsLeft, set_of}
use Rattle.volume_table.specs.StoreFunctions.{ReplacesDevice, done_reply}
use Rattle.volume_table.specs.VolumeStep.{Done, OnSet, Refused, Replace}
use Rattle.volume_table.proofs.OnSet.{ActsOnSet, KeepsRefusal, acts_on_set, are_devices, devices_leave, fault_is_down, is_fault, refused_on_set}
use Rattle.volume_table.proofs.OnSet.{refused_replies, set_left_by, state_in, states_in}
use Rattle.volume_table.proofs.StoreSteps.{devices_in, generation_same, has_fault, incarnations_same, length-set_of, made, same_slots, slot_spared, states_left}

-- ---- what the command is refused with

-- the refusal, by whether the slot is not missing, and whether its device is of no use
abbrev refusal_by : Bool → Bool → Option Refusal
refusal_by filled useless = cond filled (Some NotMissing) (cond useless (Some NotUsable) None)

-- whether a slot is none of the set, or not missing
abbrev pub is_filled : Table → ℕ → Bool
is_filled table slot = nat_le (length (states_in table)) slot || not (is_missing (slice_index_or (states_in table) slot InSync))

filled_beyond : (table : Table) (slot : ℕ) → slots_of table ≤ slot → is_filled table slot ≡ true
filled_beyond table slot past =
    or_left (nat_le (length (states_in table)) slot) (not (is_missing (slice_index_or (states_in table) slot InSync)))
    (le-leb (length (states_in table)) slot (omega (arith, past, length-set_of table)))

not_missing_if : (state : State) → state ≢ Missing → not (is_missing state) ≡ true
not_missing_if Missing other_than = absurd (other_than refl)
not_missing_if InSync other_than = refl
not_missing_if Rebuilding other_than = refl

in_states : (table : Table) (slot : ℕ) → slot < slots_of table
    → slice_index_or (states_in table) slot InSync ≡ state_at table.states slot
in_states table slot of_set = get_or_default (states_in table) slot InSync Missing (omega (arith, of_set, length-set_of table)) ∙ state_in table slot of_set

filled_there : (table : Table) (slot : ℕ) → slot < slots_of table → state_at table.states slot ≢ Missing
    → is_filled table slot ≡ true
filled_there table slot of_set other_than =
    or_right (nat_le (length (states_in table)) slot) (not (is_missing (slice_index_or (states_in table) slot InSync)))
    (ap (λ (s : State). not (is_missing s)) (in_states table slot of_set) ∙ not_missing_if (state_at table.states slot) other_than)

pub not_filled : (table : Table) (slot : ℕ) → slot < slots_of table → state_at table.states slot ≡ Missing
    → is_filled table slot ≡ false
not_filled table slot of_set missing =
    or_from (nat_le (length (states_in table)) slot) (not (is_missing (slice_index_or (states_in table) slot InSync)))
    (lt-leb (length (states_in table)) slot (omega (arith, of_set, length-set_of table)))
    (ap (λ (s : State). not (is_missing s)) (in_states table slot of_set ∙ missing))

by_filled : (devices : Devices) (table : Table) (slot : ℕ) → is_filled table slot ≡ true
    → set_refusal devices (Replace slot) (set_of table) ≡ Some NotMissing
by_filled devices table slot is = ap (λ (b : Bool). refusal_by b (devices.unusable slot || devices.faults slot)) is

below_or_past : (count slot : ℕ) → (slot < count) ⊎ (count ≤ slot)
below_or_past count slot = by_case (nat_lt slot count) refl
  where
    by_case : (b : Bool) → nat_lt slot count ≡ b → (slot < count) ⊎ (count ≤ slot)
    by_case true is = inl (ltb-true slot count is)
    by_case false is = inr (ltb-false slot count is)

pub filled_if : (table : Table) (slot : ℕ) → IsNotMissing table slot → is_filled table slot ≡ true
filled_if table slot other_than = elim (below_or_past (slots_of table) slot) [
  | inl below ↦ filled_there table slot below (elim other_than [ inl past ↦ absurd (omega (arith, below, past)) | inr other ↦ other ])
  | inr past ↦ filled_beyond table slot past
]

-- a slot that is none of the set, or is not missing, is refused
replace_refused : (honest : Type 0) (slot : ℕ) (store : StoreView) → store.ended ≡ None
    → IsNotMissing store.array.table slot
    → ReplacesDevice honest slot store store (Err NotMissing)
replace_refused honest slot store alive other_than =
    refused_on_set honest (Replace slot) store NotMissing alive (λ e. e) (λ lost. refl)
    (by_filled (devices_in store.array store.array) store.array.table slot (filled_if store.array.table slot other_than))

-- a slot of the set that is missing, or any other
pub missing_or_not : (table : Table) (slot : ℕ)
    → ((slot < slots_of table) × (state_at table.states slot ≡ Missing)) ⊎ IsNotMissing table slot
missing_or_not table slot = elim (below_or_past (slots_of table) slot) [
  | inl below ↦ elim (missing_or_other (state_at table.states slot)) [ inl missing ↦ inl (below, missing) | inr other ↦ inr (inr other) ]
  | inr past ↦ inr (inl past)
]
  where
    missing_or_other : (state : State) → (state ≡ Missing) ⊎ (state ≢ Missing)
    missing_or_other Missing = inl refl
    missing_or_other InSync = inr (λ same. cc)
    missing_or_other Rebuilding = inr (λ same. cc)

-- ---- a slot that was missing

-- A missing slot of the set was given to the array's call.
record GivesDevice (honest : Type 0) (slot : ℕ) (old new : StoreView) (answer : Answer) : Type 0 where
  pub kept : KeepsRefusal (Unit {0}) old new answer
  pub of_set : slot < slots_of old.array.table
  pub missing : state_at old.array.table.states slot ≡ Missing
  pub replaces : Replaces honest slot old.array new.array answer

missing_differs : (state : State) → state ≡ Missing → state ≡ InSync → ⊥
missing_differs state missing in_sync = let both : Missing ≡ InSync = sym missing ∙ in_sync in cc

missing_is_not_rebuilding : (state : State) → state ≡ Missing → state ≡ Rebuilding → ⊥
missing_is_not_rebuilding state missing rebuilding = let both : Missing ≡ Rebuilding = sym missing ∙ rebuilding in cc

-- a table by which a slot of the set is missing has no position
missing_has_none : (table : Table) (slot : ℕ) → slot < slots_of table → state_at table.states slot ≡ Missing
    → table.position ≡ 0
missing_has_none table slot of_set missing = table.allowed.no_position (λ k rebuilding.
    let within : k < slots_of table = omega (arith, table.allowed.rebuilds_member k rebuilding) in
    let same : k ≡ slot = table.allowed.one_out k slot within of_set (rebuilding_is_out (state_at table.states k) rebuilding)
    (missing_differs (state_at table.states slot) missing) in
    missing_is_not_rebuilding (state_at table.states slot) missing (sym (ap (state_at table.states) same) ∙ rebuilding))
  where
    rebuilding_is_out : (state : State) → state ≡ Rebuilding → state ≡ InSync → ⊥
    rebuilding_is_out state is in_sync = let both : Rebuilding ≡ InSync = sym is ∙ in_sync in cc

-- where the position of before is 0 and so is the one of now, it counts
no_position_counts : (table : Table) (before now : ℕ) → before ≡ 0 → now ≡ 0
    → position_in (states_in table) before ≡ now
no_position_counts table before now zero_before zero_now =
    ap (λ (p : ℕ). cond (has_rebuilding (states_in table)) p 0) zero_before ∙ either (has_rebuilding (states_in table)) ∙ sym zero_now
  where
    either : (b : Bool) → cond {A = ℕ} b 0 0 ≡ 0
    either true = refl
    either false = refl

-- the incarnation of the slot that has joined is one more, and each other as it was
incarnations_joined : (old new : Table) (slot : ℕ) → slot < slots_of old → IsJoined old slot new
    → IncarnationsStay (OnSet (Replace slot)) old new
incarnations_joined old new slot of_set is k = elim (cases_eq k slot) [
  | inl same ↦ inr (
    ap (λ (s : ℕ). OnSet (Replace s)) (sym same),
    ap (incarnation_at new.incarnations) same ∙ ap (λ xs. slice_index_or xs slot 0) is.has_incarnations
        ∙ get_or-set_same old.incarnations slot (incarnation_at old.incarnations slot + 1) 0
        (omega (arith, of_set, old.allowed.ten_incarnations, old.geometry.limits.members_most))
        ∙ ap (λ (s : ℕ). incarnation_at old.incarnations s + 1) (sym same),
  )
  | inr apart ↦ inl (ap (λ xs. slice_index_or xs k 0) is.has_incarnations
      ∙ get_or-set_other old.incarnations slot k (incarnation_at old.incarnations slot + 1) 0 apart)
]

incarnations_now : (old new : Table) (slot : ℕ) → slot < slots_of old → IsJoinedOrNot old slot new
    → IncarnationsStay (OnSet (Replace slot)) old new
incarnations_now old new slot of_set is = elim is [
  | inl same ↦ incarnations_same (OnSet (Replace slot)) old new same
  | inr (inl is_joined) ↦ incarnations_joined old new slot of_set is_joined
  | inr (inr (mid, is_joined, marked)) ↦ λ k. elim (incarnations_joined old mid slot of_set is_joined k) [
    | inl as_before ↦ inl (incarnation_stays mid new slot marked k ∙ as_before)
    | inr (its, one_more) ↦ inr (its, incarnation_stays mid new slot marked k ∙ one_more)
  ]
]

generation_now : (old new : Table) (slot : ℕ) → IsJoinedOrNot old slot new → new.generation ≤ old.generation + 2
generation_now old new slot is = elim is [
  | inl same ↦ generation_same old new same
  | inr (inl is_joined) ↦ omega (arith, is_joined.generation)
  | inr (inr (mid, is_joined, marked)) ↦ omega (arith, is_joined.generation, marked.generation)
]

-- the states in which it joins, and no position
joined_set : (old new : Table) (slot : ℕ) → slot < slots_of old → old.position ≡ 0 → slots_of new ≡ slots_of old
    → IsJoined old slot new
    → joined slot (set_of old) ≡ made (states_in new) 0
joined_set old new slot of_set none same is = by_kind (nat_lt slot old.geometry.members) refl
  where
    states_now : slice_set (states_in old) slot (joining_state old slot) ≡ states_in new
    states_now = sym (take-set-lt (slots_of old) old.states slot (joining_state old slot) of_set)
        ∙ ap (take (slots_of old)) (sym is.has_states)
        ∙ ap (λ (n : ℕ). take n new.states) (sym same)

    by_kind : (b : Bool) → nat_lt slot old.geometry.members ≡ b → joined slot (set_of old) ≡ made (states_in new) 0
    by_kind true member =
        ap (λ (b : Bool). cond {A = SetState} b (made (slice_set (states_in old) slot Rebuilding) 0)
        (made (slice_set (states_in old) slot InSync) old.position))
        (lt-ltb (slot + 2) (length (states_in old)) (omega (arith, ltb-true slot old.geometry.members member, length-set_of old)))
        ∙ ap (λ (s : State). made (slice_set (states_in old) slot s) 0) (sym (ap (λ (b : Bool). cond b Rebuilding InSync) member))
        ∙ ap (λ states. made states 0) states_now
    by_kind false journal =
        ap (λ (b : Bool). cond {A = SetState} b (made (slice_set (states_in old) slot Rebuilding) 0)
        (made (slice_set (states_in old) slot InSync) old.position))
        (le-ltb (slot + 2) (length (states_in old)) (omega (arith, ltb-false slot old.geometry.members journal, length-set_of old)))
        ∙ ap₂ (λ (s : State) (p : ℕ). made (slice_set (states_in old) slot s) p) (sym (ap (λ (b : Bool). cond b Rebuilding InSync) journal)) none
        ∙ ap (λ states. made states 0) states_now

module _ (honest : Type 0) (slot : ℕ) (old new : StoreView) (answer : Answer) (is : GivesDevice honest slot old new answer) where
  replace_filled : is_filled old.array.table slot ≡ false
  replace_filled = not_filled old.array.table slot is.of_set is.missing

  none_before : old.array.table.position ≡ 0
  none_before = missing_has_none old.array.table slot is.of_set is.missing

  slots_same : slots_of new.array.table ≡ slots_of old.array.table
  slots_same = same_slots old.array new.array is.replaces.goes_on

  same_geometry : new.array.table.geometry ≡ old.array.table.geometry
  same_geometry = is.replaces.goes_on.not_older.same_geometry

  spared : (other : ℕ) → other < slots_of old.array.table → state_at old.array.table.states other ≡ InSync
      → (state_at new.array.table.states other ≡ InSync) ⊎ (new.array.panel.down other ≡ true)
  spared other of_set in_sync = elim (cases_eq other slot) [
    | inl same ↦ absurd (missing_differs (state_at old.array.table.states slot) is.missing (sym (ap (state_at old.array.table.states) same) ∙ in_sync))
    | inr apart ↦ slot_spared old.array new.array other (is.replaces.others other of_set apart) in_sync
  ]

  -- ---- it was refused for its device

  useless : IsUnusable new.array slot → state_at new.array.table.states slot ≡ Missing
      → ((devices_in old.array new.array).unusable slot || has_fault new.array slot) ≡ true
  useless why missing = elim why [
    | inl down ↦ or_right ((devices_in old.array new.array).unusable slot) (has_fault new.array slot) (is_fault new.array slot missing down)
    | inr short ↦ or_left ((devices_in old.array new.array).unusable slot) (has_fault new.array slot)
        (or_right (old.array.panel.down slot) (nat_lt (old.array.panel.sectors slot) (least_sectors old.array.table.geometry slot))
        (lt-ltb (old.array.panel.sectors slot) (least_sectors old.array.table.geometry slot)
        (omega (arith, short, is.replaces.goes_on.later.sectors slot, ap (λ (g : Geometry). least_sectors g slot) same_geometry))))
  ]

  left_unusable : ¬ HasEnded answer → IsUnusable new.array slot → state_at new.array.table.states slot ≡ Missing
      → SetIsLeft honest (OnSet (Replace slot)) old new (Refused NotUsable)
  left_unusable unended why missing =
      set_left_by honest (Replace slot) old new (Refused NotUsable) (devices_in old.array new.array) (Some NotUsable)
      (are_devices honest old.array new.array (λ fair. is.replaces.failure fair unended))
      (ap₂ refusal_by replace_filled (useless why missing)) refl
      (ap (λ (states : List State). made states (position_in states old.array.table.position))
      (states_left old.array new.array is.replaces.goes_on (λ other of_set.
      elim (cases_eq other slot) [
        | inl same ↦ record {
          state = inl (ap (state_at new.array.table.states) same ∙ missing ∙ sym is.missing ∙ sym (ap (state_at old.array.table.states) same));
        }
        | inr apart ↦ is.replaces.others other of_set apart
      ]))
      ∙ ap (made (states_in new.array.table))
      (no_position_counts new.array.table old.array.table.position new.array.table.position none_before
      (missing_has_none new.array.table slot (omega (arith, is.of_set, slots_same)) missing)))

  -- ---- it joined

  left_joined : ¬ HasEnded answer → ¬ IsUnusable old.array slot → ¬ IsUnusable new.array slot
      → IsJoined old.array.table slot new.array.table
      → SetIsLeft honest (OnSet (Replace slot)) old new Done
  left_joined unended usable_before usable_now is_joined =
      set_left_by honest (Replace slot) old new Done (devices_in old.array new.array) None
      (are_devices honest old.array new.array (λ fair. is.replaces.failure fair unended))
      (ap₂ refusal_by replace_filled (or_from ((devices_in old.array new.array).unusable slot) (has_fault new.array slot)
      (or_from (old.array.panel.down slot) (nat_lt (old.array.panel.sectors slot) (least_sectors old.array.table.geometry slot))
      (false_if (old.array.panel.down slot) (λ down. usable_before (inl down)))
      (false_if (nat_lt (old.array.panel.sectors slot) (least_sectors old.array.table.geometry slot))
      (λ short. usable_before (inr (ltb-true (old.array.panel.sectors slot) (least_sectors old.array.table.geometry slot) short)))))
      (false_if (has_fault new.array slot) (λ fault. usable_now (inl (fault_is_down new.array slot fault)))))) refl
      (ap (settled (devices_in old.array new.array)) (joined_set old.array.table new.array.table slot is.of_set none_before slots_same is_joined)
      ∙ devices_leave old.array new.array 0 (no_position_counts new.array.table 0 new.array.table.position refl is_joined.has_position))
    where
      false_if : (b : Bool) → ¬ (b ≡ true) → b ≡ false
      false_if true other_than = absurd (other_than refl)
      false_if false other_than = refl

-- an end of the array's call is one of the store's
end_of : (old new : ArrayView) (slot : ℕ) (refusal : Refusal) → IsNoReplacing old new slot refusal → EndsIt refusal
    → IsEndOf old new (IsCounterFull (OnSet (Replace slot)) old new) refusal
end_of old new slot TwoLost cause ends = cause
end_of old new slot Worn cause ends = cause
end_of old new slot refusal cause ends = absurd ends

no_slot_missing : (table : Table) (slot : ℕ) → slot < slots_of table → state_at table.states slot ≡ Missing
    → IsNotMissing table slot → ⊥
no_slot_missing table slot of_set missing (inl past) = omega (arith, past, of_set)
no_slot_missing table slot of_set missing (inr other) = other missing

left_refused : (honest : Type 0) (slot : ℕ) (old new : StoreView) (refusal : Refusal)
    → GivesDevice honest slot old new (Err refusal)
    → IsNoReplacing old.array new.array slot refusal → ¬ EndsIt refusal
    → SetIsLeft honest (OnSet (Replace slot)) old new (Refused refusal)
left_refused honest slot old new NotMissing is (other_than, same) goes = absurd (no_slot_missing old.array.table slot is.of_set is.missing other_than)
left_refused honest slot old new NotUsable is (filled, why, missing) goes = left_unusable honest slot old new (Err NotUsable) is (λ e. e) why missing
left_refused honest slot old new TwoLost is cause goes = absurd (goes tt)
left_refused honest slot old new Worn is cause goes = absurd (goes tt)
left_refused honest slot old new refusal is cause goes = absurd cause

-- ---- by what the array's call did

done_differs : (refusal : Refusal) → Done ≡ Refused refusal → ⊥
done_differs refusal same = cc

replace_acts : (honest : Type 0) (slot : ℕ) (old new : StoreView) (answer : Answer)
    → GivesDevice honest slot old new answer → IsJoinedOrNot old.array.table slot new.array.table
    → (¬ HasEnded answer → SetIsLeft honest (OnSet (Replace slot)) old new (done_reply answer))
    → ActsOnSet honest (Replace slot) (Unit {0}) old new answer (done_reply answer)
replace_acts honest slot old new answer is table left = record {
  kept = is.kept;
  goes_on = is.replaces.goes_on;
  keeps = is.replaces.keeps;
  lost_stays = λ lost. refl;
  generation = generation_now old.array.table new.array.table slot table;
  incarnations = incarnations_now old.array.table new.array.table slot is.of_set table;
  spared = spared honest slot old new answer is;
  left = left;
  cause = λ refusal refused ends. end_of old.array new.array slot refusal (is.replaces.cause refusal refused) ends;
  scrubs = λ fair scrub. absurd scrub;
}

given_applies : (honest : Type 0) (slot : ℕ) (old new : StoreView) (answer : Answer)
    → GivesDevice honest slot old new answer → ReplacesDevice honest slot old new answer
given_applies honest slot old new (Ok done) is =
    acts_on_set honest (Replace slot) (Unit {0}) old new (Ok done) Done record {
      refused = λ refusal same. absurd (done_differs refusal same);
      unended =
          λ unended. unended;
    }
    (replace_acts honest slot old new (Ok done) is (inr (inl (is.replaces.joined refl))) (λ unended.
    let may = is.replaces.may_join refl in
    left_joined honest slot old new (Ok done) is unended may.1 may.2 (is.replaces.joined refl)))
given_applies honest slot old new (Err refusal) is =
    acts_on_set honest (Replace slot) (Unit {0}) old new (Err refusal) (Refused refusal) (refused_replies (Unit {0}) refusal)
    (replace_acts honest slot old new (Err refusal) is (is.replaces.refused refusal refl) (λ unended.
    left_refused honest slot old new refusal is (is.replaces.cause refusal refl) unended))

-- ---- whatever the slot is

-- a store whose array the call left as it was, and that was not ended
same_store : (old new : StoreView) (answer : Answer) → KeepsRefusal (Unit {0}) old new answer → ¬ HasEnded answer → new.array ≡ old.array
    → new ≡ old
same_store old new answer kept unended same =
    ap (λ (a : ArrayView). store_of a new.keeps new.ended) same
    ∙ ap (λ (t : VolumeTable). store_of old.array t new.ended) kept.same
    ∙ ap (λ (e : Option Refusal). store_of old.array old.keeps e) (kept.going_on unended)

pub replace_applies : (honest : Type 0) (slot : ℕ) (old new : StoreView) (answer : Answer)
    → KeepsRefusal (Unit {0}) old new answer → Replaces honest slot old.array new.array answer
    → ReplacesDevice honest slot old new answer
replace_applies honest slot old new answer kept replaces = elim (missing_or_not old.array.table slot) [
  | inl (of_set, missing) ↦ given_applies honest slot old new answer record {
    kept = kept;
    of_set = of_set;
    missing = missing;
    replaces = replaces;
  }
  | inr other_than ↦
      let nothing = replaces.nothing other_than in
      let same = same_store old new answer kept (subst (λ (a : Answer). ¬ HasEnded a) (sym nothing.0) (λ never. never)) nothing.1 in
      subst (λ (a : Answer). ReplacesDevice honest slot old new a) (sym nothing.0)
      (subst (λ (s : StoreView). ReplacesDevice honest slot old s (Err NotMissing)) (sym same)
      (replace_refused honest slot old kept.going other_than))
]
