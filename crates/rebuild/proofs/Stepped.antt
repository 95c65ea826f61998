-- A step of a rebuild: what its parts promise is what the whole does.
use Rattle.std.proofs.Common.{◌≡◌, ◌≢◌, ◌⊎◌, inl, inr, ℕ, ◌+◌, ◌<◌, ◌≤◌, Bool, true, false, nat_lt, List, [], ◌∷◌, Option, Result, Ok, Err, refl, sym, ◌∙◌, ap}
use Rattle.std.proofs.Common.{subst, arith}
use Rattle.std.proofs.lemmas.Bool.{cases_eq, cases_lt}
use Rattle.std.proofs.lemmas.Bool.Decides.{nat_tests}
use Rattle.std.proofs.lemmas.List.{get_or-set_same, get_or-set_other}
use Rattle.layout_map.specs.declared.geometry.Geometry.{Geometry}
use Rattle.sector_model.specs.declared.refusal.Refusal.{Refusal}
use Rattle.sector_model.specs.declared.refusal.Refusal.TheVariants.{NothingToRebuild, TwoLost, Worn}
use Rattle.sector_model.specs.declared.calls.TheConstants.{GREATEST_COUNT}
use Rattle.sector_model.specs.Bank.{IsTrueTo, Panel}
use Rattle.sector_model.specs.History.{Bytes, History, disk_of, is_down, sector_of}
use Rattle.sector_model.specs.Readable.{readable}
use Rattle.sector_model.proofs.Readable.{readable_up}
use Rattle.sector_model.proofs.Steps.{throughout_on}
use Rattle.layout_map.specs.declared.sizes.TheConstants.{FIRST_ROW}
use Rattle.superblock.specs.declared.state.State.{State}
use Rattle.superblock.specs.declared.state.State.TheVariants.{InSync, Missing, Rebuilding}
use Rattle.superblock.specs.declared.table.Table.{Table}
use Rattle.superblock.specs.Cases.{Lost}
use Rattle.superblock.specs.Counted.{Content, least_sectors}
use Rattle.superblock.specs.NextTables.{IsMarked, IsMoved, IsRebuilt, slots_of}
use Rattle.superblock.specs.SlotSteps.{IsStepAt}
use Rattle.superblock.specs.Tables.{incarnation_at, state_at}
use Rattle.degraded.proofs.Values.{value-own}
use Rattle.array_io.specs.Believed.ArrayCalls.{KeepsTheList}
use Rattle.array_io.specs.Believed.Holds.{row_count}
use Rattle.array_io.specs.Believed.Moments.{HoldsThroughout}
use Rattle.array_io.specs.Believed.Settled.{rows_by, trusts}
use Rattle.array_io.specs.Believed.Views.{ArrayView, EndsIt, DeviceFailed, GoesOn, HasEnded, HasItsSlots, IsEndOf, RestsOn, view_of}
use Rattle.array_io.proofs.Rest.AtRestLost.{in_sync_apart}
use Rattle.array_io.proofs.Calls.CallSteps.{goes_on_both}
use Rattle.array_io.proofs.Laws.Fresh.{in_sync_not_missing}
use Rattle.array_io.proofs.Instances.{goes_on_at_rest, keeps_at_rest}
use Rattle.array_io.proofs.Marks.MarkingHolds.{missing_then, state_stays}
use Rattle.array_io.proofs.Marks.MarkingPublished.{others_in_sync}
use Rattle.array_io.proofs.Rest.SettledAgain.{lost_stays}
use Rattle.rebuild.proofs.JoinedLast.{others_stay}
use Rattle.rebuild.specs.Joining.{IsTableAfter, MayJoin, PublishesLast}
use Rattle.rebuild.specs.Rebuilding.{Complete, IsAfterStep, IsNoStep, IsRebuilding, IsSteppedOn, IsSteppedOrNot, OthersKeepTheirs, Position, Progress}
use Rattle.rebuild.specs.Rebuilding.{StepsRebuild, end_of_step}
use Rattle.rebuild.specs.RowsWritten.{HasRowsOf, WritesRows}
use Rattle.rebuild.specs.declared.progress.Progress as declared
use Rattle.rebuild.specs.Stepping.{IsNextAt, IsProgressAt, progress_by}

differ : true ≡ false → ⊥
differ e = cc

rebuilding_in_sync : Rebuilding ≡ InSync → ⊥
rebuilding_in_sync e = cc

rebuilding_missing : Rebuilding ≡ Missing → ⊥
rebuilding_missing e = cc

of_set : (table : Table) (member : ℕ) → IsRebuilding table member → member < slots_of table
of_set table member is = omega (arith, is.of_set)

others_of : (table : Table) (member other : ℕ) → IsRebuilding table member → other < slots_of table → other ≢ member → state_at table.states other ≡ InSync
others_of table member other is below apart =
    in_sync_apart table member other (record { of_set = of_set table member is; out = λ in_sync. rebuilding_in_sync (sym is.state ∙ in_sync) }) below apart

pub rebuilding_out : (table : Table) (member : ℕ) → IsRebuilding table member → state_at table.states member ≢ InSync
rebuilding_out table member is in_sync = rebuilding_in_sync (sym is.state ∙ in_sync)

pub rebuilding_fits : (table : Table) (member : ℕ) (panel : Panel) → IsRebuilding table member → HasItsSlots table panel → panel.down member ≡ false
    → least_sectors table.geometry member ≤ panel.sectors member
rebuilding_fits table member panel is its up = its.fit member (of_set table member is) (λ missing. rebuilding_missing (sym is.state ∙ missing)) up

-- one member is rebuilding at most
one_rebuilding : (table : Table) (member other : ℕ) → IsRebuilding table member → IsRebuilding table other → other ≡ member
one_rebuilding table member other is is_too = table.allowed.one_out other member (of_set table other is_too) (of_set table member is)
    (λ in_sync. rebuilding_in_sync (sym is_too.state ∙ in_sync)) (λ in_sync. rebuilding_in_sync (sym is.state ∙ in_sync))

-- the next table differs in the member alone

pub moved_step : (table next : Table) (member position : ℕ) → IsRebuilding table member → IsMoved table position next → IsStepAt table next member
moved_step table next member position is moved = record {
  of_set = of_set table member is;
  same_id = moved.same_id;
  same_geometry = moved.same_geometry;
  generation = moved.generation;
  others_in_sync = λ other below apart. others_of table member other is below apart;
  states = λ other apart. ap (λ (l : List State). state_at l other) moved.has_states;
  incarnations = λ other apart. ap (λ (l : List ℕ). incarnation_at l other) moved.has_incarnations;
  incarnation = omega (arith, ap (λ (l : List ℕ). incarnation_at l member) moved.has_incarnations);
}

rebuilt_state : (table next : Table) (member : ℕ) → IsRebuilding table member → IsRebuilt table member next → state_at next.states member ≡ InSync
rebuilt_state table next member is rebuilt = ap (λ (l : List State). state_at l member) rebuilt.has_states
    ∙ get_or-set_same table.states member InSync Missing (omega (arith, is.of_set, table.geometry.limits.members_most, table.allowed.ten_states))

pub rebuilt_step : (table next : Table) (member : ℕ) → IsRebuilding table member → IsRebuilt table member next → IsStepAt table next member
rebuilt_step table next member is rebuilt = record {
  of_set = of_set table member is;
  same_id = rebuilt.same_id;
  same_geometry = rebuilt.same_geometry;
  generation = rebuilt.generation;
  others_in_sync = λ other below apart. others_of table member other is below apart;
  states = λ other apart. ap (λ (l : List State). state_at l other) rebuilt.has_states ∙ get_or-set_other table.states member other InSync Missing apart;
  incarnations = λ other apart. ap (λ (l : List ℕ). incarnation_at l other) rebuilt.has_incarnations;
  incarnation = omega (arith, ap (λ (l : List ℕ). incarnation_at l member) rebuilt.has_incarnations);
}

pub next_step : (table next : Table) (member end : ℕ) → IsRebuilding table member → IsNextAt table member end next → IsStepAt table next member
next_step table next member end is (inl moved) = moved_step table next member end is moved.1
next_step table next member end is (inr rebuilt) = rebuilt_step table next member is rebuilt.1

-- and still counts on it
pub next_there : (table next : Table) (member end : ℕ) → IsRebuilding table member → IsNextAt table member end next → state_at next.states member ≢ Missing
next_there table next member end is (inl moved) missing =
    rebuilding_missing (sym is.state ∙ sym (ap (λ (l : List State). state_at l member) moved.1.has_states) ∙ missing)
next_there table next member end is (inr rebuilt) missing = in_sync_not_missing (sym (rebuilt_state table next member is rebuilt.1) ∙ missing)

same_incarnation : (table next : Table) (member end : ℕ) → IsNextAt table member end next
    → incarnation_at next.incarnations member ≡ incarnation_at table.incarnations member
same_incarnation table next member end (inl moved) = ap (λ (l : List ℕ). incarnation_at l member) moved.1.has_incarnations
same_incarnation table next member end (inr rebuilt) = ap (λ (l : List ℕ). incarnation_at l member) rebuilt.1.has_incarnations

below_is : (a b : ℕ) → a < b → nat_lt a b ≡ true
below_is a b less = grind (arith, nat_tests, less)

is_below : (a b : ℕ) → nat_lt a b ≡ true → a < b
is_below a b is = grind (arith, nat_tests, is)

-- which of the member's rows count
counted_by : (table : Table) (member row : ℕ) → IsRebuilding table member → trusts (state_at table.states member) row table.position ≡ true
    → row < table.position
counted_by table member row is counts = is_below row table.position (subst (λ (s : State). trusts s row table.position ≡ true) is.state counts)

counts_by : (table : Table) (member row : ℕ) → IsRebuilding table member → row < table.position
    → trusts (state_at table.states member) row table.position ≡ true
counts_by table member row is below = ap (λ (s : State). trusts s row table.position) is.state ∙ below_is row table.position below

more_counts : (table next : Table) (member end row : ℕ) → IsRebuilding table member → table.position ≤ end → IsNextAt table member end next
    → trusts (state_at table.states member) row table.position ≡ true → trusts (state_at next.states member) row next.position ≡ true
more_counts table next member end row is ordered (inl moved) counts =
    ap (λ (s : State). trusts s row next.position) (ap (λ (l : List State). state_at l member) moved.1.has_states ∙ is.state)
    ∙ below_is row next.position (omega (arith, counted_by table member row is counts, ordered, moved.1.has_position))
more_counts table next member end row is ordered (inr rebuilt) counts =
    ap (λ (s : State). trusts s row next.position) (rebuilt_state table next member is rebuilt.1)

counted_next : (table next : Table) (member end row : ℕ) → IsRebuilding table member → row < row_count table → IsNextAt table member end next
    → trusts (state_at next.states member) row next.position ≡ true → row < end
counted_next table next member end row is below (inl moved) counts = subst (λ (p : ℕ). row < p) moved.1.has_position
    (is_below row next.position (subst (λ (s : State). trusts s row next.position ≡ true)
    (ap (λ (l : List State). state_at l member) moved.1.has_states ∙ is.state) counts))
counted_next table next member end row is below (inr rebuilt) counts = omega (arith, below, rebuilt.0)

-- a member with its rows written may go on
pub written_may_join : (devices : ℕ) (table next : Table) (member end : ℕ) (h : History) → IsRebuilding table member → table.position ≤ end
    → IsNextAt table member end next
    → is_down h member ≡ false → HasRowsOf table member table.position end h → MayJoin devices table next member h
written_may_join devices table next member end h is ordered to up rows = record {
  device = inl (same_incarnation table next member end to, λ missing. rebuilding_missing (sym is.state ∙ missing));
  more = λ row counts. more_counts table next member end row is ordered to counts;
  own = λ row within below counts. elim (cases_lt row table.position) [
    | inl old ↦
        ap (λ (c : Content). sector_of (disk_of c) (FIRST_ROW + row)) (sym (readable_up h member up))
        ∙ sym (value-own (rows_by table (readable h)) row member refl (counts_by table member row is old))
    | inr new ↦ rows.own row new (counted_next table next member end row is below to counts)
  ];
}

-- the parts

abbrev IsWithin : ArrayView → ℕ → ℕ → ℕ → Type 0
IsWithin old member end rows = (old.table.position < end) × (end ≡ end_of_step old.table rows) × (1 ≤ rows)

no_member : {P : Type 0} (table : Table) (member : ℕ) → IsRebuilding table member → ((other : ℕ) → ¬ IsRebuilding table other) → P
no_member table member is none = absurd (none member is)

same_answer : {answer : Result Progress Refusal} (a b : Refusal) → answer ≡ Err a → answer ≡ Err b → a ≡ b
same_answer a b first second = cc

same_progress : (answer : Result Progress Refusal) (a b : Progress) → answer ≡ Ok a → answer ≡ Ok b → a ≡ b
same_progress answer a b first second = cc

-- Why a step may be refused, with what it then leaves.
record IsRefusedStep (honest : Type 0) (rows member : ℕ) (old new : ArrayView) (refusal : Refusal) : Type 0 where
  goes_on : GoesOn old new
  number : new.number ≡ old.number
  others : OthersKeepTheirs old new member
  refused : IsSteppedOrNot old.table member rows new.table
  failure : honest → ¬ EndsIt refusal → (slot : ℕ) → slot < slots_of old.table → DeviceFailed slot old.panel new.panel
      → state_at new.table.states slot ≡ Missing
  own : (new.panel.down member ≡ true) ⊎ (state_at new.table.states member ≢ Missing)
  keeps : KeepsTheList honest old new (EndsIt refusal)
  cause : IsNoStep old new refusal

refused_step : (honest : Type 0) (rows member : ℕ) (old new : ArrayView) (refusal : Refusal) → IsRebuilding old.table member
    → IsRefusedStep honest rows member old new refusal
    → StepsRebuild honest rows old new (Err refusal)
refused_step honest rows member old new refusal is step = record {
  goes_on = step.goes_on;
  number = step.number;
  others = λ other is_too. subst (OthersKeepTheirs old new) (sym (one_rebuilding old.table member other is is_too)) step.others;
  stepped = λ progress answered. absurd (cc);
  has_member = λ progress answered. absurd (cc);
  refused = λ other same m is_too. subst (λ (k : ℕ). IsSteppedOrNot old.table k rows new.table) (sym (one_rebuilding old.table member m is is_too))
      step.refused;
  failure = λ fair open_still slot below failed. step.failure fair open_still slot below failed;
  own = λ other same m is_too. subst (λ (k : ℕ). (new.panel.down k ≡ true) ⊎ (state_at new.table.states k ≢ Missing))
      (sym (one_rebuilding old.table member m is is_too)) step.own;
  nothing = λ none. no_member old.table member is none;
  keeps = step.keeps;
  cause = λ other same. subst (IsNoStep old new) (same_answer refusal other refl same) step.cause;
}

-- a table in which the member is missing, all others being in sync, has none that is rebuilding
none_after : (table missing : Table) (member : ℕ) → member < slots_of table
    → ((other : ℕ) → other < slots_of table → other ≢ member → state_at table.states other ≡ InSync)
    → IsMarked table member missing → (other : ℕ) → ¬ IsRebuilding missing other
none_after table missing member below others marked other is = elim (cases_eq other member) [
  | inl same ↦ rebuilding_missing (sym is.state ∙ ap (λ (k : ℕ). state_at missing.states k) same ∙ missing_then table missing member marked below)
  | inr apart ↦ rebuilding_in_sync (sym is.state ∙ state_stays table missing member marked other apart
      ∙ others other (omega (arith, is.of_set, ap (λ (g : Geometry). g.members) marked.same_geometry)) apart)
]

module _ (honest : Type 0) (member end rows : ℕ) (old mid : ArrayView) (written : Result Bool Refusal) (is : IsRebuilding old.table member)
    (within : IsWithin old member end rows)
    (writes : WritesRows honest member old.table.position end old mid written) where
  -- where a slot was marked it is the member
  its_table : (mid.table ≡ old.table) ⊎ (IsMarked old.table member mid.table × (mid.panel.down member ≡ true))
  its_table = elim writes.stays.table [
    | inl same ↦ inl same
    | inr lost ↦ elim (cases_eq member lost.slot) [
      | inl same ↦ inr (
        subst (λ (k : ℕ). IsMarked old.table k mid.table) (sym same) lost.marked,
        subst (λ (k : ℕ). mid.panel.down k ≡ true) (sym same)
            lost.is_down,
      )
      | inr apart ↦ absurd (rebuilding_in_sync (sym is.state
          ∙ others_in_sync old.table mid.table lost.slot lost.marked lost.of_set member (of_set old.table member is) apart))
    ]
  ]

  others_mid : OthersKeepTheirs old mid member
  others_mid other below apart = record {
    state = inl (elim its_table [
      | inl same ↦ ap (λ (t : Table). state_at t.states other) same
      | inr marked ↦ state_stays old.table mid.table member marked.0 other apart
    ]);
  }

  not_written : (refusal : Refusal) → written ≡ Err refusal → IsNoStep old mid refusal → EndsIt refusal → StepsRebuild honest rows old mid (Err refusal)
  not_written refusal same why ends = refused_step honest rows member old mid refusal is record {
    goes_on = writes.goes_on;
    number = writes.number;
    others = others_mid;
    refused = elim its_table [
      | inl same ↦ inl same
      | inr marked ↦ inr (inr (inl marked.0))
    ];
    failure = λ fair open_still. absurd (open_still ends);
    own = elim its_table [
      | inl same ↦ inr (λ missing. rebuilding_missing (sym is.state ∙ ap (λ (t : Table). state_at t.states member) (sym same) ∙ missing))
      | inr marked ↦ inl marked.1
    ];
    keeps = record { moments = λ fair lost V rests. writes.keeps.moments fair lost V rests; rests = λ fair open_still. absurd (open_still ends) };
    cause = why;
  }

  pub step_not_written : (refusal : Refusal) → written ≡ Err refusal → StepsRebuild honest rows old mid (Err refusal)
  step_not_written refusal same = by_end refusal same (writes.cause refusal same)
    where
      by_end : (refusal : Refusal) → written ≡ Err refusal → IsEndOf old mid ⊥ refusal → StepsRebuild honest rows old mid (Err refusal)
      by_end TwoLost same two = not_written TwoLost same two tt
      by_end Worn same worn = not_written Worn same worn tt
      by_end refusal same never = absurd never

  -- the member's device went down before its rows were safe
  pub step_failed : written ≡ Ok false → StepsRebuild honest rows old mid (Err NothingToRebuild)
  step_failed same =
      let failed = writes.failed same in
      let gone = missing_then old.table mid.table member failed.0 (of_set old.table member is) in
      refused_step honest rows member old mid NothingToRebuild is record {
        goes_on = writes.goes_on;
        number = writes.number;
        others = others_mid;
        refused = inr (inr (inl failed.0));
        failure = λ fair open_still slot below its. writes.stays.failure fair not_ended slot below its;
        own = inl failed.1;
        keeps = record {
          moments = λ fair lost V rests. writes.keeps.moments fair lost V rests;
          rests =
              λ fair open_still lost V rests. writes.keeps.rests fair not_ended lost V rests;
        };
        cause = (
          none_after old.table mid.table member (of_set old.table member is) (λ other below apart. others_of old.table member other is below apart) failed.0,
          λ other is_too. subst (λ (k : ℕ). (mid.panel.down k ≡ true) × (state_at mid.table.states k ≡ Missing))
              (sym (one_rebuilding old.table member other is is_too)) (failed.1, gone),
        );
      }
    where
      not_ended : ¬ HasEnded written
      not_ended = subst (λ (r : Result Bool Refusal). ¬ HasEnded r) (sym same) (λ never. never)

-- the rows are safe, and the next table was published
module _ (honest : Type 0) (member end rows number : ℕ) (table next new_table : Table) (old_panel mid_panel new_panel : Panel) (old mid new : History)
    (answer : Result Bool Refusal)
    (is : IsRebuilding table member) (within : IsWithin (view_of old_panel old table number) member end rows)
    (writes : WritesRows honest member table.position end (view_of old_panel old table number) (view_of mid_panel mid table number) (Ok true))
    (to : IsNextAt table member end next) (up : honest → is_down mid member ≡ false)
    (publishes : PublishesLast honest next member (view_of mid_panel mid table number) (view_of new_panel new new_table number) answer) where
  abbrev Was : ArrayView
  Was = view_of old_panel old table number

  abbrev Mid : ArrayView
  Mid = view_of mid_panel mid table number

  abbrev Now : ArrayView
  Now = view_of new_panel new new_table number

  step : IsStepAt table next member
  step = next_step table next member end is to

  of_next : member < slots_of next
  of_next = omega (arith, is.of_set, ap (λ (g : Geometry). g.members) step.same_geometry)

  stepped_on : IsSteppedOn table member rows next
  stepped_on = elim to [
    | inl moved ↦ inl (omega (arith, moved.0, within.1), subst (λ (q : ℕ). IsMoved table q next) within.1 moved.1)
    | inr rebuilt ↦ inr (sym within.1 ∙ rebuilt.0, rebuilt.1)
  ]

  rests_mid : honest → (lost : Option Lost) (V : List Bytes) → RestsOn Was lost V → RestsOn Mid lost V
  rests_mid fair lost V rests =
      let after = writes.keeps.rests fair (λ never. never) lost V rests in
      subst (λ (l : Option Lost). RestsOn Mid l V) (lost_stays table lost after.lost rests.lost_slot after.is_lost) after.rests

  may_join : honest → (lost : Option Lost) (V : List Bytes) → RestsOn Was lost V → MayJoin mid_panel.devices table next member mid
  may_join fair lost V rests = written_may_join mid_panel.devices table next member end mid is (omega (arith, within.0)) to (up fair)
      (writes.rows fair refl lost V rests)

  moments : honest → (lost : Option Lost) (V : List Bytes) → RestsOn Was lost V → HoldsThroughout table old_panel.devices lost (V ∷ []) old new
  moments fair lost V rests = throughout_on mid (writes.keeps.moments fair lost V rests) new
      (subst (λ (n : ℕ). HoldsThroughout table n lost (V ∷ []) mid new) writes.goes_on.later.devices
      (publishes.moments fair lost V (rests_mid fair lost V rests) (may_join fair lost V rests)))

  others_then : OthersKeepTheirs Was Now member
  others_then other below apart = record { state = inl (others_stay table next member other Now step apart publishes.table) }

  refused_then : IsSteppedOrNot table member rows new_table
  refused_then = by_table publishes.table
    where
      by_table : IsTableAfter table next member Now → IsSteppedOrNot table member rows new_table
      by_table (inl same) = inl same
      by_table (inr (inl same)) = inr (inl (subst (IsSteppedOn table member rows) (sym same) stepped_on))
      by_table (inr (inr marked)) = inr (inr (inr (next, stepped_on, marked.0)))

  goes_then : GoesOn Was Now
  goes_then = goes_on_both Was Mid Now writes.goes_on publishes.goes_on

  -- what failed in the rows' calls would be missing, so none did
  others_failed : honest → ¬ HasEnded answer → (slot : ℕ) → slot < slots_of table → slot ≢ member → ¬ DeviceFailed slot old_panel new_panel
  others_failed fair open_still slot below apart failed = by_mid (mid_panel.down slot) refl
    where
      same : new_panel.down slot ≡ mid_panel.down slot
      same = publishes.others fair open_still slot apart

      by_mid : (b : Bool) → mid_panel.down slot ≡ b → ⊥
      by_mid true down = in_sync_not_missing (sym (others_of table member slot is below apart)
          ∙ writes.stays.failure fair (λ never. never) slot below record { was_up = failed.was_up; is_down = down })
      by_mid false there = differ (sym failed.is_down ∙ same ∙ there)

  -- the step is done
  pub step_done : answer ≡ Ok true → (progress : Progress) → ((end < row_count table) × (progress ≡ Position end))
      ⊎ ((end ≡ row_count table) × (progress ≡ Complete))
      → StepsRebuild honest rows Was Now (Ok progress)
  step_done done progress tells = record {
    goes_on = goes_then;
    number = refl;
    others = λ other is_too. subst (OthersKeepTheirs Was Now) (sym (one_rebuilding table member other is is_too)) others_then;
    stepped = λ told same other is_too. subst (λ (p : Progress). IsAfterStep table other rows p new_table) (same_progress (Ok progress) progress told refl same)
        (subst (λ (k : ℕ). IsAfterStep table k rows progress new_table) (sym (one_rebuilding table member other is is_too)) after);
    has_member = λ told same none. none member is;
    refused = λ refusal same. absurd (cc);
    failure = λ fair open_still slot below failed. absurd (by_slot fair slot below failed (cases_eq slot member));
    own = λ refusal same. absurd (cc);
    nothing = λ none. no_member table member is none;
    keeps = record {
      moments = moments;
      rests = λ fair open_still lost V rests. publishes.rests fair not_ended lost V (rests_mid fair lost V rests) (may_join fair lost V rests);
    };
    cause = λ refusal same. absurd (cc);
  }
    where
      not_ended : ¬ HasEnded answer
      not_ended = subst (λ (r : Result Bool Refusal). ¬ HasEnded r) (sym done) (λ never. never)

      by_slot : honest → (slot : ℕ) → slot < slots_of table → DeviceFailed slot old_panel new_panel → (slot ≡ member) ⊎ (slot ≢ member) → ⊥
      by_slot fair slot below failed (inl same) = differ (sym failed.is_down ∙ ap (λ (k : ℕ). new_panel.down k) same ∙ (publishes.taken done).1)
      by_slot fair slot below failed (inr apart) = others_failed fair not_ended slot below apart failed

      on_next : IsSteppedOn table member rows new_table
      on_next = subst (IsSteppedOn table member rows) (sym (publishes.taken done).0) stepped_on

      after : IsAfterStep table member rows progress new_table
      after = elim tells [
        | inl position ↦ subst (λ (p : Progress). IsAfterStep table member rows p new_table) (sym position.1) (
          within.1,
          position.0,
          inr (
            within.2,
            elim on_next [
              | inl moved ↦ subst (λ (q : ℕ). IsMoved table q new_table) (sym within.1) moved.1
              | inr rebuilt ↦ absurd (omega (arith, position.0, within.1, rebuilt.0))
            ],
          ),
        )
        | inr complete ↦ subst (λ (p : Progress). IsAfterStep table member rows p new_table) (sym complete.1) (
          sym within.1 ∙ complete.0,
          elim on_next [
            | inl moved ↦ absurd (omega (arith, complete.0, within.1, moved.0))
            | inr rebuilt ↦ rebuilt.1
          ],
        )
      ]

  -- the member's device went down as the last
  pub step_last_failed : answer ≡ Ok false → StepsRebuild honest rows Was Now (Err NothingToRebuild)
  step_last_failed failed =
      let its = publishes.failed failed in
      let gone = missing_then next new_table member its.0 of_next in
      refused_step honest rows member Was Now NothingToRebuild is record {
        goes_on = goes_then;
        number = refl;
        others = others_then;
        refused = refused_then;
        failure = λ fair open_still slot below its_failure. elim (cases_eq slot member) [
          | inl same ↦ ap (λ (k : ℕ). state_at new_table.states k) same ∙ gone
          | inr apart ↦ absurd (others_failed fair not_ended slot below apart its_failure)
        ];
        own = inl its.1;
        keeps = record {
          moments = moments;
          rests = λ fair open_still lost V rests. publishes.rests fair not_ended lost V (rests_mid fair lost V rests) (may_join fair lost V rests);
        };
        cause = (
          none_after next new_table member of_next (λ other below apart. step.states other apart
              ∙ step.others_in_sync other (omega (arith, below, ap (λ (g : Geometry). g.members) step.same_geometry)) apart) its.0,
          λ other is_too. subst (λ (k : ℕ). (new_panel.down k ≡ true) × (state_at new_table.states k ≡ Missing))
              (sym (one_rebuilding table member other is is_too)) (its.1, gone),
        );
      }
    where
      not_ended : ¬ HasEnded answer
      not_ended = subst (λ (r : Result Bool Refusal). ¬ HasEnded r) (sym failed) (λ never. never)

  -- another device went down, or a counter is at its end
  pub step_ended : (refusal : Refusal) → answer ≡ Err refusal → StepsRebuild honest rows Was Now (Err refusal)
  step_ended refusal same = by_end refusal same (publishes.cause refusal same)
    where
      own_then : IsTableAfter table next member Now → (new_panel.down member ≡ true) ⊎ (state_at new_table.states member ≢ Missing)
      own_then (inl same) = inr (λ missing. rebuilding_missing (sym is.state ∙ ap (λ (t : Table). state_at t.states member) (sym same) ∙ missing))
      own_then (inr (inl same)) = inr (λ missing. next_there table next member end is to (ap (λ (t : Table). state_at t.states member) (sym same) ∙ missing))
      own_then (inr (inr marked)) = inl marked.1

      ended : (refusal : Refusal) → EndsIt refusal → IsNoStep Was Now refusal → StepsRebuild honest rows Was Now (Err refusal)
      ended refusal ends why = refused_step honest rows member Was Now refusal is record {
        goes_on = goes_then;
        number = refl;
        others = others_then;
        refused = refused_then;
        failure = λ fair open_still. absurd (open_still ends);
        own = own_then publishes.table;
        keeps = record { moments = moments; rests = λ fair open_still. absurd (open_still ends) };
        cause = why;
      }

      by_end : (refusal : Refusal) → answer ≡ Err refusal → IsEndOf Mid Now ⊥ refusal → StepsRebuild honest rows Was Now (Err refusal)
      by_end TwoLost same two = ended TwoLost tt two
      by_end Worn same worn = ended Worn tt worn
      by_end refusal same never = absurd never

-- the same of the table as the code has it, which writing rows left as it was

-- how a step goes on once its rows are safe
pub record StepsBy (honest : Type 0) (rows end : ℕ) (old new : ArrayView) (answer : Result Bool Refusal) : Type 0 where
  pub done : answer ≡ Ok true → (progress : declared.Progress) → IsProgressAt new.table.geometry end progress
      → StepsRebuild honest rows old new (Ok (progress_by progress))
  pub failed : answer ≡ Ok false → StepsRebuild honest rows old new (Err NothingToRebuild)
  pub ended : (refusal : Refusal) → answer ≡ Err refusal → StepsRebuild honest rows old new (Err refusal)

pub steps_by : (honest : Type 0) (member end rows number : ℕ) (table mid_table next new_table : Table) (old_panel mid_panel new_panel : Panel)
    (old mid new : History) (written answer : Result Bool Refusal)
    → IsRebuilding table member → IsWithin (view_of old_panel old table number) member end rows
    → WritesRows honest member table.position end (view_of old_panel old table number) (view_of mid_panel mid mid_table number) written → written ≡ Ok true
    → IsNextAt mid_table member end next → (honest → IsTrueTo mid_panel mid)
    → PublishesLast honest next member (view_of mid_panel mid mid_table number) (view_of new_panel new new_table number) answer
    → StepsBy honest rows end (view_of old_panel old table number) (view_of new_panel new new_table number) answer
steps_by honest member end rows number table mid_table next new_table old_panel mid_panel new_panel old mid new written answer is within writes all to true_mid
    publishes =
    by_table mid_table (sym (writes.written all).0)
    (subst (λ (r : Result Bool Refusal). WritesRows honest member table.position end (view_of old_panel old table number)
    (view_of mid_panel mid mid_table number) r) all writes) to publishes
  where
    up : honest → is_down mid member ≡ false
    up fair = sym ((true_mid fair).down member) ∙ (writes.written all).1

    at_same : WritesRows honest member table.position end (view_of old_panel old table number) (view_of mid_panel mid table number) (Ok true)
        → IsNextAt table member end next → PublishesLast honest next member (view_of mid_panel mid table number) (view_of new_panel new new_table number) answer
        → StepsBy honest rows end (view_of old_panel old table number) (view_of new_panel new new_table number) answer
    at_same w t p = record {
      done = λ is_done progress tells.
          let geometry : new_table.geometry ≡ table.geometry = ap (λ (t : Table). t.geometry) (p.taken is_done).0
          ∙ (next_step table next member end is t).same_geometry in
          step_done honest member end rows number table next new_table old_panel mid_panel new_panel old mid new answer is within w t up p is_done
          (progress_by progress)
          (subst (λ (g : Geometry). IsProgressAt g end progress) geometry tells);
      failed = step_last_failed honest member end rows number table next new_table old_panel mid_panel new_panel old mid new answer is within w t up p;
      ended = step_ended honest member end rows number table next new_table old_panel mid_panel new_panel old mid new answer is within w t up p;
    }

    by_table : (t : Table) → table ≡ t → WritesRows honest member table.position end (view_of old_panel old table number) (view_of mid_panel mid t number)
        (Ok true) → IsNextAt t member end next → PublishesLast honest next member (view_of mid_panel mid t number) (view_of new_panel new new_table number)
        answer
        → StepsBy honest rows end (view_of old_panel old table number) (view_of new_panel new new_table number) answer
    by_table t same = subst (λ (x : Table). WritesRows honest member table.position end (view_of old_panel old table number) (view_of mid_panel mid x number)
        (Ok true) → IsNextAt x member end next → PublishesLast honest next member (view_of mid_panel mid x number) (view_of new_panel new new_table number)
        answer
        → StepsBy honest rows end (view_of old_panel old table number) (view_of new_panel new new_table number) answer) same at_same

-- the table can have no further generation
pub step_worn_out : (honest : Type 0) (rows member : ℕ) (array : ArrayView) → IsRebuilding array.table member → GREATEST_COUNT ≤ array.table.generation
    → StepsRebuild honest rows array array (Err Worn)
step_worn_out honest rows member array is worn = refused_step honest rows member array array Worn is record {
  goes_on = goes_on_at_rest array;
  number = refl;
  others = λ other below apart. record { state = inl refl };
  refused = inl refl;
  failure = λ fair open_still. absurd (open_still tt);
  own = inr (λ missing. rebuilding_missing (sym is.state ∙ missing));
  keeps = keeps_at_rest honest array _;
  cause = inl (inr (omega (arith, worn), worn));
}
