-- How publishing a table ends that differs in the lost slot alone, whose device comes last: the array is settled by the next table, or that device failed, or
-- neither.
use Rattle.std.proofs.Common.{◌≡◌, ◌≢◌, inl, inr, ℕ, ◌<◌, ◌≤◌, Bool, true, false, List, [], ◌∷◌, length, Contains, Option, Some, None, Result, Ok, Err, refl}
use Rattle.std.proofs.Common.{sym, ◌∙◌, ap, subst, arith}
use Rattle.std.specs.Prelude.{is_ok}
use Rattle.std.proofs.lemmas.Bool.{cases_eq}
use Rattle.std.proofs.lemmas.List.Elements.{Contains-append_left}
use Rattle.layout_map.specs.declared.geometry.Geometry.{Geometry}
use Rattle.sector_model.specs.declared.sector.Stop.{Stop}
use Rattle.sector_model.specs.declared.sector.Stop.TheVariants.{Down}
use Rattle.sector_model.specs.Bank.{Panel}
use Rattle.sector_model.specs.Calls.{Call, Flush, Made, Performs, Read, Write, after_call, device_of}
use Rattle.sector_model.specs.History.{Bytes, History, MayHold, disk_of, is_down, sector_of, seen}
use Rattle.sector_model.specs.Moments.{Throughout}
use Rattle.sector_model.specs.Readable.{NothingPending, readable}
use Rattle.sector_model.proofs.Readable.{readable_left, readable_up}
use Rattle.sector_model.proofs.Steps.{throughout_last, throughout_more, up_seen}
use Rattle.superblock.specs.declared.state.State.TheVariants.{Missing}
use Rattle.superblock.specs.declared.table.Table.{Table}
use Rattle.superblock.specs.Cases.{Lost}
use Rattle.superblock.specs.Counted.{Content, IsChosen, IsLive, least_sectors}
use Rattle.superblock.specs.Losses.{AllChoose, InEachImage, OthersAreUp}
use Rattle.superblock.specs.NextTables.{IsComplete, slots_of}
use Rattle.superblock.specs.Publishing.{ChooseEither, IsSafeAt, MayPublish, Publishes, StandsAt, first_slots, place_of, publish_calls}
use Rattle.superblock.specs.Tables.{state_at}
use Rattle.superblock.proofs.PublishSteps.{GetsIt, IsInPublish, IsNewThere, in_publish}
use Rattle.superblock.proofs.PublishedSlots.{first_has, other_first}
use Rattle.stripe_journal.specs.OneEntry.{StaysOff}
use Rattle.stripe_journal.proofs.OneEntryCalls.{made_down, stays_off_call}
use Rattle.array_io.specs.Steps.Bringing.{CarriesAll}
use Rattle.array_io.specs.Believed.Holds.{Holds}
use Rattle.array_io.specs.Believed.Moments.{HoldsNow, HoldsThroughout}
use Rattle.array_io.specs.Steps.Writing.{HasFailedOnce}
use Rattle.array_io.proofs.Rest.AtRest.{Rests, at_rest_is_settled}
use Rattle.array_io.proofs.Rest.AtRestImages.{LeavesSectors}
use Rattle.array_io.proofs.Images.LossBefore.{up_before}
use Rattle.array_io.proofs.Marks.MarkingMoments.{throughout_both}
use Rattle.array_io.proofs.Tables.PublishImages.{gets_how, gets_last, long_before}
use Rattle.array_io.proofs.Images.Spellings.{Spellings}
use Rattle.array_io.proofs.Tables.StepHolds.{gets_of_set, in_sync_then, incarnation_new, same_slots, spelled_there, step_not_older}
use Rattle.array_io.proofs.Tables.StepRest.{IsAfter, TakesFrom, after_or_none, entry_after, live_next, live_there, says, up_at_first}
use Rattle.array_io.proofs.Tables.Stepping.{IsStepping, stepping_chosen, stepping_throughout}

-- of calls in a row one device fails at most

flags_differ : true ≡ false → ⊥
flags_differ e = cc

answered_down : (call : Call) (h : History) (device : ℕ) → is_down (after_call call true h) device ≡ is_down h device
answered_down (Read at place) h device = refl
answered_down (Write at place value) h device = refl
answered_down (Flush at) h device = refl

pub one_fails : (calls : List Call) (answered : Bool) (old new : History) (failure other : ℕ) → Performs calls answered old new → is_down old failure ≡ false
    → is_down new failure ≡ true → other ≢ failure → is_down new other ≡ is_down old other
one_fails [] answered old new failure other (all, is) up down apart = ap (λ (h : History). is_down h other) is
one_fails (call ∷ calls) answered old new failure other (inl (none, inl is)) up down apart = ap (λ (h : History). is_down h other) is
one_fails (call ∷ calls) answered old new failure other (inl (none, inr is)) up down apart = elim (cases_eq failure (device_of call)) [
  | inl same ↦ ap (λ (h : History). is_down h other) is ∙ (off call old).others_down other (λ here. apart (here ∙ sym same))
  | inr differs ↦ absurd (flags_differ (sym (ap (λ (h : History). is_down h failure) (sym is) ∙ down) ∙ (off call old).others_down failure differs ∙ up))
]
  where
    off : (c : Call) (h : History) → StaysOff (λ d. d ≡ device_of c) h (after_call c false h)
    off c h = stays_off_call (λ d. d ≡ device_of c) c false h refl
one_fails (call ∷ calls) answered old new failure other (inr (there, rest)) up down apart =
    one_fails calls answered (after_call call true old) new failure other rest (answered_down call old failure ∙ up) down apart ∙ answered_down call old other

-- the publish

module _ (spellings : Spellings) (honest : Type 0) (devices number : ℕ) (table next : Table) (slot : ℕ) (one : Lost) (V : List Bytes)
    (old_panel new_panel : Panel) (mid new : History)
    (result : Result (Unit {0}) Stop) (published : Publishes honest next (Some slot) old_panel new_panel mid new result)
    (from : TakesFrom devices number table next slot one V published.sectors mid) (is_honest : honest) where
  abbrev sectors : ℕ → Bytes
  sectors = published.sectors

  may_publish : MayPublish devices table next (Some slot) one mid
  may_publish = record {
    not_older = step_not_older table next slot from.steps.step;
    generation = from.steps.step.generation;
    lost_last = inl (ap (λ (k : ℕ). Some k) (sym from.own));
    chosen = λ after image lost_at may.
        subst (λ (l : Option Lost). AllChoose devices table record { image = image; lost = l }) (sym lost_at.1) (record {
          whole = from.settled.chosen.whole image may;
          weakened = λ other content out stands. from.settled.chosen.weakened image other content may out stands;
        });
  }

  publishing : Throughout (IsInPublish next (Some slot) sectors mid) mid new
  publishing = in_publish next (Some slot) sectors (is_ok result) mid new (published.made is_honest)

  is_stepping : (h : History) → IsInPublish next (Some slot) sectors mid h → ChooseEither devices table next one h
      → IsStepping devices table next slot (Some slot) one (V ∷ []) sectors mid h
  is_stepping h publish either = record {
    steps = from.steps;
    own = from.own;
    up = λ is. from.up;
    in_publish = publish;
    either = either;
    says = λ image may up chosen. says spellings devices number table next slot one V sectors mid from h publish up image may chosen;
    away = λ there. from.away;
  }

  stepping : Throughout (IsStepping devices table next slot (Some slot) one (V ∷ []) sectors mid) mid new
  stepping = throughout_more (λ h both. is_stepping h both.0 both.1) new
      (throughout_both new publishing (published.moments is_honest devices table one may_publish))

  holds_at_first : HoldsNow table devices (Some one) (V ∷ []) mid
  holds_at_first after image lost_at may = subst (λ (l : Option Lost). Holds table devices record { image = image; lost = l } (V ∷ [])) (sym lost_at.1)
      (from.settled.holds image may)

  -- at each moment all cases hold
  pub takes_throughout : HoldsThroughout table devices (Some one) (V ∷ []) mid new
  takes_throughout = stepping_throughout spellings devices table next slot (Some slot) one (V ∷ []) sectors mid new stepping from.settled.chosen holds_at_first

  pub last : IsInPublish next (Some slot) sectors mid new
  last = throughout_last new publishing

  pub was_up : (device : ℕ) → is_down new device ≡ false → is_down mid device ≡ false
  was_up device up = up_before mid new last.stays_down device up

  gets_other : (other : ℕ) → other < slots_of table → other ≢ slot → Contains (first_slots next (Some slot)) other
  gets_other other of_set apart = first_has next (Some slot) other (record {
    of_set = omega (arith, of_set, same_slots spellings devices table next slot (Some slot) sectors from.steps);
    in_sync = in_sync_then spellings devices table next slot (Some slot) sectors from.steps other of_set apart;
    not_last = λ is. apart (sym (same_some slot other is));
  })
    where
      same_some : (a b : ℕ) → Some a ≡ Some b → a ≡ b
      same_some a b is = cc

  -- nothing is pending on devices that are up, where the table is safe on those that are
  pending_none : ((other : ℕ) → GetsIt next (Some slot) other → is_down new other ≡ false → IsSafeAt new other (place_of next) (sectors other))
      → NothingPending new
  pending_none safe device at first second up may may' = elim (last.holds device at first may) [
    | inr is_new ↦ both is_new
    | inl before ↦ elim (last.holds device at second may') [
      | inr is_new ↦ both is_new
      | inl before' ↦ from.settled.nothing_pending device at first second (was_up device up) before before'
    ]
  ]
    where
      safe_there : {value : Bytes} → IsNewThere next (Some slot) sectors device at value → (held : Bytes) → MayHold new device at held → held ≡ sectors device
      safe_there is_new held may = safe device is_new.gets up held (subst (λ (a : ℕ). MayHold new device a held) is_new.in_place may)

      both : {value : Bytes} → IsNewThere next (Some slot) sectors device at value → first ≡ second
      both is_new = safe_there is_new first may ∙ sym (safe_there is_new second may')

  -- where the other devices are up, and have the table for sure
  module _ (up : OthersAreUp (slots_of table) new slot) (safe : (other : ℕ) → Contains (first_slots next (Some slot)) other
      → IsSafeAt new other (place_of next) (sectors other)) where
    pub chosen_then : InEachImage devices next new (Some one) (λ image. IsChosen next.id devices image next)
    chosen_then =
        let other = other_first next (Some slot) slot refl in
        let gets : GetsIt next (Some slot) other.0 = Contains-append_left (first_slots next (Some slot)) (slot ∷ []) other.0 other.2 in
        stepping_chosen spellings devices table next slot (Some slot) one (V ∷ []) sectors mid new (throughout_last new stepping) up other.0 gets
        (up other.0 (gets_of_set spellings devices table next slot (Some slot) sectors from.steps other.0 gets) other.1) (safe other.0 other.2)

    reads_chosen : IsChosen next.id devices (readable new) next
    reads_chosen = chosen_then.whole (readable new) (readable_left new)

  -- Where the last device failed, once the others had the table.
  pub takes_failed : result ≡ Err (Down slot) → is_down new slot ≡ true → HasFailedOnce devices table next (Some one) (V ∷ []) slot new
  takes_failed failed down = record {
    nothing_pending = pending_none (λ other gets there. elim (gets_how next (Some slot) other gets) [
      | inl first ↦ safe other (first_has next (Some slot) other first)
      | inr is ↦ absurd (flags_differ (sym down ∙ ap (is_down new) (sym (from.steps.only_last other is)) ∙ there))
    ]);
    others_there = λ other counted apart.
        live_there spellings devices number table next slot one V sectors mid from new last up (readable new) (readable_left new) (reads_chosen up safe) other
        (omega (arith, counted.of_set, same_slots spellings devices table next slot (Some slot) sectors from.steps)) apart;
    counted = record {
      of_set = omega (arith, from.steps.step.of_set, same_slots spellings devices table next slot (Some slot) sectors from.steps);
      there =
          from.there;
    };
    down = down;
    same_id = from.steps.step.same_id;
    holds = throughout_last new takes_throughout;
    chosen = λ after lost_at. subst (λ (l : Option Lost). InEachImage devices next new l (λ image. IsChosen next.id devices image next)) (sym lost_at.1)
        (chosen_then up safe);
  }
    where
      safe : (other : ℕ) → Contains (first_slots next (Some slot)) other → IsSafeAt new other (place_of next) (sectors other)
      safe = published.safe_first is_honest slot failed refl

      up : OthersAreUp (slots_of table) new slot
      up other of_set apart =
          one_fails (publish_calls next (Some slot) sectors) (is_ok result) mid new slot other (published.made is_honest).performed from.up down apart
          ∙ up_at_first spellings devices number table next slot one V sectors mid from other of_set apart

  -- Where all of it was done.
  module _ (done : result ≡ Ok tt) where
    made_all : Made (publish_calls next (Some slot) sectors) true mid new
    made_all = subst (λ (b : Bool). Made (publish_calls next (Some slot) sectors) b mid new) (ap is_ok done) (published.made is_honest)

    same_down : (device : ℕ) → is_down new device ≡ is_down mid device
    same_down = made_down made_all

    up_then : OthersAreUp (slots_of table) new slot
    up_then other of_set apart = same_down other ∙ up_at_first spellings devices number table next slot one V sectors mid from other of_set apart

    safe_then : (other : ℕ) → GetsIt next (Some slot) other → IsSafeAt new other (place_of next) (sectors other)
    safe_then other gets = published.safe is_honest done other gets

    safe_others : (other : ℕ) → Contains (first_slots next (Some slot)) other → IsSafeAt new other (place_of next) (sectors other)
    safe_others other first = safe_then other (Contains-append_left (first_slots next (Some slot)) (slot ∷ []) other first)

    now_chosen : IsChosen next.id devices (readable new) next
    now_chosen = reads_chosen up_then safe_others

    slot_up : is_down new slot ≡ false
    slot_up = same_down slot ∙ from.up

    reads_after : IsAfter spellings devices number table next slot one V sectors mid from (readable new)
    reads_after = elim (after_or_none spellings devices number table next slot one V sectors mid from new last up_then (readable new) (readable_left new)
        now_chosen) [
          | inl none ↦ absurd (not_none (sym (readable_up new slot slot_up) ∙ none))
          | inr is ↦ is
        ]
      where
        not_none : Some (seen new slot) ≡ None → ⊥
        not_none is = cc

    -- what reads give of a device that got the table
    stands_then : (other : ℕ) → GetsIt next (Some slot) other → is_down new other ≡ false
        → sector_of (disk_of (readable new other)) (place_of next) ≡ sectors other
    stands_then other gets up = ap (λ (c : Content). sector_of (disk_of c) (place_of next)) (readable_up new other up)
        ∙ safe_then other gets (sector_of (seen new other) (place_of next)) (up_seen new other (place_of next) up)

    -- the slot is live
    slot_live : IsLive devices next slot (readable new slot)
    slot_live = record {
      long_enough = subst (λ (g : Geometry). least_sectors g slot ≤ length (disk_of (readable new slot))) (sym from.steps.step.same_geometry)
          (omega (arith, from.long, long_before next (Some slot) sectors slot (readable mid slot) (readable new slot) reads_after.here));
      not_missing = from.there;
      incarnation = incarnation_new spellings devices table next slot (Some slot) sectors from.steps slot (readable new slot) (gets_last next slot)
          (stands_then slot (gets_last next slot) slot_up) (λ place superblock counts. now_chosen.greatest slot place superblock counts);
    }

    there_then : (other : ℕ) → other < slots_of next → state_at next.states other ≢ Missing → IsLive devices next other (readable new other)
    there_then other of_set not_missing = elim (cases_eq other slot) [
      | inl same ↦ subst (λ (k : ℕ). IsLive devices next k (readable new k)) (sym same) slot_live
      | inr apart ↦ live_next spellings devices number table next slot one V sectors mid from (readable new) reads_after other
          (omega (arith, of_set, same_slots spellings devices table next slot (Some slot) sectors from.steps)) apart
    ]

    -- each slot of the set carries the table
    carries_all : IsComplete next → CarriesAll next (readable new)
    carries_all complete = record {
      stands = λ other of_set.
          let of_old : other < slots_of table = omega (arith, of_set, same_slots spellings devices table next slot (Some slot) sectors from.steps) in
          elim (cases_eq other slot) [
            | inl same ↦ subst (λ (k : ℕ). StandsAt next k (sector_of (disk_of (readable new k)) (place_of next))) (sym same)
                (subst (StandsAt next slot) (sym (stands_then slot (gets_last next slot) slot_up))
                (spelled_there spellings devices table next slot (Some slot) sectors from.steps slot (gets_last next slot)))
            | inr apart ↦
                let gets : GetsIt next (Some slot) other =
                Contains-append_left (first_slots next (Some slot)) (slot ∷ []) other (gets_other other of_old apart) in
                subst (StandsAt next other) (sym (stands_then other gets (up_then other of_old apart)))
                (spelled_there spellings devices table next slot (Some slot) sectors from.steps other gets)
          ];
    }

    -- the array is settled by the next table
    pub takes_rests : LeavesSectors new → Rests table next devices number (Some one) (V ∷ []) new
    takes_rests leaves = at_rest_is_settled spellings table next devices number (Some one) (V ∷ []) new record {
      nothing_pending = pending_none (λ other gets up. safe_then other gets);
      holds = throughout_last new takes_throughout;
      single_failure = (
        Some one,
        (
          subst (λ (k : ℕ). k < slots_of table) (sym from.own) from.steps.step.of_set,
          refl,
          λ other of_set apart. up_then other of_set (λ same. apart (same ∙ sym from.own)),
        ),
      );
      chosen = subst (λ (i : List ℕ). IsChosen i devices (readable new) next) from.steps.step.same_id now_chosen;
      there = there_then;
      entry = entry_after spellings devices number table next slot one V sectors mid from (readable new) reads_after;
      sectors = leaves;
    } carries_all
