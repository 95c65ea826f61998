-- A device fails while a set is written, and its slot is marked missing: every case keeps holding, and the set may be written on.
use Rattle.std.proofs.Common.{◌≡◌, ◌≢◌, inl, inr, ℕ, ◌+◌, ◌<◌, ◌≤◌, true, false, List, [], length, Option, Some, None, Ok, refl, sym, ◌∙◌, ap, subst, arith}
use Rattle.std.specs.Prelude.{IfSome}
use Rattle.std.proofs.lemmas.Bool.{cases_eq}
use Rattle.sector_model.specs.Bank.{Panel}
use Rattle.sector_model.specs.History.{Bytes, History, MayHold, Slots, MayLeave, disk_of, is_down, sector_of, seen}
use Rattle.sector_model.specs.MemoryLaw.{length-seen}
use Rattle.sector_model.specs.Moments.{Contents, Throughout, here}
use Rattle.sector_model.specs.Readable.{NothingPending, readable}
use Rattle.sector_model.proofs.Readable.{readable_down, readable_left, readable_up}
use Rattle.sector_model.proofs.Steps.{throughout_last, up_seen}
use Rattle.layout_map.specs.declared.sizes.TheConstants.{SUPERBLOCK_PLACES}
use Rattle.layout_map.specs.declared.geometry.Geometry.{Geometry}
use Rattle.superblock.specs.declared.state.State.TheVariants.{InSync, Missing}
use Rattle.superblock.specs.declared.table.Table.{Table}
use Rattle.superblock.specs.Tables.{state_at}
use Rattle.superblock.specs.Cases.{Lost}
use Rattle.superblock.specs.Counted.{Content, IsChosen, IsLive}
use Rattle.superblock.specs.Losses.{IsLostAt, IsSingleFailure}
use Rattle.superblock.specs.NextTables.{IsMarked, slots_of}
use Rattle.superblock.specs.Publishing.{place_of}
use Rattle.superblock.proofs.PublishSteps.{IsInPublish, IsNewThere}
use Rattle.stripe_journal.specs.OneEntry.{StaysOff}
use Rattle.stripe_journal.proofs.OneEntryCalls.{made_down}
use Rattle.array_io.specs.Believed.ArrayCalls.{Answer}
use Rattle.array_io.specs.Steps.Bringing.{CountsOn}
use Rattle.array_io.specs.Steps.MarkingOn.{IsMarkedOn, IsWhyLeft, MarksOn}
use Rattle.array_io.specs.Believed.Moments.{HoldsThroughout}
use Rattle.array_io.specs.Steps.Writing.{HasFailedOnce, IsWriting, WritesFrom}
use Rattle.array_io.proofs.Writes.Written.{KeepsRows}
use Rattle.array_io.proofs.Rest.AtRestImages.{Held}
use Rattle.array_io.proofs.Laws.Beginning.{live_is_up}
use Rattle.array_io.proofs.Images.Counting.{none_is_out}
use Rattle.array_io.proofs.Images.LossBefore.{by_table, up_before, was_lost}
use Rattle.array_io.proofs.Marks.MarkedEnd.{at_end, gets_others, made, result_ok, stays_throughout, up_then}
use Rattle.array_io.proofs.Marks.MarkedWhole.{IsLostThen, MarksFrom, marks_chosen, marks_each, marks_throughout, out_is_lost, throughout_if_lost}
use Rattle.array_io.proofs.Marks.MarkingHolds.{marks_slot, missing_then}
use Rattle.array_io.proofs.Tables.PublishImages.{IsReplaced}
use Rattle.array_io.proofs.Tables.StepHolds.{StepsSlot, live_then}
use Rattle.array_io.proofs.Images.Spellings.{Spellings}
use Rattle.array_io.proofs.Writes.Writing.{writing_chosen, writing_holds, writing_live, writing_throughout}

-- The slot is marked missing, and the set may be written on by the new table, where no second slot is lost; after the superblocks each device that is up
-- has what it had, and no further device failed.
pub record MarkedOn (devices : ℕ) (base old_table new_table : Table) (lost : Option Lost) (X : List (List Bytes)) (slot : ℕ) (mid new : History) : Type 0 where
  pub from : IsSingleFailure (slots_of base) lost new → WritesFrom devices base new_table lost X new
  pub marked : IsMarked old_table slot new_table
  pub others_in_sync : (other : ℕ) → other < slots_of old_table → other ≢ slot → state_at old_table.states other ≡ InSync
  pub beyond : (device at : ℕ) → is_down new device ≡ false → SUPERBLOCK_PLACES ≤ at → sector_of (seen new device) at ≡ sector_of (seen mid device) at
  pub down : (device : ℕ) → is_down new device ≡ is_down mid device

none_differ : Missing ≡ InSync → ⊥
none_differ is = cc

flags_differ : true ≡ false → ⊥
flags_differ is = cc

module _ (spellings : Spellings) (honest : Type 0) (devices : ℕ) (base old_table new_table : Table) (lost : Option Lost) (X : List (List Bytes)) (slot : ℕ)
    (old_panel new_panel : Panel) (mid new : History) (answer : Answer) (failure : HasFailedOnce devices base old_table lost X slot mid) (is_honest : honest)
    (is : IsMarkedOn honest slot old_panel new_panel old_table new_table mid new answer) where
  -- each case by the old table
  held : (after : Option Lost) → IsLostAt (slots_of base) lost mid after → (image : Slots) → MayLeave mid image → Held base devices old_table X image after
  held after lost_at image may =
      let by = by_table base devices old_table X (record { image = image; lost = after }) failure.same_id (failure.holds after image lost_at may)
      ((failure.chosen after lost_at).whole image may) in
      record {
        not_older = by.not_older;
        lost_in_set = by.lost_in_set;
        whole = by.whole;
        weakened = by.weakened;
        one_counts = by.one_counts;
      }

  -- the slot is the lost one
  its : (after : Option Lost) → IsLostAt (slots_of base) lost mid after → IsLostThen lost mid after slot
  its after lost_at = out_is_lost spellings base old_table devices lost X mid after (held after lost_at (readable mid) (readable_left mid)) lost_at slot
      failure.counted.of_set
      (λ live. none_is_out spellings devices old_table slot (subst (IsLive devices old_table slot) (readable_down mid slot failure.down) live))

  marks_from : (after : Option Lost) → (lost_at : IsLostAt (slots_of base) lost mid after)
      → MarksFrom base old_table new_table devices slot lost X (its after lost_at).one mid
  marks_from after lost_at =
      let chosen = (failure.chosen after lost_at).whole (readable mid) (readable_left mid) in
      record {
        not_older = (held after lost_at (readable mid) (readable_left mid)).not_older;
        marked = is.marked;
        of_set = failure.counted.of_set;
        has_slots = omega (arith, chosen.counted.has_slots, ap (λ (t : Table). t.geometry.members) chosen.carried);
        own = (its after lost_at).own;
        by = (its after lost_at).by;
        held = λ image may. subst (Held base devices old_table X image) (its after lost_at).is (held after lost_at image may);
      }

  -- at each moment all cases hold
  moments : HoldsThroughout base devices lost X mid new
  moments = throughout_if_lost base devices lost X mid new
      (stays_throughout honest old_table new_table slot old_panel new_panel mid new answer is failure.counted.of_set is_honest)
      (λ after lost_at. marks_throughout spellings honest devices base old_table new_table slot lost X (its after lost_at).one old_panel new_panel mid new
      is.result is.publishes
      (marks_from after lost_at) is_honest)

  last : IsInPublish new_table None is.publishes.sectors mid new
  last = at_end honest old_table new_table slot old_panel new_panel mid new answer is failure.counted.of_set is_honest

  device_was_up : (device : ℕ) → is_down new device ≡ false → is_down mid device ≡ false
  device_was_up device up = up_before mid new last.stays_down device up

  -- of a device that is up, each sector after the superblocks has what reads gave
  seen_beyond : (device at : ℕ) → is_down new device ≡ false → SUPERBLOCK_PLACES ≤ at → sector_of (seen new device) at ≡ sector_of (seen mid device) at
  seen_beyond device at up beyond = elim (last.holds device at (sector_of (seen new device) at) (up_seen new device at up)) [
    | inl before ↦ failure.nothing_pending device at (sector_of (seen new device) at) (sector_of (seen mid device) at) (device_was_up device up) before
        (up_seen mid device at (device_was_up device up))
    | inr is_new ↦ let below : place_of new_table < SUPERBLOCK_PLACES = omega arith in absurd (omega (arith, beyond, is_new.in_place, below))
  ]

  module _ (ok : answer ≡ Ok tt) where
    published : is.result ≡ Ok tt
    published = result_ok honest old_table new_table slot old_panel new_panel mid new answer is failure.counted.of_set is_honest ok

    -- a sector has one value where it gets the superblock, or had one
    none_pending : NothingPending new
    none_pending device at first second up may may' = elim (last.holds device at first may) [
      | inr is_new ↦ both is_new
      | inl before ↦ elim (last.holds device at second may') [
        | inr is_new ↦ both is_new
        | inl before' ↦ failure.nothing_pending device at first second (device_was_up device up) before before'
      ]
    ]
      where
        safe_there : {value : Bytes} → IsNewThere new_table None is.publishes.sectors device at value → (held : Bytes) → MayHold new device at held
            → held ≡ is.publishes.sectors device
        safe_there is_new held may =
            is.publishes.safe is_honest published device is_new.gets held (subst (λ (a : ℕ). MayHold new device a held) is_new.in_place may)

        both : {value : Bytes} → IsNewThere new_table None is.publishes.sectors device at value → first ≡ second
        both is_new = safe_there is_new first may ∙ sym (safe_there is_new second may')

    same_down : (device : ℕ) → is_down new device ≡ is_down mid device
    same_down = made_down (made honest old_table new_table slot old_panel new_panel mid new answer is failure.counted.of_set is_honest ok)

    -- another slot has what it had, with the new superblock
    replaced : (other : ℕ) → other < slots_of old_table → other ≢ slot
        → IsReplaced new_table None is.publishes.sectors other (readable mid other) (readable new other)
    replaced other of_set apart =
        let gets = gets_others honest old_table new_table slot old_panel new_panel mid new answer is failure.counted.of_set is_honest other of_set apart in
        let up = up_then honest old_table new_table slot old_panel new_panel mid new answer is failure.counted.of_set is_honest ok other gets in
        let now = readable_up new other up in
        let was = readable_up mid other (device_was_up other up) in
        record {
          gets = gets;
          stands = ap (λ (c : Content). sector_of (disk_of c) (place_of new_table)) now
              ∙ is.publishes.safe is_honest published other gets (sector_of (seen new other) (place_of new_table)) (up_seen new other (place_of new_table) up);
          others = λ at elsewhere. ap (λ (c : Content). sector_of (disk_of c) at) now ∙ seen_apart other at up elsewhere
              ∙ sym (ap (λ (c : Content). sector_of (disk_of c) at) was);
          long = ap (λ (c : Content). length (disk_of c)) now ∙ length-seen new other ∙ ap (λ (c : Content). length (disk_of c)) (last.start other)
              ∙ sym (length-seen mid other)
              ∙ sym (ap (λ (c : Content). length (disk_of c)) was);
        }
      where
        seen_apart : (other at : ℕ) → is_down new other ≡ false → at ≢ place_of new_table → sector_of (seen new other) at ≡ sector_of (seen mid other) at
        seen_apart other at up elsewhere = elim (last.holds other at (sector_of (seen new other) at) (up_seen new other at up)) [
          | inl before ↦ failure.nothing_pending other at (sector_of (seen new other) at) (sector_of (seen mid other) at) (device_was_up other up) before
              (up_seen mid other at (device_was_up other up))
          | inr is_new ↦ absurd (elsewhere is_new.in_place)
        ]

    module _ (single_failure : IsSingleFailure (slots_of base) lost new) where
      was : (after : Option Lost) × IsLostAt (slots_of base) lost mid after
      was = let before = was_lost (slots_of base) lost mid new single_failure.0 last.stays_down single_failure.1 in (before.before, before.was)

      steps : StepsSlot devices old_table new_table slot None is.publishes.sectors
      steps = marks_slot devices old_table new_table slot is.publishes.sectors is.marked failure.counted.of_set is.others (marks_from was.0 was.1).has_slots
          is.publishes.spelled

      chosen_now : IsChosen new_table.id devices (readable new) new_table
      chosen_now = marks_chosen spellings honest devices base old_table new_table slot lost X (its was.0 was.1).one old_panel new_panel mid new is.result
          is.publishes
          (marks_from was.0 was.1) is_honest published

      there : (other : ℕ) → other < slots_of new_table → state_at new_table.states other ≢ Missing → IsLive devices new_table other (readable new other)
      there other of_set counted =
          let of_old = subst (λ (g : Geometry). other < g.members + 2) is.marked.same_geometry of_set in
          let apart : other ≢ slot = λ same. counted (ap (λ (k : ℕ). state_at new_table.states k) same
          ∙ missing_then old_table new_table slot is.marked failure.counted.of_set) in
          live_then spellings devices old_table new_table slot None is.publishes.sectors steps other (readable mid other) (readable new other) of_old apart
          (inr (replaced other of_old apart)) (λ place superblock counts. chosen_now.greatest other place superblock counts)
          (failure.others_there other (record { of_set = of_old; there = λ missing. none_differ (sym missing ∙ is.others other of_old apart) }) apart)

      on : WritesFrom devices base new_table lost X new
      on = record {
        nothing_pending = none_pending;
        there = there;
        same_id = is.marked.same_id ∙ failure.same_id;
        holds = throughout_last new moments;
        chosen = λ after lost_at.
            let before = was_lost (slots_of base) lost mid new after last.stays_down lost_at in
            marks_each spellings honest devices base old_table new_table slot lost X (its before.before before.was).one old_panel new_panel mid new is.result
            is.publishes
            (marks_from before.before before.was) is_honest published after lost_at;
      }

    marked_on : MarkedOn devices base old_table new_table lost X slot mid new
    marked_on = record {
      from = on;
      marked = is.marked;
      others_in_sync = is.others;
      beyond = seen_beyond;
      down = same_down;
    }

-- What marking the slot missing leaves: every case holds at each moment, and at Ok the set may be written on.
pub failed_marked : Spellings → (honest : Type 0) (devices : ℕ) (base old_table new_table : Table) (lost : Option Lost) (X : List (List Bytes)) (slot : ℕ)
    (old_panel new_panel : Panel) (mid new : History) (answer : Answer) → HasFailedOnce devices base old_table lost X slot mid → honest
    → MarksOn honest slot old_panel new_panel old_table new_table mid new answer
    → HoldsThroughout base devices lost X mid new × (answer ≡ Ok tt → MarkedOn devices base old_table new_table lost X slot mid new)
failed_marked spellings honest devices base old_table new_table lost X slot old_panel new_panel mid new answer failure is_honest (inr is) = (
  moments spellings honest devices base old_table new_table lost X slot old_panel new_panel mid new answer failure is_honest is,
  λ ok. marked_on spellings honest devices base old_table new_table lost X slot old_panel new_panel mid new answer failure is_honest is ok,
)
failed_marked spellings honest devices base old_table new_table lost X slot old_panel new_panel mid new answer failure is_honest (inl left) = (
  subst (λ (h : History). HoldsThroughout base devices lost X mid h) (sym left.same_history) (here failure.holds),
  λ ok. absurd (not_ok left.why ok),
)
  where
    not_ok : IsWhyLeft old_table slot answer → ¬ (answer ≡ Ok tt)
    not_ok (inl (missing, is)) ok = failure.counted.there missing
    not_ok (inr (inl (counted, beside, two))) ok = cc
    not_ok (inr (inr (counted, worn, others, worn_is))) ok = cc

-- one step of writing

-- nothing is pending where only the device was called that is down now
none_pending_failed : (slot : ℕ) (old mid : History) → NothingPending old → StaysOff (λ d. d ≡ slot) old mid → is_down mid slot ≡ true → NothingPending mid
none_pending_failed slot old mid pending off down d at first second up may may' = elim (cases_eq d slot) [
  | inl same ↦ absurd (flags_differ (sym down ∙ ap (is_down mid) (sym same) ∙ up))
  | inr apart ↦ pending d at first second (sym (off.others_down d apart) ∙ up) (off.others d at first apart may) (off.others d at second apart may')
]

-- The device failed in a step of writing that called no other.
pub failed_in_step : Spellings → (devices : ℕ) (base table : Table) (lost : Option Lost) (X X' : List (List Bytes)) (puts : Contents) (slot : ℕ)
    (old mid : History)
    → WritesFrom devices base table lost X old → KeepsRows devices table puts (readable old) X X' → Throughout (IsWriting table puts old) old mid
    → StaysOff (λ d. d ≡ slot) old mid → CountsOn table slot → is_down mid slot ≡ true
    → HasFailedOnce devices base table lost X' slot mid × HoldsThroughout base devices lost X' old mid
failed_in_step spellings devices base table lost X X' puts slot old mid from keeps moments off counted down = (
  record {
    nothing_pending = none_pending_failed slot old mid from.nothing_pending off down;
    others_there = λ other there apart.
        writing_live spellings devices table puts old mid from.nothing_pending from.there (throughout_last mid moments) other there
        (off.others_down other apart ∙ live_is_up spellings devices table old other (from.there other there.of_set there.there));
    counted = counted;
    down = down;
    same_id = from.same_id;
    holds = writing_holds spellings devices base table lost X X' puts old mid from keeps (throughout_last mid moments);
    chosen = λ after lost_at. writing_chosen spellings devices base table lost X X' puts old mid from keeps (throughout_last mid moments) after lost_at;
  },
  writing_throughout spellings devices base table lost X X' puts old mid from keeps moments,
)

-- where one slot is lost at most

-- No further device failed.
pub single_failure_stays : (slots : ℕ) (lost : Option Lost) (old new : History) → ((device : ℕ) → is_down new device ≡ is_down old device)
    → IsSingleFailure slots lost old → IsSingleFailure slots lost new
single_failure_stays slots None old new down (after, inl (none, up)) = (after, inl (none, λ other of_set. down other ∙ up other of_set))
single_failure_stays slots None old new down (after, inr failure) = (
  after,
  inr record {
    slot = failure.slot;
    of_set = failure.of_set;
    failed = down failure.slot ∙ failure.failed;
    others = λ other of_set apart. down other ∙ failure.others other of_set apart;
    lost = failure.lost;
  },
)
single_failure_stays slots (Some one) old new down (after, (of_set, same, up)) =
    (after, (of_set, same, λ other within apart. down other ∙ up other within apart))

-- Where all other slots are in sync, and none was lost before or the slot itself, the slot is the one that is lost.
pub failed_is_single_failure : Spellings → (devices : ℕ) (base table : Table) (lost : Option Lost) (X : List (List Bytes)) (slot : ℕ) (mid : History)
    → HasFailedOnce devices base table lost X slot mid → slots_of table ≡ slots_of base
    → ((other : ℕ) → other < slots_of table → other ≢ slot → state_at table.states other ≡ InSync) → IfSome lost (λ one. one.slot ≡ slot)
    → IsSingleFailure (slots_of base) lost mid
failed_is_single_failure spellings devices base table lost X slot mid failure same others own = by_lost lost own
  where
    of_base : slot < slots_of base
    of_base = subst (λ (n : ℕ). slot < n) same failure.counted.of_set

    up : (other : ℕ) → other < slots_of base → other ≢ slot → is_down mid other ≡ false
    up other within apart =
        let of_set = subst (λ (n : ℕ). other < n) (sym same) within in
        live_is_up spellings devices table mid other
        (failure.others_there other (record { of_set = of_set; there = λ missing. none_differ (sym missing ∙ others other of_set apart) }) apart)

    by_lost : (l : Option Lost) → IfSome l (λ one. one.slot ≡ slot) → IsSingleFailure (slots_of base) l mid
    by_lost None none = (Some record { slot = slot; away = [] }, inr record { slot = slot; of_set = of_base; failed = failure.down; others = up; lost = refl })
    by_lost (Some one) is = (
      Some one,
      (subst (λ (k : ℕ). k < slots_of base) (sym is) of_base, refl, λ other within apart. up other within (λ here. apart (here ∙ sym is))),
    )

-- so the set may be written on by the new table
pub marked_writes_on : Spellings → (devices : ℕ) (base old_table new_table : Table) (lost : Option Lost) (X : List (List Bytes)) (slot : ℕ) (mid new : History)
    → HasFailedOnce devices base old_table lost X slot mid → MarkedOn devices base old_table new_table lost X slot mid new → slots_of old_table ≡ slots_of base
    → IfSome lost (λ one. one.slot ≡ slot) → WritesFrom devices base new_table lost X new
marked_writes_on spellings devices base old_table new_table lost X slot mid new failure marked same own =
    marked.from (single_failure_stays (slots_of base) lost mid new marked.down
    (failed_is_single_failure spellings devices base old_table lost X slot mid failure same marked.others_in_sync own))
