use Rattle.std.proofs.Common.{◌≡◌, ℕ, ◌<◌, ◌≤◌, List, length, refl, sym, ◌∙◌, ap, subst, arith}
use Rattle.std.specs.Vec.{with_items}
use Rattle.std.specs.Prelude.{Vec}
use Rattle.entry_runs.specs.Built.{runs_in}
use Rattle.entry_runs.specs.WrittenOut.{masks_of_runs, rows_of_runs}
use Rattle.batch.specs.declared.batch.Batch.{Batch}
use Rattle.std.proofs.lemmas.List.{with_items_is}
use Rattle.batch.specs.declared.placed.Placed.{Placed}
use Rattle.batch.specs.Listed.{places_in}
use Rattle.batch.specs.Batches.{waiting}
use Rattle.batch.specs.Places.{ArePlanned, Given}
use Rattle.batch.specs.Staging.{IsFull, NoneFits, AreAdded, AreHeld, ArePut, IsStaged, KeepsPlaces, first_of, most_of, sector_at}
use Rattle.batch.proofs.Kept.{held_of, keeps_places, keeps_plan, most_below, same_first, still_keeps}
use Rattle.entry_runs.specs.Runs.{FitEntry}
use Rattle.entry_runs.specs.declared.run.Run.{Run}
use Rattle.batch.proofs.Refusals.{planned_there, too_many}
use Rattle.batch.proofs.Staged.{all_staged, held_same, held_taken}
use Rattle.batch.proofs.batch.Batch.stage.Goals as goal

pub place_all-requires-clause-held : goal.place_all-requires-clause-held
place_all-requires-clause-held c =
    let batch = c.args.self.now in
    let held = held_of batch.geometry batch.sectors.items (places_in batch.places) batch.places.rising batch.held in
    subst (λ (places : List Placed). AreHeld batch.geometry c.deref_mut.result.now places) (sym c.copy-places.ensures)
    (subst (λ (all : Given). AreHeld batch.geometry all (places_in batch.places)) (sym c.deref_mut.ensures.value) held)

-- a vector that is written over has what was written
over : {Z : Type 0} (v : Vec (ℕ × List ℕ) Z) (put : Given) → length put ≡ length v.items → (with_items v put).items ≡ put
over v put long = with_items_is v put (omega (arith, long, v.ok.0))

-- sectors that are as they were where one waits
kept_there : (batch : Batch) (copy : List Placed) (lent put : Given) → copy ≡ places_in batch.places → lent ≡ batch.sectors.items
    → ((k : ℕ) → k < length copy → sector_at put k ≡ sector_at lent k)
    → (k : ℕ) → k < length (places_in batch.places) → sector_at put k ≡ sector_at batch.sectors.items k
kept_there batch copy lent put same is kept =
    subst (λ (places : List Placed). (k : ℕ) → k < length places → sector_at put k ≡ sector_at batch.sectors.items k) same
    (subst (λ (all : Given). (k : ℕ) → k < length copy → sector_at put k ≡ sector_at all k) is kept)

keeps_all : (batch : Batch) (put : Given) → length put ≡ length batch.sectors.items
    → ((k : ℕ) → k < length (places_in batch.places) → sector_at put k ≡ sector_at batch.sectors.items k)
    → KeepsPlaces batch.geometry (with_items batch.sectors put).items (places_in batch.places)
keeps_all batch put long kept =
    subst (λ (all : Given). KeepsPlaces batch.geometry all (places_in batch.places)) (sym (over batch.sectors put long))
    (still_keeps batch.geometry batch.sectors.items put (places_in batch.places) batch.places.rising long kept batch.held)

same_wait : (batch : Batch) (put : Given) → length put ≡ length batch.sectors.items
    → ((k : ℕ) → k < length (places_in batch.places) → sector_at put k ≡ sector_at batch.sectors.items k)
    → first_of (places_in batch.places) (with_items batch.sectors put).items ≡ waiting batch
same_wait batch put long kept =
    ap (first_of (places_in batch.places)) (over batch.sectors put long)
    ∙ same_first batch.sectors.items put (places_in batch.places) long
    (omega (arith, batch.held.as_many, batch.held.long, most_below batch.geometry.format)) kept

pub invariant_of-self : goal.invariant_of-self
invariant_of-self c =
    let batch = c.args.self.now in
    record {
      held = keeps_all batch c.place_all.new.all (omega (arith, c.place_all.auto.all, ap length c.deref_mut.ensures.value))
          (kept_there batch (places_in c.copy-places.result) c.deref_mut.result.now c.place_all.new.all c.copy-places.ensures c.deref_mut.ensures.value
          c.place_all.ensures.kept);
      planned = batch.planned;
    }

pub returns-then-not-place_all-clause-kept : goal.returns-then-not-place_all-clause-kept
returns-then-not-place_all-clause-kept c = λ no.
    let batch = c.args.self.now in
    same_wait batch c.place_all.new.all (omega (arith, c.place_all.auto.all, ap length c.deref_mut.ensures.value))
    (kept_there batch (places_in c.copy-places.result) c.deref_mut.result.now c.place_all.new.all c.copy-places.ensures c.deref_mut.ensures.value
    c.place_all.ensures.kept)

pub invariant_of-self-then-not-plan_rows : goal.invariant_of-self-then-not-plan_rows
invariant_of-self-then-not-plan_rows c =
    let batch = c.args.self.now in
    record {
      held = keeps_all batch c.place_all.new.all (omega (arith, c.place_all.auto.all, ap length c.deref_mut.ensures.value))
          (kept_there batch (places_in c.copy-places.result) c.deref_mut.result.now c.place_all.new.all c.copy-places.ensures c.deref_mut.ensures.value
          c.place_all.ensures.kept);
      planned = batch.planned;
    }

pub returns-then-not-plan_rows-clause-kept : goal.returns-then-not-plan_rows-clause-kept
returns-then-not-plan_rows-clause-kept c = λ no.
    let batch = c.args.self.now in
    same_wait batch c.place_all.new.all (omega (arith, c.place_all.auto.all, ap length c.deref_mut.ensures.value))
    (kept_there batch (places_in c.copy-places.result) c.deref_mut.result.now c.place_all.new.all c.copy-places.ensures c.deref_mut.ensures.value
    c.place_all.ensures.kept)

-- what staging comes to

-- sectors are added, and then their data is put there
record IsDone (batch : Batch) (given mid new : Given) (more : List Placed) : Type 0 where
  added : AreAdded batch.geometry (most_of batch.geometry.format) given (length given) batch.sectors.items mid (places_in batch.places) more
  put : ArePut given (length given) (length more) mid new
  mid_long : length mid ≡ length batch.sectors.items
  long : length new ≡ length mid

held_now : (batch : Batch) → AreHeld batch.geometry batch.sectors.items (places_in batch.places)
held_now batch = held_of batch.geometry batch.sectors.items (places_in batch.places) batch.places.rising batch.held

done : (batch : Batch) (copy : List Placed) (lent given mid over_mid new : Given) (limit : ℕ) (more : List Placed) → copy ≡ places_in batch.places
    → lent ≡ batch.sectors.items → limit ≡ most_of batch.geometry.format → over_mid ≡ (with_items batch.sectors mid).items
    → AreAdded batch.geometry limit given (length given) lent mid copy more → ArePut given (length given) (length more) over_mid new
    → length mid ≡ length lent → length new ≡ length over_mid → IsDone batch given mid new more
done batch copy lent given mid over_mid new limit more same is most_is mid_is added put mid_long long =
    let whole : length mid ≡ length batch.sectors.items = mid_long ∙ ap length is in
    let back : over_mid ≡ mid = mid_is ∙ over batch.sectors mid whole in
    record {
      added = subst
          (λ (places : List Placed). AreAdded batch.geometry (most_of batch.geometry.format) given (length given) batch.sectors.items mid places more) same
          (subst (λ (all : Given). AreAdded batch.geometry (most_of batch.geometry.format) given (length given) all mid copy more) is
          (subst (λ (n : ℕ). AreAdded batch.geometry n given (length given) lent mid copy more) most_is added));
      put = subst (λ (all : Given). ArePut given (length given) (length more) all new) back put;
      mid_long = whole;
      long = long ∙ ap length back;
    }

written : (batch : Batch) (given mid new : Given) (more : List Placed) → IsDone batch given mid new more
    → (with_items (with_items batch.sectors mid) new).items ≡ new
written batch given mid new more is =
    over (with_items batch.sectors mid) new (is.long ∙ sym (ap length (over batch.sectors mid is.mid_long)))

done_keeps : (batch : Batch) (given mid new : Given) (more : List Placed) → IsDone batch given mid new more
    → KeepsPlaces batch.geometry (with_items (with_items batch.sectors mid) new).items more
done_keeps batch given mid new more is =
    subst (λ (all : Given). KeepsPlaces batch.geometry all more) (sym (written batch given mid new more is))
    (keeps_places batch.geometry new more (is.long ∙ is.mid_long ∙ batch.held.long) (is.added.within batch.held.as_many)
    (held_same batch.geometry mid new more is.added.held is.long is.put.same))

done_staged : (batch : Batch) (given mid new : Given) (more : List Placed) → IsDone batch given mid new more
    → IsStaged (waiting batch) given (first_of more (with_items (with_items batch.sectors mid) new).items)
done_staged batch given mid new more is =
    subst (λ (all : Given). IsStaged (waiting batch) given (first_of more all)) (sym (written batch given mid new more is))
    (all_staged batch.geometry (most_of batch.geometry.format) given batch.sectors.items mid new (places_in batch.places) more (held_now batch) is.added is.long
    is.put)

done_long : (batch : Batch) (given mid new : Given) (more : List Placed) → IsDone batch given mid new more
    → length (first_of more (with_items (with_items batch.sectors mid) new).items) ≤ most_of batch.geometry.format
done_long batch given mid new more is =
    let held = held_of batch.geometry (with_items (with_items batch.sectors mid) new).items more is.added.held.placed.rising
    (done_keeps batch given mid new more is) in
    omega (arith, held_taken batch.geometry (with_items (with_items batch.sectors mid) new).items more held, is.added.within batch.held.as_many)

pub invariant_of-self-2 : goal.invariant_of-self-2
invariant_of-self-2 c =
    let batch = c.args.self.now in
    let more = places_in c.place_all.new.places in
    let is = done batch (places_in c.copy-places.result) c.deref_mut.result.now c.args.sectors.now c.place_all.new.all c.deref_mut-2.result.now
    c.put_all.new.all c.most_places-most.result more c.copy-places.ensures c.deref_mut.ensures.value c.most_places-most.ensures c.deref_mut-2.ensures.value
    (c.if-not-place_all.ensures.added refl) c.put_all.ensures c.place_all.auto.all c.put_all.auto.all in
    record {
      held = done_keeps batch c.args.sectors.now c.place_all.new.all c.put_all.new.all more is;
      planned = keeps_plan batch.geometry more (rows_of_runs (runs_in c.plan_rows.new.runs)) (masks_of_runs (runs_in c.plan_rows.new.runs))
          (subst (λ (places : List Placed). ArePlanned batch.geometry places (rows_of_runs (runs_in c.plan_rows.new.runs))
          (masks_of_runs (runs_in c.plan_rows.new.runs))) c.as_slice.ensures (c.if-not-plan_rows.ensures.planned refl));
    }

pub returns-clause-staged : goal.returns-clause-staged
returns-clause-staged c = λ yes.
    let batch = c.args.self.now in
    let more = places_in c.place_all.new.places in
    let is = done batch (places_in c.copy-places.result) c.deref_mut.result.now c.args.sectors.now c.place_all.new.all c.deref_mut-2.result.now
    c.put_all.new.all c.most_places-most.result more c.copy-places.ensures c.deref_mut.ensures.value c.most_places-most.ensures c.deref_mut-2.ensures.value
    (c.if-not-place_all.ensures.added refl) c.put_all.ensures c.place_all.auto.all c.put_all.auto.all in
    done_staged batch c.args.sectors.now c.place_all.new.all c.put_all.new.all more is

pub returns-clause-most : goal.returns-clause-most
returns-clause-most c = λ yes.
    let batch = c.args.self.now in
    let more = places_in c.place_all.new.places in
    let is = done batch (places_in c.copy-places.result) c.deref_mut.result.now c.args.sectors.now c.place_all.new.all c.deref_mut-2.result.now
    c.put_all.new.all c.most_places-most.result more c.copy-places.ensures c.deref_mut.ensures.value c.most_places-most.ensures c.deref_mut-2.ensures.value
    (c.if-not-place_all.ensures.added refl) c.put_all.ensures c.place_all.auto.all c.put_all.auto.all in
    done_long batch c.args.sectors.now c.place_all.new.all c.put_all.new.all more is

-- where there is no room, none fits
full_refused : (batch : Batch) (copy : List Placed) (lent given : Given) (limit : ℕ) → copy ≡ places_in batch.places → lent ≡ batch.sectors.items
    → limit ≡ most_of batch.geometry.format → IsFull batch.geometry limit given lent copy → NoneFits batch.geometry (waiting batch) given
full_refused batch copy lent given limit same is most_is full =
    let here : IsFull batch.geometry limit given batch.sectors.items (places_in batch.places) =
    subst (λ (places : List Placed). IsFull batch.geometry limit given batch.sectors.items places) same
    (subst (λ (all : Given). IsFull batch.geometry limit given all copy) is full) in
    λ new places fit staged few placed fits planned.
    too_many batch.geometry limit given here.count batch.sectors.items here.mid (places_in batch.places) here.more (held_now batch) here.added
    (omega (arith, here.inside)) new places staged placed here.inside here.full here.none (omega (arith, few, most_is))

-- where no runs have the rows, none fits
unplanned_refused : (batch : Batch) (copy : List Placed) (lent given mid : Given) (limit : ℕ) (more slice : List Placed) → copy ≡ places_in batch.places
    → lent ≡ batch.sectors.items → slice ≡ more → AreAdded batch.geometry limit given (length given) lent mid copy more
    → ((fit : List Run) → FitEntry fit → ¬ ArePlanned batch.geometry slice (rows_of_runs fit) (masks_of_runs fit))
    → NoneFits batch.geometry (waiting batch) given
unplanned_refused batch copy lent given mid limit more slice same is lent_is added none =
    let here : AreAdded batch.geometry limit given (length given) batch.sectors.items mid (places_in batch.places) more =
    subst (λ (places : List Placed). AreAdded batch.geometry limit given (length given) batch.sectors.items mid places more) same
    (subst (λ (all : Given). AreAdded batch.geometry limit given (length given) all mid copy more) is added) in
    λ new places fit staged few placed fits planned.
    none fit fits (subst (λ (list : List Placed). ArePlanned batch.geometry list (rows_of_runs fit) (masks_of_runs fit)) (sym lent_is)
    (planned_there batch.geometry limit given (length given) batch.sectors.items mid (places_in batch.places) more (held_now batch) here
    (omega arith) new places staged placed refl (rows_of_runs fit) (masks_of_runs fit) planned))

pub returns-then-not-place_all-clause-none : goal.returns-then-not-place_all-clause-none
returns-then-not-place_all-clause-none c = λ no.
    full_refused c.args.self.now (places_in c.copy-places.result) c.deref_mut.result.now c.args.sectors.now c.most_places-most.result
    c.copy-places.ensures c.deref_mut.ensures.value c.most_places-most.ensures (c.if-not-place_all.ensures.full refl)

pub returns-then-not-plan_rows-clause-none : goal.returns-then-not-plan_rows-clause-none
returns-then-not-plan_rows-clause-none c = λ no.
    unplanned_refused c.args.self.now (places_in c.copy-places.result) c.deref_mut.result.now c.args.sectors.now c.place_all.new.all
    c.most_places-most.result (places_in c.place_all.new.places) c.as_slice.result.now c.copy-places.ensures c.deref_mut.ensures.value c.as_slice.ensures
    (c.if-not-place_all.ensures.added refl) (c.if-not-plan_rows.ensures.none refl)
