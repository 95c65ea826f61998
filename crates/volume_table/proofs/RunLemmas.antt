-- What a run of events keeps of the volumes.
use Rattle.std.proofs.Common.{◌≡◌, ℕ, suc, List, [], ◌∷◌, ◌++◌, length, Option, None, refl, ap, subst, ◌∙◌}
use Rattle.superblock.specs.Cases.{Lost}
use Rattle.volume_table.specs.Volumes.{VolumeMap}
use Rattle.volume_table.specs.VolumeStep.{Event, Reply, after, left_by}
use Rattle.volume_table.specs.Stands.{IsSettledAfter, IsSettledOn, StandsThroughout, StoreView}
use Rattle.volume_table.specs.StoreCalls.{Applies, GoesThrough, extents_for_store, lost_in}
use Rattle.volume_table.specs.StoreFunctions.{Chain, none_done, then_done}
use Rattle.volume_table.specs.RunLaw.{IsSettledAfterEvents, StandsInEvent, StandsOneMore}
use Rattle.extents.specs.declared.extent_layout.ExtentLayout.{ExtentLayout}
use Rattle.extents.specs.SetExtents.{extents_in}

pub chain_keeps_volumes : (events : List Event) (acks : List ℕ) (old new : StoreView) → (chain : Chain (Unit {0}) events acks old new)
    → (lost : Option Lost) (volumes : VolumeMap) → IsSettledOn old lost volumes
    → (length acks ≡ length events) × IsSettledAfterEvents (extents_for_store old) chain lost volumes
chain_keeps_volumes [] [] old new none_done lost volumes rests = (refl, record { lost = lost; is_lost = refl; settled = rests })
chain_keeps_volumes [] (_ ∷ acks) old new chain lost volumes rests = elim chain [ ]
chain_keeps_volumes (_ ∷ events) [] old new chain lost volumes rests = elim chain [ ]
chain_keeps_volumes (_ ∷ events) (_ ∷ acks) old new (then_done mid event reply ack applies goes counted chain) lost volumes rests =
    let through : GoesThrough (Unit {0}) event old mid reply = applies.going rests.going in
    let left : IsSettledAfter (lost_in event old.array.table lost) mid (left_by (extents_for_store old) event volumes) =
    through.settled tt goes lost volumes rests in
    let later = chain_keeps_volumes events acks mid new chain left.lost (left_by (extents_for_store old) event volumes) left.settled in
    let same : extents_for_store mid ≡ extents_for_store old = ap extents_in through.goes_on.not_older.same_geometry in
    let rest = subst (λ (extents : ExtentLayout). IsSettledAfterEvents extents chain left.lost (left_by (extents_for_store old) event volumes)) same
    later.1 in (
      ap suc later.0,
      record { lost = rest.lost; is_lost = (left.lost, left.is_lost, rest.is_lost); settled = rest.settled },
    )

-- a set has as many extents after events
same_extents : (events : List Event) (acks : List ℕ) (old new : StoreView) → Chain (Unit {0}) events acks old new → old.ended ≡ None
    → extents_for_store new ≡ extents_for_store old
same_extents [] [] old new none_done goes_on = refl
same_extents [] (_ ∷ acks) old new chain goes_on = elim chain [ ]
same_extents (_ ∷ events) [] old new chain goes_on = elim chain [ ]
same_extents (_ ∷ events) (_ ∷ acks) old new (then_done mid event reply ack applies goes counted chain) goes_on =
    let through : GoesThrough (Unit {0}) event old mid reply = applies.going goes_on in
    same_extents events acks mid new chain (through.goes goes) ∙ ap extents_in through.goes_on.not_older.same_geometry

-- events, one of them, and those after it
record Split (done : List Event) (event : Event) (undone : List Event) (acks : List ℕ) (old new : StoreView) : Type 0 where
  mid : StoreView
  next : StoreView
  reply : Reply
  acks_before : List ℕ
  acks_after : List ℕ
  those_before : Chain (Unit {0}) done acks_before old mid
  applies : Applies (Unit {0}) event mid next reply
  those_after : Chain (Unit {0}) undone acks_after next new
  acknowledged : acks ≡ acks_before ++ next.array.panel.calls ∷ acks_after

split : (done : List Event) (event : Event) (undone : List Event) (acks : List ℕ) (old new : StoreView) → Chain (Unit {0}) (done ++ event ∷ undone) acks old new
    → Split done event undone acks old new
split [] event undone [] old new chain = elim chain [ ]
split [] _ undone (_ ∷ acks) old new (then_done mid event reply ack applies goes counted chain) = record {
  mid = old;
  next = mid;
  reply = reply;
  acks_before = [];
  acks_after = acks;
  those_before = none_done;
  applies = applies;
  those_after = chain;
  acknowledged = ap (λ n. n ∷ acks) counted;
}
split (_ ∷ done) event undone [] old new chain = elim chain [ ]
split (_ ∷ done) event undone (_ ∷ acks) old new (then_done mid first reply ack applies goes counted chain) =
    let later = split done event undone acks mid new chain in
    record {
      mid = later.mid;
      next = later.next;
      reply = later.reply;
      acks_before = ack ∷ later.acks_before;
      acks_after = later.acks_after;
      those_before = then_done mid first reply ack applies goes counted later.those_before;
      applies = later.applies;
      those_after = later.those_after;
      acknowledged = ap (λ others. ack ∷ others) later.acknowledged;
    }

pub last_event_stands : (done : List Event) (event : Event) (acks : List ℕ) (old mid new : StoreView) (reply : Reply)
    → (chain : Chain (Unit {0}) done acks old mid)
    → Applies (Unit {0}) event mid new reply → (lost : Option Lost) (volumes : VolumeMap) → IsSettledOn old lost volumes
    → (there : IsSettledAfterEvents (extents_for_store old) chain lost volumes) → StandsOneMore (extents_for_store old) done event mid new there.lost volumes
last_event_stands done event acks old mid new reply chain applies lost volumes rests there =
    let through : GoesThrough (Unit {0}) event mid new reply = applies.going there.settled.going in
    subst
    (λ (extents : ExtentLayout). StandsThroughout mid.array.table mid.array.panel.devices (lost_in event mid.array.table there.lost)
    (after (extents_for_store old) done volumes (length done) ∷ left_by extents event (after (extents_for_store old) done volumes (length done)) ∷ [])
    mid.array.history new.array.history)
    (same_extents done acks old mid chain rests.going)
    (through.moments tt there.lost (after (extents_for_store old) done volumes (length done)) there.settled)

pub each_event_stands : (done : List Event) (event : Event) (undone : List Event) (acks : List ℕ) (old new : StoreView)
    → Chain (Unit {0}) (done ++ event ∷ undone) acks old new → (lost : Option Lost) (volumes : VolumeMap) → IsSettledOn old lost volumes
    → StandsInEvent (extents_for_store old) done event undone acks old new lost volumes
each_event_stands done event undone acks old new chain lost volumes rests =
    let parts : Split done event undone acks old new = split done event undone acks old new chain in
    let kept = chain_keeps_volumes done parts.acks_before old parts.mid parts.those_before lost volumes rests in
    record {
      mid = parts.mid;
      next = parts.next;
      acks_before = parts.acks_before;
      acks_after = parts.acks_after;
      those_before = parts.those_before;
      those_after = parts.those_after;
      acknowledged = parts.acknowledged;
      as_many = kept.0;
      there = kept.1;
      stands = last_event_stands done event parts.acks_before old parts.mid parts.next parts.reply parts.those_before parts.applies lost volumes rests kept.1;
    }
