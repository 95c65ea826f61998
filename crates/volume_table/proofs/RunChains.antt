-- Events done one after another: one more at their end, and how a run of them ends.
use Rattle.std.proofs.Common.{◌≡◌, ◌≢◌, ℕ, ◌+◌, ◌<◌, List, [], ◌∷◌, ◌++◌, length, map, take, drop, get_or, Err, refl, sym, ap, subst, ◌∙◌}
use Rattle.std.proofs.lemmas.List.{append_assoc, append-nil, drop_more, map-append, take-append-drop}
use Rattle.sector_model.specs.declared.refusal.Refusal.{Refusal}
use Rattle.sector_model.specs.declared.refusal.Refusal.TheVariants.{Memory, TwoLost, Worn}
use Rattle.array_io.specs.Believed.Views.{EndsIt}
use Rattle.volume_table.specs.VolumeStep.{Event, Refused, Reply}
use Rattle.volume_table.specs.Events.{EndsWithoutAck, IsAcknowledged}
use Rattle.volume_table.specs.Stands.{StoreView}
use Rattle.volume_table.specs.StoreCalls.{Applies, EndsStore, GoesThrough}
use Rattle.volume_table.specs.StoreFunctions.{Answer, Chain, DoesAll, EndsAtEvent, RunEnds, none_done, then_done}

-- a bank that is honest before a call is so in it
pub applies_for : (honest other : Type 0) (event : Event) (old new : StoreView) (reply : Reply) → (other → honest) → Applies honest event old new reply
    → Applies other event old new reply
applies_for honest other event old new reply so applies = record { ended = applies.ended; going = λ goes. of_through (applies.going goes) }
  where
    of_through : GoesThrough honest event old new reply → GoesThrough other event old new reply
    of_through through = record {
      goes_on = through.goes_on;
      generation = through.generation;
      incarnations = through.incarnations;
      spared = through.spared;
      set_left = λ on.
          let left = through.set_left on in
          record {
            devices = left.devices;
            are = record {
              failed = λ fair. left.are.failed (so fair);
              is_down = left.are.is_down;
              unusable = left.are.unusable;
              format = left.are.format;
              rows = left.are.rows;
              unsound = λ fair. left.are.unsound (so fair);
            };
            left = left.left;
          };
      ends = through.ends;
      goes = through.goes;
      listed = through.listed;
      scrubs = λ fair. through.scrubs (so fair);
      moments = λ fair. through.moments (so fair);
      answered = λ fair. through.answered (so fair);
      settled = λ fair. through.settled (so fair);
    }

-- one event more at the end
chain_one_more : (honest : Type 0) (events : List Event) (event : Event) (acks : List ℕ) (old mid new : StoreView) (reply : Reply)
    → Chain honest events acks old mid
    → Applies honest event mid new reply → ¬ EndsStore reply → Chain honest (events ++ event ∷ []) (acks ++ new.array.panel.calls ∷ []) old new
chain_one_more honest [] event [] old mid new reply none_done applies on = then_done new event reply new.array.panel.calls applies on refl none_done
chain_one_more honest [] event (_ ∷ acks) old mid new reply chain applies on = elim chain [ ]
chain_one_more honest (_ ∷ events) event [] old mid new reply chain applies on = elim chain [ ]
chain_one_more honest (_ ∷ events) event (_ ∷ acks) old mid new reply (then_done next first said ack done goes counted chain) applies on =
    then_done next first said ack done goes counted (chain_one_more honest events event acks next mid new reply chain applies on)

-- before the first event
pub done_none : (honest : Type 0) (store : StoreView) (before after : List ℕ) → after ≡ before → DoesAll honest [] store store before after
done_none honest store before after same = record { acks = []; chain = none_done; acknowledged = same ∙ sym (append-nil before) }

pub done_one_more : (honest then : Type 0) (events : List Event) (event : Event) (old mid new : StoreView) (before there after : List ℕ) → (honest → then)
    → DoesAll honest events old mid before there → IsAcknowledged then event mid new there after → DoesAll honest (events ++ event ∷ []) old new before after
done_one_more honest then events event old mid new before there after so done one = record {
  acks = done.acks ++ new.array.panel.calls ∷ [];
  chain = chain_one_more honest events event done.acks old mid new one.reply done.chain (applies_for then honest event mid new one.reply so one.applies)
      one.goes_on;
  acknowledged = one.acknowledged ∙ ap (λ (acks : List ℕ). acks ++ new.array.panel.calls ∷ []) done.acknowledged
      ∙ append_assoc before done.acks (new.array.panel.calls ∷ []);
}

-- events, one of them, and those after it
pub parts_at : {A : Type 0} (of : A → Event) (events : List A) (i : ℕ) (d : A) → i < length events
    → map of events ≡ map of (take i events) ++ of (get_or events i d) ∷ map of (drop (i + 1) events)
parts_at of events i d within =
    ap (map of) (sym (take-append-drop i events)) ∙ map-append of (take i events) (drop i events)
    ∙ ap (λ rest. map of (take i events) ++ map of rest) (drop_more events i d within)

-- with the event that ended the store
pub run_ends : (honest then : Type 0) (events done undone : List Event) (event : Event) (old mid new : StoreView) (before there after : List ℕ)
    (refusal : Refusal) → (honest → then)
    → events ≡ done ++ event ∷ undone → DoesAll honest done old mid before there → EndsWithoutAck then event mid new there after refusal
    → RunEnds honest events old new before after (Err refusal)
run_ends honest then events done undone event old mid new before there after refusal so parts those one = by_refusal refusal one.ends record {
  done = done;
  event = event;
  undone = undone;
  parts = parts;
  mid = mid;
  acks = those.acks;
  chain = those.chain;
  acknowledged = one.none_acknowledged ∙ those.acknowledged;
  applies = applies_for then honest event mid new (Refused refusal) so one.applies;
  ends = one.ends;
}
  where
    by_refusal : (refusal : Refusal) → EndsIt refusal → EndsAtEvent honest events old new before after refusal
        → RunEnds honest events old new before after (Err refusal)
    by_refusal TwoLost ends at = at
    by_refusal Worn ends at = at
    by_refusal refusal ends at = absurd ends

-- what ends a store is no want of memory
pub ended_not_memory : (refusal : Refusal) → EndsIt refusal → (result : Answer) → result ≡ Err refusal → result ≢ Err Memory
ended_not_memory refusal ends result first second = let is : refusal ≡ Memory = cc in subst EndsIt is ends
