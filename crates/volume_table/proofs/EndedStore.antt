-- A store that a refusal ended, and whether an event has ended it.
use Rattle.std.proofs.Common.{◌≡◌, ◌⊎◌, inl, inr, ℕ, List, Some, None, Ok, Err, refl, sym, ap, subst, ◌∙◌}
use Rattle.std.proofs.lemmas.Option.{none-some, same_Some}
use Rattle.sector_model.specs.declared.refusal.Refusal.{Refusal}
use Rattle.sector_model.specs.declared.refusal.Refusal.TheVariants.{TwoLost, Worn}
use Rattle.array_io.specs.Believed.Views.{EndsIt}
use Rattle.volume_table.specs.VolumeStep.{Event, Refused, Reply}
use Rattle.volume_table.specs.Events.{EndsWithoutAck}
use Rattle.volume_table.specs.Stands.{StoreView}
use Rattle.volume_table.specs.StoreCalls.{Applies, EndsStore}
use Rattle.volume_table.specs.StoreFunctions.{Answer, RunsEvents, TellsStatus}

-- it answers that refusal, and nothing is changed
pub stays_ended : (honest : Type 0) (event : Event) (store : StoreView) (refusal : Refusal) → store.ended ≡ Some refusal
    → Applies honest event store store (Refused refusal)
stays_ended honest event store refusal is = record {
  ended = λ other said. record { same = refl; refused = λ third that. ap Refused (same_Some refusal third (sym is ∙ that)) };
  going = λ goes. absurd (none-some refusal (sym goes ∙ is));
}

-- nor does a run do anything then
pub run_stays_ended : (honest : Type 0) (events : List Event) (store : StoreView) (acks : List ℕ) (refusal : Refusal) → store.ended ≡ Some refusal
    → RunsEvents honest events store store acks acks (Err refusal)
run_stays_ended honest events store acks refusal is = record {
  ended = λ other said. record {
    refused = ap (λ (r : Refusal). Err r) (same_Some refusal other (sym is ∙ said));
    nothing =
        record { same = refl; none_acknowledged = refl };
  };
  going = λ goes. absurd (none-some refusal (sym goes ∙ is));
}

pub tells_ended : (store : StoreView) (refusal : Refusal) → store.ended ≡ Some refusal → TellsStatus store (Err refusal)
tells_ended store refusal is = record {
  ended = λ other said. ap (λ (r : Refusal). Err r) (same_Some refusal other (sym is ∙ said));
  going = λ goes. absurd (none-some refusal (sym goes ∙ is));
}

abbrev the_done : Answer
the_done = Ok tt

-- what was done was not refused
pub done_not_refused : (refusal : Refusal) → the_done ≡ Err refusal → ⊥
done_not_refused refusal is = cc

pub ends_or_not : (refusal : Refusal) → EndsIt refusal ⊎ ¬ EndsIt refusal
ends_or_not TwoLost = inl tt
ends_or_not Worn = inl tt
ends_or_not refusal = inr (λ no. no)

-- 15 and 16 alone do
pub ends_by_these : (refusal : Refusal) → EndsIt refusal → (refusal ≡ TwoLost) ⊎ (refusal ≡ Worn)
ends_by_these TwoLost ends = inl refl
ends_by_these Worn ends = inr refl
ends_by_these refusal ends = absurd ends

-- a store that is open after an event was not ended by it
pub not_ended : (honest : Type 0) (event : Event) (old new : StoreView) (reply : Reply) → Applies honest event old new reply → old.ended ≡ None
    → new.ended ≡ None → ¬ EndsStore reply
not_ended honest event old new (Refused refusal) applies goes on = λ ends. none-some refusal (sym on ∙ ((applies.going goes).ends refusal refl ends).0)
not_ended honest event old new reply applies goes on = λ no. no

-- one that is not was ended by what the event answered
pub was_ended : (honest : Type 0) (event : Event) (old new : StoreView) (acks : List ℕ) (refusal : Refusal) (reply : Reply) → Applies honest event old new reply
    → old.ended ≡ None
    → new.ended ≡ Some refusal → EndsWithoutAck honest event old new acks acks refusal
was_ended honest event old new acks refusal (Refused said) applies goes ended = elim (ends_or_not said) [
  | inl ends ↦
      let same : said ≡ refusal = same_Some said refusal (sym ((applies.going goes).ends said refl ends).0 ∙ ended) in
      record {
        applies = subst (λ (r : Refusal). Applies honest event old new (Refused r)) same applies;
        ends = subst EndsIt same ends;
        none_acknowledged = refl;
      }
  | inr on ↦ absurd (none-some refusal (sym ((applies.going goes).goes on) ∙ ended))
]
was_ended honest event old new acks refusal reply applies goes ended = absurd (none-some refusal (sym ((applies.going goes).goes (λ no. no)) ∙ ended))
