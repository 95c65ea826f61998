-- What a store may be refused with, why, and what a refusal leaves. `honest` is whether its bank is, of which nothing need be known.
use Rattle.std.specs.Prelude.{◌≡◌, ◌≢◌, ◌⊎◌, ℕ, ◌<◌, true, List, [], ◌∷◌, length, replicate, Contains, Option, Some, None, Result, Err}
use Rattle.sector_model.specs.declared.refusal.Refusal.{Refusal}
use Rattle.sector_model.specs.declared.refusal.Refusal.TheVariants.{BadTable, Incomplete, Memory, NotMissing, NothingToRebuild, NotUsable, WouldLose}
use Rattle.superblock.specs.declared.state.State.TheVariants.{InSync}
use Rattle.superblock.specs.Cases.{Lost}
use Rattle.superblock.specs.NextTables.{slots_of}
use Rattle.superblock.specs.Tables.{state_at}
use Rattle.array_io.specs.Believed.Views.{ArrayView, EndsIt, IsEndOf}
use Rattle.rebuild.specs.Rebuilding.{IsNotMissing, IsRebuilding, IsUnusable}
use Rattle.recovery.specs.Making.{BankView}
use Rattle.volume_table.specs.Volumes.{VolumeMap}
use Rattle.volume_table.specs.VolumeStep.{Event, Fail, OnSet, OnVolumes, RebuildStep, Refused, Replace, Reply, Scrub, ScrubRows, SetCommand}
use Rattle.volume_table.specs.SetReplies.{set_refusal}
use Rattle.volume_table.specs.Stands.{IsSettledAfter, IsSettledOn, StoreView}
use Rattle.volume_table.specs.StoreCalls.{Applies, IsCounterFull, no_devices, refusals_of, set_of}
use Rattle.volume_table.specs.StoreFunctions.{Answer, DoesNothing, EndsAtEvent, RunsEvents, StatusView, TellsStatus}
use Rattle.volume_table.specs.Opening.{Opens, Outcome, Returned, WasGivenUp}

-- a slot of the set was not in sync, or its device is down
pub record IsOutOrDown (old new : ArrayView) : Type 0 where
  pub slot : ℕ
  pub of_set : slot < slots_of old.table
  pub out : (state_at old.table.states slot ≢ InSync) ⊎ (new.panel.down slot ≡ true)

-- Why a command on the set was refused, beside 15 and 16. That a device was of no use, or went down, is said by the bank.
abbrev pub IsSetRefused : SetCommand → (old new : ArrayView) → Refusal → Type 0
IsSetRefused (Fail slot) old new WouldLose = set_refusal no_devices (Fail slot) (set_of old.table) ≡ Some WouldLose
IsSetRefused (Fail slot) old new NotMissing = set_refusal no_devices (Fail slot) (set_of old.table) ≡ Some NotMissing
IsSetRefused (Replace slot) old new NotMissing = IsNotMissing old.table slot
IsSetRefused (Replace slot) old new NotUsable = IsUnusable old slot ⊎ (new.panel.down slot ≡ true)
IsSetRefused (RebuildStep rows) old new NothingToRebuild = (member : ℕ) → IsRebuilding old.table member → new.panel.down member ≡ true
IsSetRefused Scrub old new Incomplete = IsOutOrDown old new
IsSetRefused (ScrubRows first rows) old new Incomplete = IsOutOrDown old new
IsSetRefused command old new refusal = ⊥

-- a refusal of the event's own
abbrev pub IsOwnRefusal : Event → (old new : ArrayView) → Refusal → Type 0
IsOwnRefusal (OnVolumes command) old new refusal = Contains (refusals_of command) refusal
IsOwnRefusal (OnSet command) old new refusal = IsSetRefused command old new refusal

-- why an event of an open store was refused: 15 where two slots are lost, 16 where a counter stands at 2^62, or for a reason of its own
abbrev pub IsRefusedFor : Event → (old new : ArrayView) → Refusal → Type 0
IsRefusedFor event old new refusal = IsEndOf old new (IsCounterFull event old new) refusal ⊎ IsOwnRefusal event old new refusal

-- An event of an open store is refused for one of these reasons, and with no other number.
abbrev pub EventsAreRefusedForCause : Type 0 → Type 0
EventsAreRefusedForCause honest = (event : Event) (old new : StoreView) (reply : Reply) (refusal : Refusal)
    → old.ended ≡ None → Applies honest event old new reply → reply ≡ Refused refusal → IsRefusedFor event old.array new.array refusal

-- A run is refused for want of memory, with nothing done, or at an event that was answered with 15 or 16.
abbrev pub RunsAreRefusedForCause : Type 0 → Type 0
RunsAreRefusedForCause honest = (events : List Event) (old new : StoreView) (acks_before acks_after : List ℕ) (result : Answer) (refusal : Refusal)
    → old.ended ≡ None → RunsEvents honest events old new acks_before acks_after result → result ≡ Err refusal
    → ((refusal ≡ Memory) × DoesNothing old new acks_before acks_after) ⊎ EndsAtEvent honest events old new acks_before acks_after refusal

-- Opening is refused with 18, or with 15 or 16 for its cause.
abbrev pub OpeningIsRefusedForCause : Type 0 → Type 0
OpeningIsRefusedForCause honest = (old : ArrayView) (outcome : Outcome) (bank : BankView) (refusal : Refusal)
    → Opens honest old outcome → outcome ≡ Returned bank refusal → (refusal ≡ BadTable) ⊎ WasGivenUp honest old bank refusal

-- A refusal but 15 and 16 leaves the store of an honest bank settled on the volumes that it was settled on, with nothing lost that was not.
abbrev pub RefusalsLeaveVolumes : Type 0
RefusalsLeaveVolumes = (event : Event) (old new : StoreView) (reply : Reply) (refusal : Refusal)
    → Applies (Unit {0}) event old new reply → reply ≡ Refused refusal → ¬ EndsIt refusal
    → (lost : Option Lost) (volumes : VolumeMap) → IsSettledOn old lost volumes → IsSettledAfter lost new volumes

-- events of a store, one after another, and what each was answered
pub data Asks (honest : Type 0) : List Event → List Reply → (old new : StoreView) → Type 0 where
  none_asked : {store : StoreView} → Asks honest [] [] store store
  then_asked : {old new : StoreView} {events : List Event} {replies : List Reply} (mid : StoreView) (event : Event) (reply : Reply)
      → Applies honest event old mid reply → Asks honest events replies mid new → Asks honest (event ∷ events) (reply ∷ replies) old new

-- A store answers this refusal to every later call, whatever it is, and stays as it is: no device call is made.
pub record AnswersAlways (honest : Type 0) (store : StoreView) (refusal : Refusal) : Type 0 where
  pub events : (events : List Event) (replies : List Reply) (new : StoreView) → Asks honest events replies store new
      → (replies ≡ replicate (length events) (Refused refusal)) × (new ≡ store)
  pub runs : (events : List Event) (new : StoreView) (acks_before acks_after : List ℕ) (result : Answer)
      → RunsEvents honest events store new acks_before acks_after result
      → (result ≡ Err refusal) × DoesNothing store new acks_before acks_after
  pub status : (result : Result StatusView Refusal) → TellsStatus store result → result ≡ Err refusal

-- So does one that was answered with 15 or 16.
abbrev pub EndedStoresAnswerAlways : Type 0 → Type 0
EndedStoresAnswerAlways honest = (event : Event) (old new : StoreView) (reply : Reply) (refusal : Refusal)
    → old.ended ≡ None → Applies honest event old new reply → reply ≡ Refused refusal → EndsIt refusal → AnswersAlways honest new refusal

-- An open store stays open unless one of its replies is 15 or 16: nothing else ends it.
abbrev pub OpenStoresGoOn : Type 0 → Type 0
OpenStoresGoOn honest = (events : List Event) (replies : List Reply) (old new : StoreView) → old.ended ≡ None → Asks honest events replies old new
    → (refusal : Refusal) → new.ended ≡ Some refusal → EndsIt refusal × Contains replies (Refused refusal)
