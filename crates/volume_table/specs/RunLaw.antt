-- What a run of events keeps of the volumes.
use Rattle.std.specs.Prelude.{◌≡◌, ℕ, List, [], ◌∷◌, ◌++◌, length, Option}
use Rattle.superblock.specs.Cases.{IsLostAfter, Lost}
use Rattle.volume_table.specs.Volumes.{VolumeMap}
use Rattle.volume_table.specs.VolumeStep.{Event, Reply, after, left_by}
use Rattle.volume_table.specs.Stands.{IsSettledOn, StandsThroughout, StoreView}
use Rattle.volume_table.specs.StoreCalls.{Applies, extents_for_store, lost_in}
use Rattle.volume_table.specs.StoreFunctions.{Chain, none_done, then_done}
use Rattle.extents.specs.declared.extent_layout.ExtentLayout.{ExtentLayout}

-- what is lost goes from event to event, by what the table then lacks
abbrev pub IsLostOver : {events : List Event} {acks : List ℕ} {old new : StoreView} → Chain (Unit {0}) events acks old new → (before after : Option Lost)
    → Type 0
IsLostOver none_done before after = after ≡ before
IsLostOver (then_done {old = old} mid event reply ack applies goes counted rest) before after =
    (next : Option Lost) × IsLostAfter (lost_in event old.array.table before) mid.array.table next × IsLostOver rest next after

-- a store is settled on the volumes after all events of a chain, with the slot lost that its table then lacks
pub record IsSettledAfterEvents {events : List Event} {acks : List ℕ} {old new : StoreView} (extents : ExtentLayout)
    (chain : Chain (Unit {0}) events acks old new)
    (first : Option Lost) (before : VolumeMap) : Type 0 where
  pub lost : Option Lost
  pub is_lost : IsLostOver chain first lost
  pub settled : IsSettledOn new lost (after extents events before (length events))

-- On an honest bank events that were done leave the store settled on the volumes after all of them, and each has one ack.
abbrev pub ChainKeepsVolumes : Type 0
ChainKeepsVolumes = (events : List Event) (acks : List ℕ) (old new : StoreView) → (chain : Chain (Unit {0}) events acks old new)
    → (lost : Option Lost) (volumes : VolumeMap) → IsSettledOn old lost volumes
    → (length acks ≡ length events) × IsSettledAfterEvents (extents_for_store old) chain lost volumes

-- each case that a crash in an event may leave stands for the volumes after the events before it, or for those after it too
abbrev pub StandsOneMore : ExtentLayout → List Event → Event → (old new : StoreView) → Option Lost → VolumeMap → Type 0
StandsOneMore extents done event old new lost before = StandsThroughout old.array.table old.array.panel.devices (lost_in event old.array.table lost)
    (after extents done before (length done) ∷ left_by extents event (after extents done before (length done)) ∷ [])
    old.array.history new.array.history

-- One of the events of a chain, with those before it and those after it: while it is done, each case that a crash may leave stands for the
-- volumes before it or for those after it.
pub record StandsInEvent (extents : ExtentLayout) (done : List Event) (event : Event) (undone : List Event) (acks : List ℕ) (old new : StoreView)
    (first : Option Lost)
    (before : VolumeMap) : Type 0 where
  pub mid : StoreView
  pub next : StoreView
  pub acks_before : List ℕ
  pub acks_after : List ℕ
  pub those_before : Chain (Unit {0}) done acks_before old mid
  pub those_after : Chain (Unit {0}) undone acks_after next new
  pub acknowledged : acks ≡ acks_before ++ next.array.panel.calls ∷ acks_after
  pub as_many : length acks_before ≡ length done
  pub there : IsSettledAfterEvents extents those_before first before
  pub stands : StandsOneMore extents done event mid next there.lost before

-- so it is for each of the events
abbrev pub EachEventStands : Type 0
EachEventStands = (done : List Event) (event : Event) (undone : List Event) (acks : List ℕ) (old new : StoreView)
    → Chain (Unit {0}) (done ++ event ∷ undone) acks old new → (lost : Option Lost) (volumes : VolumeMap) → IsSettledOn old lost volumes
    → StandsInEvent (extents_for_store old) done event undone acks old new lost volumes

-- and for one that ends the run, or in which the crash comes, after those that were done
abbrev pub LastEventStands : Type 0
LastEventStands = (done : List Event) (event : Event) (acks : List ℕ) (old mid new : StoreView) (reply : Reply) → (chain : Chain (Unit {0}) done acks old mid)
    → Applies (Unit {0}) event mid new reply → (lost : Option Lost) (volumes : VolumeMap) → IsSettledOn old lost volumes
    → (there : IsSettledAfterEvents (extents_for_store old) chain lost volumes) → StandsOneMore (extents_for_store old) done event mid new there.lost volumes
