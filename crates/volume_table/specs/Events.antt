-- Which event of the definitions an event of a store is, which reply a reply, and how an event is acknowledged.
use Rattle.std.specs.Prelude.{◌≡◌, ℕ, List, [], ◌∷◌, ◌++◌, Ok, Err}
use Rattle.sector_model.specs.declared.refusal.Refusal.{Refusal}
use Rattle.array_io.specs.Believed.Views.{EndsIt}
use Rattle.rebuild.specs.Stepping.{progress_by}
use Rattle.volume_table.specs.declared.event.Event as asked
use Rattle.volume_table.specs.declared.event.Event.TheVariants as asking
use Rattle.volume_table.specs.declared.event.Reply as answered
use Rattle.volume_table.specs.declared.event.Reply.TheVariants as answering
use Rattle.volume_table.specs.Listing.{told}
use Rattle.volume_table.specs.Stands.{StoreView}
use Rattle.volume_table.specs.StoreCalls.{Applies, EndsStore}
use Rattle.volume_table.specs.StoreFunctions.{Answer}
use Rattle.volume_table.specs.VolumeStep.{Blocks, Create, Done, Event, Extend, Fail, Names, OnSet, OnVolumes, Progressed, Read, RebuildStep, Refused, Remove}
use Rattle.volume_table.specs.VolumeStep.{Rename, Replace, Reply, Scrub, ScrubRows, Scrubbed, Upgrade, Volumes, Write}

-- what a store is asked
abbrev pub event_of : asked.Event → Event
event_of (asking.Create name blocks) = OnVolumes (Create name.now blocks)
event_of (asking.Extend name by) = OnVolumes (Extend name.now by)
event_of (asking.Remove name) = OnVolumes (Remove name.now)
event_of (asking.Read name at count) = OnVolumes (Read name.now at count)
event_of (asking.Write name at blocks) = OnVolumes (Write name.now at blocks.now)
event_of (asking.Rename old new) = OnVolumes (Rename old.now new.now)
event_of asking.List = OnVolumes Names
event_of asking.Upgrade = OnVolumes Upgrade
event_of (asking.Fail slot) = OnSet (Fail slot)
event_of (asking.Replace slot) = OnSet (Replace slot)
event_of (asking.RebuildStep rows) = OnSet (RebuildStep rows)
event_of asking.Scrub = OnSet Scrub
event_of (asking.ScrubRows first rows) = OnSet (ScrubRows first rows)

-- what it answers
abbrev pub reply_of : answered.Reply → Reply
reply_of answering.Done = Done
reply_of (answering.Blocks blocks) = Blocks blocks.items
reply_of (answering.Volumes volumes) = Volumes (told volumes.items)
reply_of (answering.Progress progress) = Progressed (progress_by progress)
reply_of (answering.Scrubbed report) = Scrubbed report.rows report.bad report.first_bad
reply_of (answering.Refused refusal) = Refused refusal

-- an event that is done, and leaves the store open, gets its ack after those that were there
pub record IsAcknowledged (honest : Type 0) (event : Event) (old new : StoreView) (acks_before acks_after : List ℕ) : Type 0 where
  pub reply : Reply
  pub applies : Applies honest event old new reply
  pub goes_on : ¬ EndsStore reply
  pub acknowledged : acks_after ≡ acks_before ++ new.array.panel.calls ∷ []

-- one that ends it gets none
pub record EndsWithoutAck (honest : Type 0) (event : Event) (old new : StoreView) (acks_before acks_after : List ℕ) (refusal : Refusal) : Type 0 where
  pub applies : Applies honest event old new (Refused refusal)
  pub ends : EndsIt refusal
  pub none_acknowledged : acks_after ≡ acks_before

abbrev pub Acknowledges : (honest : Type 0) (event : Event) (old new : StoreView) (acks_before acks_after : List ℕ) → Answer → Type 0
Acknowledges honest event old new acks_before acks_after (Ok done) = IsAcknowledged honest event old new acks_before acks_after
Acknowledges honest event old new acks_before acks_after (Err refusal) = EndsWithoutAck honest event old new acks_before acks_after refusal
