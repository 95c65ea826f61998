-- Small cases that meet what the calls of a store promise.
use Rattle.std.proofs.Common.{◌≡◌, ◌⊎◌, inl, inr, ℕ, ◌-◌, List, [], ◌∷◌, ◌++◌, length, Option, Some, None, Ok, Err, refl, sym, ap, subst, ◌∙◌}
use Rattle.std.proofs.lemmas.Option.{none-some}
use Rattle.sector_model.specs.declared.refusal.Refusal.{Refusal}
use Rattle.sector_model.specs.declared.refusal.Refusal.TheVariants.{BadName, BadSize, Exists, TooManyVolumes, NoSpace, NoVolume, BadCount, OutOfRange}
use Rattle.sector_model.specs.declared.refusal.Refusal.TheVariants.{WouldLose, NotMissing, NotUsable, NothingToRebuild, Incomplete, Memory, TwoLost, Worn}
use Rattle.sector_model.specs.declared.refusal.Refusal.TheVariants.{NoSet, BadTable, BadGeometry, BadLine, ReadFault, WriteFault}
use Rattle.array_io.specs.Believed.Holds.{row_count}
use Rattle.array_io.specs.Believed.Views.{EndsIt}
use Rattle.superblock.specs.Cases.{Lost}
use Rattle.extents.specs.declared.volume_table.VolumeTable.{VolumeTable}
use Rattle.volume_table.specs.Volumes.{Block, VolumeMap, need}
use Rattle.volume_table.specs.VolumeStep.{Blocks, Done, Event, Progressed, Refused, Reply, Scrubbed, Volumes}
use Rattle.volume_table.specs.Stands.{IsSettledOn, StoreView}
use Rattle.volume_table.specs.Shows.{records_need, used_records}
use Rattle.volume_table.specs.ShowsLaw.{TablesHaveOneSpelling}
use Rattle.volume_table.specs.StoreCalls.{Applies, EndsStore, extents_for_store}
use Rattle.volume_table.specs.StoreFunctions.{Answer, Chain, CreatesVolume, EndsAtEvent, ExtendsVolume, FailsSlot, ListsVolumes, ReadsBlocks, RebuildsRows}
use Rattle.volume_table.specs.StoreFunctions.{RemovesVolume, RenamesVolume, ReplacesDevice, RunsEvents, ScrubsRows}
use Rattle.volume_table.specs.StoreFunctions.{ScrubsSet, TellsStatus, UpgradesTable, WritesBlocks}
use Rattle.volume_table.specs.StoreFunctions.{none_done, then_done}
use Rattle.volume_table.proofs.CountLemmas.{records_are_counted}
use Rattle.volume_table.proofs.EndedStore.{run_stays_ended, stays_ended, tells_ended}
use Rattle.volume_table.proofs.StatusTold.{counts_told, status_by}

some_is_none : {A : Type 0} (refusal : Refusal) → Some refusal ≡ None → A
some_is_none refusal e = absurd (none-some refusal (sym e))

-- a store that a refusal ended answers it to each call, and stays
pub create_of_ended : (honest : Type 0) (name : List ℕ) (count : ℕ) (store : StoreView) (refusal : Refusal) → store.ended ≡ Some refusal
    → CreatesVolume honest name count store store (Err refusal)
create_of_ended honest name count store refusal kept = stays_ended honest _ store refusal kept

pub extend_of_ended : (honest : Type 0) (name : List ℕ) (growth : ℕ) (store : StoreView) (refusal : Refusal) → store.ended ≡ Some refusal
    → ExtendsVolume honest name growth store store (Err refusal)
extend_of_ended honest name growth store refusal kept = stays_ended honest _ store refusal kept

pub remove_of_ended : (honest : Type 0) (name : List ℕ) (store : StoreView) (refusal : Refusal) → store.ended ≡ Some refusal
    → RemovesVolume honest name store store (Err refusal)
remove_of_ended honest name store refusal kept = stays_ended honest _ store refusal kept

-- also where the read leaves something else in its places
pub read_of_ended : (honest : Type 0) (name : List ℕ) (at : ℕ) (to_before to_after : List Block) (store : StoreView) (refusal : Refusal)
    → store.ended ≡ Some refusal
    → ReadsBlocks honest name at to_before to_after store store (Err refusal)
read_of_ended honest name at to_before to_after store refusal kept = stays_ended honest _ store refusal kept

pub write_of_ended : (honest : Type 0) (name : List ℕ) (at : ℕ) (written : List Block) (store : StoreView) (refusal : Refusal) → store.ended ≡ Some refusal
    → WritesBlocks honest name at written store store (Err refusal)
write_of_ended honest name at written store refusal kept = stays_ended honest _ store refusal kept

pub rename_of_ended : (honest : Type 0) (name name_after : List ℕ) (store : StoreView) (refusal : Refusal) → store.ended ≡ Some refusal
    → RenamesVolume honest name name_after store store (Err refusal)
rename_of_ended honest name name_after store refusal kept = stays_ended honest _ store refusal kept

pub list_of_ended : (honest : Type 0) (store : StoreView) (refusal : Refusal) → store.ended ≡ Some refusal → ListsVolumes honest store store (Err refusal)
list_of_ended honest store refusal kept = stays_ended honest _ store refusal kept

pub upgrade_of_ended : (honest : Type 0) (store : StoreView) (refusal : Refusal) → store.ended ≡ Some refusal → UpgradesTable honest store store (Err refusal)
upgrade_of_ended honest store refusal kept = stays_ended honest _ store refusal kept

pub fail_of_ended : (honest : Type 0) (slot : ℕ) (store : StoreView) (refusal : Refusal) → store.ended ≡ Some refusal
    → FailsSlot honest slot store store (Err refusal)
fail_of_ended honest slot store refusal kept = stays_ended honest _ store refusal kept

pub replace_of_ended : (honest : Type 0) (slot : ℕ) (store : StoreView) (refusal : Refusal) → store.ended ≡ Some refusal
    → ReplacesDevice honest slot store store (Err refusal)
replace_of_ended honest slot store refusal kept = stays_ended honest _ store refusal kept

pub rebuild_of_ended : (honest : Type 0) (rows : ℕ) (store : StoreView) (refusal : Refusal) → store.ended ≡ Some refusal
    → RebuildsRows honest rows store store (Err refusal)
rebuild_of_ended honest rows store refusal kept = stays_ended honest _ store refusal kept

pub scrub_of_ended : (honest : Type 0) (store : StoreView) (refusal : Refusal) → store.ended ≡ Some refusal → ScrubsSet honest store store (Err refusal)
scrub_of_ended honest store refusal kept = stays_ended honest _ store refusal kept

pub part_of_ended : (honest : Type 0) (first rows : ℕ) (store : StoreView) (refusal : Refusal) → store.ended ≡ Some refusal
    → ScrubsRows honest first rows store store (Err refusal)
part_of_ended honest first rows store refusal kept = stays_ended honest _ store refusal kept

pub status_of_ended : (store : StoreView) (refusal : Refusal) → store.ended ≡ Some refusal → TellsStatus store (Err refusal)
status_of_ended store refusal kept = tells_ended store refusal kept

-- a run over a list, of a store that a refusal ended
pub run_of_ended : (honest : Type 0) (events : List Event) (store : StoreView) (acks : List ℕ) (refusal : Refusal) → store.ended ≡ Some refusal
    → RunsEvents honest events store store acks acks (Err refusal)
run_of_ended honest events store acks refusal kept = run_stays_ended honest events store acks refusal kept

-- a run without memory for the acks
pub run_without_memory : (honest : Type 0) (events : List Event) (store : StoreView) (acks : List ℕ) → store.ended ≡ None
    → RunsEvents honest events store store acks acks (Err Memory)
run_without_memory honest events store acks goes = record {
  ended = λ refusal kept. some_is_none refusal (sym kept ∙ goes);
  going = λ going. record { same = refl; none_acknowledged = refl };
}

-- a status that the table of the array and the table of volumes tell is that of each store that goes on
pub status_is_told : TablesHaveOneSpelling → (store : StoreView) → store.ended ≡ None
    → TellsStatus store (Ok (status_by store (row_count store.array.table) (extents_for_store store).blocks (extents_for_store store).count
    ((extents_for_store store).count - records_need (extents_for_store store).blocks store.keeps.records) (used_records store.keeps.records)
    store.keeps.version))
status_is_told one_spelling store goes =
    counts_told store (row_count store.array.table) (extents_for_store store).blocks (extents_for_store store).count
    ((extents_for_store store).count - records_need (extents_for_store store).blocks store.keeps.records)
    (used_records store.keeps.records) store.keeps.version goes refl refl refl counted
  where
    same_table : (those : VolumeMap) (lost : Option Lost) (rests : IsSettledOn store lost those) → rests.shown.table ≡ store.keeps
    same_table those lost rests =
        one_spelling (extents_for_store store).format rests.logical rests.shown.table store.keeps rests.shown.of_set.version rests.of_format
        rests.shown.spelled rests.spelled

    counted : (lost : Option Lost) (those : VolumeMap) → IsSettledOn store lost those
        → ((extents_for_store store).count - records_need (extents_for_store store).blocks store.keeps.records ≡ (extents_for_store store).count - need
        (extents_for_store store).blocks those.volumes)
        × (used_records store.keeps.records ≡ length those.volumes) × (store.keeps.version ≡ those.version)
    counted lost those rests =
        let are = records_are_counted (extents_for_store store) rests.logical those rests.shown in (
          ap (λ (t : VolumeTable). (extents_for_store store).count - records_need (extents_for_store store).blocks t.records)
              (sym (same_table those lost rests))
              ∙ ap (λ n. (extents_for_store store).count - n) (sym are.1),
          ap (λ (t : VolumeTable). used_records t.records) (sym (same_table those lost rests)) ∙ sym are.0,
          ap (λ (t : VolumeTable). t.version) (sym (same_table those lost rests)) ∙ rests.shown.of_version,
        )

-- whether a refusal ends a store
ends_or_not : (refusal : Refusal) → ((refusal ≡ TwoLost) ⊎ (refusal ≡ Worn)) ⊎ (¬ EndsIt refusal)
ends_or_not TwoLost = inl (inl refl)
ends_or_not Worn = inl (inr refl)
ends_or_not BadName = inr (λ e. absurd e)
ends_or_not BadSize = inr (λ e. absurd e)
ends_or_not Exists = inr (λ e. absurd e)
ends_or_not TooManyVolumes = inr (λ e. absurd e)
ends_or_not NoSpace = inr (λ e. absurd e)
ends_or_not NoVolume = inr (λ e. absurd e)
ends_or_not BadCount = inr (λ e. absurd e)
ends_or_not OutOfRange = inr (λ e. absurd e)
ends_or_not WouldLose = inr (λ e. absurd e)
ends_or_not NotMissing = inr (λ e. absurd e)
ends_or_not NotUsable = inr (λ e. absurd e)
ends_or_not NothingToRebuild = inr (λ e. absurd e)
ends_or_not Incomplete = inr (λ e. absurd e)
ends_or_not Memory = inr (λ e. absurd e)
ends_or_not NoSet = inr (λ e. absurd e)
ends_or_not BadTable = inr (λ e. absurd e)
ends_or_not BadGeometry = inr (λ e. absurd e)
ends_or_not BadLine = inr (λ e. absurd e)
ends_or_not ReadFault = inr (λ e. absurd e)
ends_or_not WriteFault = inr (λ e. absurd e)

-- what `apply` gives for an event of a store
pub record Applied (honest : Type 0) (event : Event) (old : StoreView) : Type 0 where
  pub new : StoreView
  pub reply : Reply
  pub applies : Applies honest event old new reply

-- what a run gives
pub record AnswersRun (honest : Type 0) (events : List Event) (old : StoreView) (acks_before : List ℕ) : Type 0 where
  pub new : StoreView
  pub acks_after : List ℕ
  pub result : Answer
  pub runs : RunsEvents honest events old new acks_before acks_after result

-- how far events were done, one after another
data Ran (honest : Type 0) (events : List Event) (old : StoreView) : Type 0 where
  all_done : (new : StoreView) (acks : List ℕ) → Chain honest events acks old new → Ran honest events old
  stopped : (done undone : List Event) (event : Event) (mid new : StoreView) (acks : List ℕ) (refusal : Refusal) → events ≡ done ++ event ∷ undone
      → Chain honest done acks old mid → Applies honest event mid new (Refused refusal) → (refusal ≡ TwoLost) ⊎ (refusal ≡ Worn) → Ran honest events old

-- one event that did not end the store, and then the others
ran_on : {honest : Type 0} {events : List Event} {old : StoreView} (event : Event) (first : Applied honest event old) → ¬ EndsStore first.reply
    → Ran honest events first.new → Ran honest (event ∷ events) old
ran_on event first goes (all_done new acks chain) =
    all_done new (first.new.array.panel.calls ∷ acks) (then_done first.new event first.reply first.new.array.panel.calls first.applies goes refl chain)
ran_on event first goes (stopped done undone last mid new acks refusal parts chain applies ends) =
    stopped (event ∷ done) undone last mid new (first.new.array.panel.calls ∷ acks) refusal (ap (λ others. event ∷ others) parts)
    (then_done first.new event first.reply first.new.array.panel.calls first.applies goes refl chain) applies ends

-- the first event, and the others unless it ended the store
ran_first : {honest : Type 0} {events : List Event} {old : StoreView} (event : Event) (mid : StoreView) (reply : Reply) → Applies honest event old mid reply
    → Ran honest events mid → Ran honest (event ∷ events) old
ran_first {honest} {events} {old} event mid reply applies others = by_reply reply applies
  where
    on : (answered : Reply) → Applies honest event old mid answered → ¬ EndsStore answered → Ran honest (event ∷ events) old
    on answered applied goes = ran_on event (record { new = mid; reply = answered; applies = applied }) goes others

    by_refusal : (refusal : Refusal) → Applies honest event old mid (Refused refusal) → ((refusal ≡ TwoLost) ⊎ (refusal ≡ Worn)) ⊎ (¬ EndsIt refusal)
        → Ran honest (event ∷ events) old
    by_refusal refusal applied (inl ends) = stopped [] events event old mid [] refusal refl none_done applied ends
    by_refusal refusal applied (inr goes) = on (Refused refusal) applied goes

    by_reply : (answered : Reply) → Applies honest event old mid answered → Ran honest (event ∷ events) old
    by_reply Done applied = on Done applied (λ e. absurd e)
    by_reply (Blocks blocks) applied = on (Blocks blocks) applied (λ e. absurd e)
    by_reply (Volumes volumes) applied = on (Volumes volumes) applied (λ e. absurd e)
    by_reply (Progressed progress) applied = on (Progressed progress) applied (λ e. absurd e)
    by_reply (Scrubbed rows bad first_bad) applied = on (Scrubbed rows bad first_bad) applied (λ e. absurd e)
    by_reply (Refused refusal) applied = by_refusal refusal applied (ends_or_not refusal)

-- a run goes over its events until one ends the store
ran : (honest : Type 0) → ((event : Event) (store : StoreView) → Applied honest event store) → (events : List Event) (old : StoreView) → Ran honest events old
ran honest apply [] old = all_done old [] none_done
ran honest apply (event ∷ events) old =
    let first = apply event old in
    ran_first event first.new first.reply first.applies (ran honest apply events first.new)

-- so `run` is met, over whatever meets `apply`, for all events
pub run_is_met : (honest : Type 0) → ((event : Event) (store : StoreView) → Applied honest event store)
    → (events : List Event) (old : StoreView) (acks_before : List ℕ)
    → old.ended ≡ None → AnswersRun honest events old acks_before
run_is_met honest apply events old acks_before goes = by_case (ran honest apply events old)
  where
    ended_too : {A : Type 0} (refusal : Refusal) → old.ended ≡ Some refusal → A
    ended_too refusal kept = some_is_none refusal (sym kept ∙ goes)

    ended_at : (done undone : List Event) (event : Event) (mid new : StoreView) (acks : List ℕ) (refusal : Refusal) → events ≡ done ++ event ∷ undone
        → Chain honest done acks old mid → Applies honest event mid new (Refused refusal) → EndsIt refusal
        → EndsAtEvent honest events old new acks_before (acks_before ++ acks) refusal
    ended_at done undone event mid new acks refusal parts chain applies ends = record {
      done = done;
      event = event;
      undone = undone;
      parts = parts;
      mid = mid;
      acks = acks;
      chain = chain;
      acknowledged = refl;
      applies = applies;
      ends = ends;
    }

    by_case : Ran honest events old → AnswersRun honest events old acks_before
    by_case (all_done new acks chain) = record {
      new = new;
      acks_after = acks_before ++ acks;
      result = Ok tt;
      runs = record { ended = λ refusal kept. ended_too refusal kept; going = λ going. record { acks = acks; chain = chain; acknowledged = refl } };
    }
    by_case (stopped done undone event mid new acks refusal parts chain applies (inl lost)) = record {
      new = new;
      acks_after = acks_before ++ acks;
      result = Err TwoLost;
      runs = record {
        ended = λ other kept. ended_too other kept;
        going = λ going. ended_at done undone event mid new acks TwoLost parts chain
            (subst (λ (r : Refusal). Applies honest event mid new (Refused r)) lost applies) tt;
      };
    }
    by_case (stopped done undone event mid new acks refusal parts chain applies (inr worn)) = record {
      new = new;
      acks_after = acks_before ++ acks;
      result = Err Worn;
      runs = record {
        ended = λ other kept. ended_too other kept;
        going = λ going. ended_at done undone event mid new acks Worn parts chain
            (subst (λ (r : Refusal). Applies honest event mid new (Refused r)) worn applies) tt;
      };
    }

-- a run of no events is done, with no ack
pub run_of_nothing : (honest : Type 0) (store : StoreView) (acks : List ℕ) → store.ended ≡ None → RunsEvents honest [] store store acks (acks ++ []) (Ok tt)
run_of_nothing honest store acks goes = record {
  ended = λ refusal kept. some_is_none refusal (sym kept ∙ goes);
  going = λ going. record { acks = []; chain = none_done; acknowledged = refl };
}
