-- What waits is committed: by what the commit and the writer answered.
use Rattle.std.proofs.Common.{◌≡◌, ◌⊎◌, inl, inr, ℕ, ◌≤◌, List, [], ◌∷◌, ◌++◌, refl, sym, ◌∙◌, ap, subst, Option, Some, None, Result, Ok, Err}
use Rattle.std.specs.Io.KnownBytes.{Appends}
use Rattle.sector_model.specs.declared.calls.TheConstants.{GREATEST_COUNT}
use Rattle.sector_model.specs.declared.refusal.Refusal.{Refusal}
use Rattle.sector_model.specs.declared.refusal.Refusal.TheVariants.{TwoLost, Worn, WriteFault}
use Rattle.array_io.specs.Believed.Views.{EndsIt}
use Rattle.batch.specs.Places.{Given}
use Rattle.report.specs.Replies.{refusal_line, reply_text}
use Rattle.report.specs.Written.{AppendsPart}
use Rattle.scrub.specs.Scrubbing.{Report}
use Rattle.set_commands.specs.Run.{Streams, streams}
use Rattle.volume_table.specs.Staging.{CommitsStaged, HoldsWrites}
use Rattle.volume_table.specs.Stands.{StoreView}
use Rattle.volume_table.specs.StoreCalls.{extents_for_store}
use Rattle.volume_table.specs.StoreFunctions.{Answer}
use Rattle.volume_table.specs.VolumeStep.{Command}
use Rattle.server.proofs.Coming.{come_committed, come_cut, come_lost, come_lost_cut, end_is_one, stops_ended}
use Rattle.server.proofs.WriteReplies.{texts_are}
use Rattle.server.specs.Answers.{Told}
use Rattle.server.specs.Ends.{HasCome, NoneWaits, StopsForGood, Waits, IsForGood, replies_of, reply_text_to_write, state_of}
use Rattle.std.specs.List.{flat_map}

-- a commit of a store that goes on, where it is refused, ends it
pub commit_ends : (honest : Type 0) (writes : List Command) (old new : StoreView) (refusal : Refusal) → old.ended ≡ None
    → CommitsStaged honest writes old new (Err refusal) → EndsIt refusal
commit_ends honest writes old new refusal going commits =
    end_is_one old.array new.array (GREATEST_COUNT ≤ old.array.number) refusal ((commits.going going).ends refusal refl).1

-- that is for good
pub ends_for_good : (refusal : Refusal) → EndsIt refusal → IsForGood refusal
ends_for_good TwoLost ends = tt
ends_for_good Worn ends = tt
ends_for_good refusal ends = absurd ends

pub fault_for_good : (refusal : Refusal) → refusal ≡ WriteFault → IsForGood refusal
fault_for_good refusal is = subst IsForGood (sym is) tt

pub commit_for_good : (then : Type 0) (old new : StoreView) (waits : Given) (answer : Answer) (refusal : Refusal) → old.ended ≡ None → Waits old waits
    → ((writes : List Command) → HoldsWrites (extents_for_store old) old.keeps writes waits → CommitsStaged then writes old new answer)
    → answer ≡ Err refusal → IsForGood refusal
commit_for_good then old new waits answer refusal going held commits lost =
    ends_for_good refusal (commit_ends then held.writes old new refusal going
    (subst (λ (a : Answer). CommitsStaged then held.writes old new a) lost (commits held.writes held.holds)))

-- what a commit of the writes that wait answered
abbrev pub CommitsAs : (then : Type 0) (old new : StoreView) (waits : Given) → Answer → Type 0
CommitsAs then old new waits answer = (writes : List Command) → HoldsWrites (extents_for_store old) old.keeps writes waits
    → CommitsStaged then writes old new answer

commits_as : (then : Type 0) (old new : StoreView) (waits : Given) (answer other : Answer) → answer ≡ other → CommitsAs then old new waits answer
    → CommitsAs then old new waits other
commits_as then old new waits answer other same commits = subst (CommitsAs then old new waits) same commits

module _ (honest : Type 0) (start : StoreView) (was : Streams) (then : Type 0) (so : honest → then) (parts : List Command) (left : ℕ) (ahead : List ℕ)
    (old new : StoreView) (remaining contents contents' : Option (List ℕ)) (waits : Given) (replies : List (Option Refusal)) (so_far : Report)
    (going : old.ended ≡ None) (answer : Answer) (commits : CommitsAs then old new waits answer)
    (come : HasCome honest start was parts left ahead (state_of old (streams remaining contents) waits (replies_of replies) so_far)) where
  pub commit_done : answer ≡ Ok tt → Appends contents contents' (flat_map reply_text_to_write replies)
      → NoneWaits honest start was parts left ahead new (streams remaining contents') so_far
  commit_done done written =
      come_committed honest start was then so parts left ahead old new remaining contents contents' waits (replies_of replies) so_far come
      (commits_as then old new waits answer (Ok tt) done commits)
      (subst (Appends contents contents') (texts_are replies) written)

  pub commit_cut : answer ≡ Ok tt → AppendsPart contents contents' (flat_map reply_text_to_write replies) → (refusal : Refusal) → refusal ≡ WriteFault
      → StopsForGood honest start was new (streams remaining contents') refusal
  commit_cut done cut refusal is = subst (StopsForGood honest start was new (streams remaining contents')) (sym is)
      (come_cut honest start was then so parts left ahead old new remaining contents contents' waits (replies_of replies) so_far come
      (commits_as then old new waits answer (Ok tt) done commits)
      (subst (AppendsPart contents contents') (texts_are replies) cut))

  pub commit_lost : (refusal : Refusal) → answer ≡ Err refusal → Appends contents contents' (refusal_line refusal)
      → StopsForGood honest start was new (streams remaining contents') refusal
  commit_lost refusal lost written =
      let lost_by : CommitsAs then old new waits (Err refusal) = commits_as then old new waits answer (Err refusal) lost commits in
      let ends : EndsIt refusal = commit_ends then come.waiting old new refusal going (lost_by come.waiting come.holds) in
      stops_ended honest start was new (streams remaining contents') (λ l a. ⊥)
      refusal ends
      (come_lost honest start was then so parts left ahead old new remaining contents contents' waits (replies_of replies) so_far come refusal
      ends lost_by written)

  pub commit_lost_cut : (lost_with : Refusal) → answer ≡ Err lost_with → AppendsPart contents contents' (refusal_line lost_with) → (refusal : Refusal)
      → refusal ≡ WriteFault → StopsForGood honest start was new (streams remaining contents') refusal
  commit_lost_cut lost_with lost cut refusal is =
      let lost_by : CommitsAs then old new waits (Err lost_with) = commits_as then old new waits answer (Err lost_with) lost commits in
      let ends : EndsIt lost_with = commit_ends then come.waiting old new lost_with going (lost_by come.waiting come.holds) in
      subst (StopsForGood honest start was new (streams remaining contents')) (sym is)
      (come_lost_cut honest start was then so parts left ahead old new remaining contents contents' waits (replies_of replies) so_far come lost_with
      ends lost_by cut)
