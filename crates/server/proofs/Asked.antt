-- What is served is a run of events and of commits.
use Rattle.std.proofs.Common.{◌≡◌, ◌⊎◌, inl, inr, ℕ, ◌+◌, ◌≤◌, List, [], ◌∷◌, ◌++◌, map, refl, sym, ◌∙◌, ap, subst, Option, Some, None, Result, Ok, Err}
use Rattle.std.proofs.lemmas.Option.{none-some}
use Rattle.sector_model.specs.declared.refusal.Refusal.{Refusal}
use Rattle.sector_model.specs.declared.calls.TheConstants.{GREATEST_COUNT}
use Rattle.array_io.specs.Believed.Views.{EndsIt}
use Rattle.rebuild.specs.Rebuilding.{Position, Progress}
use Rattle.requests.specs.Demands.{Demand, FailSlot, OnVolumes as Asks, ReadBlocks, RebuildSteps, ReplaceSlot, ScrubRows, Status as AsksStatus, Together}
use Rattle.requests.specs.Demands.{WriteBlocks, ZeroBlocks}
use Rattle.set_commands.specs.Invocations.{Served, none_asked, then_answered as then_event, then_ended, then_writes, then_writes_ended}
use Rattle.set_commands.specs.Steps.{Rebuilds, Steps, none_made, then_made}
use Rattle.volume_table.specs.Staging.{CommitsStaged}
use Rattle.volume_table.specs.Stands.{StoreView}
use Rattle.volume_table.specs.StoreCalls.{Applies, EndsStore as EndsTheStore}
use Rattle.volume_table.specs.StoreFunctions.{Answer, done_reply, progress_reply, scrub_reply}
use Rattle.volume_table.proofs.EndedStore.{not_ended}
use Rattle.scrub.specs.Scrubbing.{Report}
use Rattle.server.specs.Scrubs.{IsScrubTold, joined}
use Rattle.volume_table.specs.VolumeStep.{Blocks, Command, Done, Event, Fail, OnSet, OnVolumes, Progressed, Read, RebuildStep, Refused, Reply, Volumes, Scrubbed}
use Rattle.volume_table.specs.Volumes.{Block}
use Rattle.volume_table.specs.Zeroing.{AreCommittedInTurn, EndsCommitting, Zeroes, commit_then, none_committed}
use Rattle.server.proofs.Coming.{end_is_one}
use Rattle.server.specs.Answers.{Answers, EndsServing, IsServed, ReadsParts, ReadsRange, StopsInRead, Told, TellsBlocks, TellsDone, TellsProgress, TellsRefusal, TellsScrub, TellsStatus}
use Rattle.server.specs.Answers.{TellsVolumes, done_told, none_read, progress_told, reply_told, then_read}
use Rattle.server.specs.Ends.{EndsStore, by_commit, by_request, by_scrub}
use Rattle.server.specs.Serving.{Line, Serves, nothing_served, then_alone, then_answered, then_committed, then_refused, then_scrubbed, then_staged, then_taken, then_together}
use Rattle.server.specs.ServingLaw.{EndIsAsking, IsAsked, ServingIsAsking}

-- what a store was asked, after one event more
event_first : (old mid new : StoreView) (event : Event) (reply : Reply) → Applies (Unit {0}) event old mid reply → ¬ EndsTheStore reply → IsAsked mid new
    → IsAsked old new
event_first old mid new event reply applies goes rest = (reply ∷ rest.0, then_event mid event reply applies goes rest.1)

commit_first : (old mid new : StoreView) (writes : List Command) → CommitsStaged (Unit {0}) writes old mid (Ok tt) → IsAsked mid new → IsAsked old new
commit_first old mid new writes commits rest = (map (λ write. Done) writes ++ rest.0, then_writes mid writes commits rest.1)

-- parts that were read
reads_first : (name : List ℕ) (at end : ℕ) (blocks : List Block) (old mid new : StoreView) → ReadsParts (Unit {0}) name at end blocks old mid → IsAsked mid new
    → IsAsked old new
reads_first name at end [] old mid new none_read rest = rest
reads_first name at end blocks old mid new (then_read {end = before} {blocks = first} between part earlier least most applies) rest =
    reads_first name at before first old between new earlier (event_first between mid new _ (Blocks part) applies (λ no. no) rest)

-- steps of a rebuild
steps_first : (made : ℕ) (old mid new : StoreView) → Steps (Unit {0}) made old mid → IsAsked mid new → IsAsked old new
steps_first made old mid new (none_made none same) rest = subst (λ (s : StoreView). IsAsked s new) same rest
steps_first made old mid new (then_made before position between counted earlier rebuilds) rest =
    steps_first before old between new earlier (event_first between mid new _ _ rebuilds (λ no. no) rest)

-- commits of zeros
turns_first : (writes : List Command) (old mid new : StoreView) → AreCommittedInTurn (Unit {0}) writes old mid → IsAsked mid new → IsAsked old new
turns_first writes old mid new none_committed rest = rest
turns_first all old mid new (commit_then {more = more} between writes commits true_to earlier) rest =
    commit_first old between new writes commits (turns_first more between mid new earlier rest)

-- ---- where it goes on

-- after commits the store goes on
turns_go_on : (writes : List Command) (old new : StoreView) → AreCommittedInTurn (Unit {0}) writes old new → old.ended ≡ None → new.ended ≡ None
turns_go_on writes old new none_committed goes = goes
turns_go_on all old new (commit_then {more = more} between writes commits true_to earlier) goes =
    turns_go_on more between new earlier ((commits.going goes).goes refl)

-- nothing was done
same_first : (old mid new : StoreView) → mid ≡ old → IsAsked mid new → IsAsked old new
same_first old mid new same rest = subst (λ (s : StoreView). IsAsked s new) same rest

-- a reply that doesn't end the store
goes_by : (reply : Reply) (told : Told) → told ≡ reply_told reply → ¬ EndsServing told → ¬ EndsTheStore reply
goes_by (Refused refusal) told same goes = subst (λ (t : Told). ¬ EndsServing t) same goes
goes_by reply told same goes = λ no. no

goes_done : (answer : Answer) (told : Told) → told ≡ done_told answer → ¬ EndsServing told → ¬ EndsTheStore (done_reply answer)
goes_done (Ok done) told same goes = λ no. no
goes_done (Err refusal) told same goes = subst (λ (t : Told). ¬ EndsServing t) same goes

-- blocks that were made zero
zeroes_first : (name : List ℕ) (at count : ℕ) (old mid new : StoreView) (answer : Answer) (told : Told) → told ≡ done_told answer → ¬ EndsServing told
    → old.ended ≡ None → Zeroes (Unit {0}) name at count old mid answer → IsAsked mid new → IsAsked old new
zeroes_first name at count old mid new (Ok done) told same goes going zeroes rest = elim (zeroes.going going) [
  | inl refuses ↦ same_first old mid new refuses.same rest
  | inr blocks ↦ turns_first blocks.writes old mid new blocks.commits rest
]
zeroes_first name at count old mid new (Err refusal) told same goes going zeroes rest = elim (zeroes.going going) [
  | inl refuses ↦ same_first old mid new refuses.same rest
  | inr blocks ↦
      let ends : EndsCommitting (Unit {0}) blocks.writes old mid refusal = blocks.commits in
      let still : ends.mid.ended ≡ None = turns_go_on ends.done old ends.mid ends.before going in
      let is : EndsIt refusal = end_is_one ends.mid.array mid.array
      (GREATEST_COUNT ≤ ends.mid.array.number) refusal ((ends.ends.going still).ends refusal refl).1 in
      absurd (subst (λ (t : Told). ¬ EndsServing t) same goes is)
]

-- a rebuild
rebuilds_first : (steps : Option ℕ) (old mid new : StoreView) (answer : Result Progress Refusal) → ¬ EndsTheStore (progress_reply answer)
    → Rebuilds (Unit {0}) steps old mid answer → IsAsked mid new → IsAsked old new
rebuilds_first steps old mid new answer goes rebuilds rest =
    steps_first rebuilds.before old rebuilds.mid new rebuilds.steps_before
    (event_first rebuilds.mid mid new _ (progress_reply answer) rebuilds.last goes rest)

goes_progress : (old new : StoreView) (answer : Result Progress Refusal) (told : Told) → told ≡ progress_told new.array.table.geometry answer
    → ¬ EndsServing told → ¬ EndsTheStore (progress_reply answer)
goes_progress old new (Ok progress) told same goes = λ no. no
goes_progress old new (Err refusal) told same goes = subst (λ (t : Told). ¬ EndsServing t) same goes

-- a read
range_first : (name : List ℕ) (at count : ℕ) (old mid new : StoreView) (told : Told) → ¬ EndsServing told
    → ReadsRange (Unit {0}) name at count old mid told → IsAsked mid new → IsAsked old new
range_first name at count old mid new (TellsBlocks blocks) goes range rest = reads_first name at (at + count) blocks old mid new range rest
range_first name at count old mid new (TellsRefusal refusal) goes range rest = elim range [
  | inl refuses ↦ same_first old mid new refuses.same rest
  | inr stops ↦ reads_first name at stops.end stops.blocks old stops.mid new stops.before
      (event_first stops.mid mid new _ (Refused refusal) stops.refused goes rest)
]
range_first name at count old mid new TellsDone goes range rest = absurd range
range_first name at count old mid new (TellsVolumes volumes) goes range rest = absurd range
range_first name at count old mid new (TellsStatus json) goes range rest = absurd range
range_first name at count old mid new (TellsProgress format rows progress) goes range rest = absurd range
range_first name at count old mid new (TellsScrub report) goes range rest = absurd range

-- a request that was answered
answers_first : (demand : Demand) (old mid new : StoreView) (told : Told) → ¬ EndsServing told → old.ended ≡ None
    → Answers (Unit {0}) demand old mid told → IsAsked mid new → IsAsked old new
answers_first (ReadBlocks name at count) old mid new told goes going answers rest = range_first name at count old mid new told goes answers.2 rest
answers_first (ZeroBlocks name at count) old mid new told goes going answers rest =
    let is = answers.2 in zeroes_first name at count old mid new is.0 told is.2 goes going is.1 rest
answers_first (Asks command) old mid new told goes going answers rest =
    event_first old mid new (OnVolumes command) answers.0 answers.1 (goes_by answers.0 told answers.2 goes) rest
answers_first AsksStatus old mid new told goes going answers rest = same_first old mid new answers.1 rest
answers_first (FailSlot slot) old mid new told goes going answers rest =
    event_first old mid new _ (done_reply answers.0) answers.1 (goes_done answers.0 told answers.2 goes) rest
answers_first (ReplaceSlot slot) old mid new told goes going answers rest = same_first old mid new answers.same rest
answers_first (RebuildSteps steps) old mid new told goes going answers rest =
    rebuilds_first (Some steps) old mid new answers.0 (goes_progress old mid answers.0 told answers.2 goes) answers.1 rest
answers_first (ScrubRows rows) old mid new told goes going answers rest = absurd answers
answers_first (Together lines) old mid new told goes going answers rest = absurd answers
answers_first (WriteBlocks name at count) old mid new told goes going answers rest = absurd answers

-- while requests are served the store goes on
pub serves_go_on : (lines : List Line) (text : List ℕ) (waiting : List Command) (replies : List Told) (parts : List Command) (left : ℕ) (so_far : Report)
    (old new : StoreView) → old.ended ≡ None → Serves (Unit {0}) lines text waiting replies parts left so_far old new → new.ended ≡ None
serves_go_on lines text waiting replies parts left so_far old new going nothing_served = going
serves_go_on lines text waiting replies parts left so_far old new going (then_answered mid line demand told before request served goes) = served.going goes
serves_go_on lines text waiting replies parts left so_far old new going (then_scrubbed mid line rows after told before request scrubs goes) = goes
serves_go_on lines text waiting replies parts left so_far old new going (then_alone before) = serves_go_on _ _ _ _ _ _ _ old new going before
serves_go_on lines text waiting replies parts left so_far old new going (then_together line count before request least most) =
    serves_go_on _ _ _ _ _ _ _ old new going before
serves_go_on lines text waiting replies parts left so_far old new going (then_staged part before) = serves_go_on _ _ _ _ _ _ _ old new going before
serves_go_on lines text waiting replies parts left so_far old new going (then_taken line before write) = serves_go_on _ _ _ _ _ _ _ old new going before
serves_go_on lines text waiting replies parts left so_far old new going (then_refused line refusal before write) =
    serves_go_on _ _ _ _ _ _ _ old new going before
serves_go_on lines text waiting replies parts left so_far old new going (then_committed mid before commits) =
    (commits.going (serves_go_on _ _ _ _ _ _ _ old mid going before)).goes refl

-- what was served so far, and then was asked
pub serves_first : (lines : List Line) (text : List ℕ) (waiting : List Command) (replies : List Told) (parts : List Command) (left : ℕ)
    (so_far : Report) (old mid new : StoreView) → old.ended ≡ None → Serves (Unit {0}) lines text waiting replies parts left so_far old mid
    → IsAsked mid new → IsAsked old new
serves_first lines text waiting replies parts left so_far old mid new going nothing_served rest = rest
serves_first lines text waiting replies parts left so_far old mid new going (then_answered between line demand told before request served goes) rest =
    serves_first _ _ _ _ _ _ _ old between new going before
    (answers_first demand between mid new told goes (serves_go_on _ _ _ _ _ _ _ old between going before) served.answers rest)
serves_first lines text waiting replies parts left so_far old mid new going (then_scrubbed between line rows after told before request scrubs goes) rest =
    serves_first _ _ _ _ _ _ _ old between new going before
    (event_first between mid new _ (scrub_reply scrubs.answer) scrubs.scrubs
    (not_ended (Unit {0}) _ between mid (scrub_reply scrubs.answer) scrubs.scrubs (serves_go_on _ _ _ _ _ _ _ old between going before) goes) rest)
serves_first lines text waiting replies parts left so_far old mid new going (then_alone before) rest = serves_first _ _ _ _ _ _ _ old mid new going before rest
serves_first lines text waiting replies parts left so_far old mid new going (then_together line count before request least most) rest =
    serves_first _ _ _ _ _ _ _ old mid new going before rest
serves_first lines text waiting replies parts left so_far old mid new going (then_staged part before) rest =
    serves_first _ _ _ _ _ _ _ old mid new going before rest
serves_first lines text waiting replies parts left so_far old mid new going (then_taken line before write) rest =
    serves_first _ _ _ _ _ _ _ old mid new going before rest
serves_first lines text waiting replies parts left so_far old mid new going (then_refused line refusal before write) rest =
    serves_first _ _ _ _ _ _ _ old mid new going before rest
serves_first lines text waiting replies parts left so_far old mid new going (then_committed between before commits) rest =
    serves_first _ _ _ _ _ _ _ old between new going before (commit_first between mid new _ commits rest)

-- ---- where it ends

none_left : (old new : StoreView) → new ≡ old → IsAsked old new
none_left old new same = subst (λ (s : StoreView). IsAsked old s) (sym same) ([], none_asked)

event_last : (old new : StoreView) (event : Event) (reply : Reply) → Applies (Unit {0}) event old new reply → EndsTheStore reply → IsAsked old new
event_last old new event reply applies ends = (reply ∷ [], then_ended event reply applies ends)

-- an event, whatever it came to
event_or_last : (old new : StoreView) (event : Event) (refusal : Refusal) → Applies (Unit {0}) event old new (Refused refusal)
    → EndsIt refusal → IsAsked old new
event_or_last old new event refusal applies ends = event_last old new event (Refused refusal) applies ends

abbrev told_refusal : Refusal → Told
told_refusal refusal = TellsRefusal refusal

same_told : (first second : Refusal) → told_refusal first ≡ told_refusal second → first ≡ second
same_told first second is = cc

-- a command that was refused so
reply_last : (old new : StoreView) (event : Event) (reply : Reply) (refusal : Refusal) → told_refusal refusal ≡ reply_told reply → EndsIt refusal
    → Applies (Unit {0}) event old new reply → IsAsked old new
reply_last old new event (Refused said) refusal same ends applies =
    event_or_last old new event said applies (subst EndsIt (same_told refusal said same) ends)
reply_last old new event Done refusal same ends applies = absurd (cc)
reply_last old new event (Blocks blocks) refusal same ends applies = absurd (cc)
reply_last old new event (Volumes volumes) refusal same ends applies = absurd (cc)
reply_last old new event (Progressed progress) refusal same ends applies = absurd (cc)
reply_last old new event (Scrubbed rows bad first_bad) refusal same ends applies = absurd (cc)

done_last : (old new : StoreView) (event : Event) (answer : Answer) (refusal : Refusal) → told_refusal refusal ≡ done_told answer → EndsIt refusal
    → Applies (Unit {0}) event old new (done_reply answer) → IsAsked old new
done_last old new event (Ok done) refusal same ends applies = absurd (cc)
done_last old new event (Err said) refusal same ends applies =
    event_or_last old new event said applies (subst EndsIt (same_told refusal said same) ends)

zeroes_last : (name : List ℕ) (at count : ℕ) (old new : StoreView) (answer : Answer) → old.ended ≡ None
    → Zeroes (Unit {0}) name at count old new answer → IsAsked old new
zeroes_last name at count old new (Ok done) going zeroes = elim (zeroes.going going) [
  | inl refuses ↦ none_left old new refuses.same
  | inr blocks ↦ turns_first blocks.writes old new new blocks.commits ([], none_asked)
]
zeroes_last name at count old new (Err refusal) going zeroes = elim (zeroes.going going) [
  | inl refuses ↦ none_left old new refuses.same
  | inr blocks ↦
      let ends : EndsCommitting (Unit {0}) blocks.writes old new refusal = blocks.commits in
      turns_first ends.done old ends.mid new ends.before (map (λ write. Refused refusal) ends.last, then_writes_ended ends.last refusal ends.ends)
]

rebuilds_last : (steps : Option ℕ) (old new : StoreView) (answer : Result Progress Refusal) (refusal : Refusal)
    → told_refusal refusal ≡ progress_told new.array.table.geometry answer → EndsIt refusal → Rebuilds (Unit {0}) steps old new answer → IsAsked old new
rebuilds_last steps old new (Ok progress) refusal same ends rebuilds = absurd (cc)
rebuilds_last steps old new (Err said) refusal same ends rebuilds =
    steps_first rebuilds.before old rebuilds.mid new rebuilds.steps_before
    (event_or_last rebuilds.mid new _ said rebuilds.last (subst EndsIt (same_told refusal said same) ends))

answers_last : (demand : Demand) (old new : StoreView) (refusal : Refusal) → EndsIt refusal → old.ended ≡ None
    → Answers (Unit {0}) demand old new (TellsRefusal refusal) → IsAsked old new
answers_last (ReadBlocks name at count) old new refusal ends going answers = elim answers.2 [
  | inl refuses ↦ none_left old new refuses.same
  | inr stops ↦ reads_first name at stops.end stops.blocks old stops.mid new stops.before (event_or_last stops.mid new _ refusal stops.refused ends)
]
answers_last (ZeroBlocks name at count) old new refusal ends going answers = zeroes_last name at count old new answers.2.0 going answers.2.1
answers_last (Asks command) old new refusal ends going answers = reply_last old new (OnVolumes command) answers.0 refusal answers.2 ends answers.1
answers_last AsksStatus old new refusal ends going answers = none_left old new answers.1
answers_last (FailSlot slot) old new refusal ends going answers = done_last old new _ answers.0 refusal answers.2 ends answers.1
answers_last (ReplaceSlot slot) old new refusal ends going answers = none_left old new answers.same
answers_last (RebuildSteps steps) old new refusal ends going answers = rebuilds_last (Some steps) old new answers.0 refusal answers.2 ends answers.1
answers_last (ScrubRows rows) old new refusal ends going answers = absurd answers
answers_last (Together lines) old new refusal ends going answers = absurd answers
answers_last (WriteBlocks name at count) old new refusal ends going answers = absurd answers

-- a part of a scrub that was refused so
scrub_refusal : (before : Report) (answer : Result Report Refusal) (so_far after : Report) (refusal : Refusal)
    → IsScrubTold before answer so_far after (TellsRefusal refusal) → scrub_reply answer ≡ Refused refusal
scrub_refusal before (Ok part) so_far after refusal is = absurd (let never : told_refusal refusal ≡ TellsScrub (joined before part) = is.1 in cc)
scrub_refusal before (Err said) so_far after refusal is = ap Refused (sym (same_told refusal said is.1))

scrub_last : (old new : StoreView) (event : Event) (answer : Result Report Refusal) (refusal : Refusal) → EndsIt refusal → scrub_reply answer ≡ Refused refusal
    → Applies (Unit {0}) event old new (scrub_reply answer) → IsAsked old new
scrub_last old new event answer refusal ends same applies =
    event_or_last old new event refusal (subst (λ (r : Reply). Applies (Unit {0}) event old new r) same applies) ends

-- ---- the law

pub serving_is_asking : ServingIsAsking
serving_is_asking lines text waiting replies parts left so_far old new going serves =
    serves_first lines text waiting replies parts left so_far old new new going serves ([], none_asked)

pub end_is_asking : EndIsAsking
end_is_asking refusal lines text old new ends going (by_commit {waiting = waiting} mid serves commits) =
    serves_first _ _ _ _ _ _ _ old mid new going serves (map (λ write. Refused refusal) waiting, then_writes_ended waiting refusal commits)
end_is_asking refusal lines text old new ends going (by_scrub mid line rows after serves request scrubs) =
    serves_first _ _ _ _ _ _ _ old mid new going serves
    (scrub_last mid new _ scrubs.answer refusal ends (scrub_refusal _ scrubs.answer _ after refusal scrubs.is) scrubs.scrubs)
end_is_asking refusal lines text old new ends going (by_request mid line demand serves request served) =
    serves_first _ _ _ _ _ _ _ old mid new going serves
    (answers_last demand mid new refusal ends (serves_go_on _ _ _ _ _ _ _ old mid going serves) served.answers)
