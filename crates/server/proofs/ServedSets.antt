-- A set that was served on a bank that is honest is something that was done on it.
use Rattle.std.proofs.Common.{◌≡◌, inl, inr, ℕ, List, [], ◌∷◌, refl, sym, subst, Option, None, Result, Ok, Err}
use Rattle.sector_model.specs.declared.refusal.Refusal.{Refusal}
use Rattle.sector_model.specs.declared.refusal.Refusal.TheVariants.{Memory, ReadFault, TwoLost, Worn, WriteFault}
use Rattle.array_io.specs.Believed.Views.{EndsIt}
use Rattle.recovery.specs.Making.{BankView}
use Rattle.scrub.specs.Scrubbing.{Report}
use Rattle.set_commands.proofs.DoneCommands.{commands_are_done}
use Rattle.set_commands.specs.Invocations.{none_asked, not_assembled, not_opened as not_opened_on, served as served_on, then_answered as then_event, then_ended}
use Rattle.set_commands.specs.Run.{Streams}
use Rattle.set_commands.specs.Serving.{IsNotOpened, IsOpened}
use Rattle.volume_table.proofs.EndedStore.{not_ended}
use Rattle.volume_table.proofs.RunChains.{applies_for}
use Rattle.volume_table.specs.Stands.{StoreView}
use Rattle.volume_table.specs.StoreFunctions.{Answer, ReplacesDevice, done_reply}
use Rattle.volume_table.specs.VolumeStep.{Command, OnSet, Replace as ReplaceDevice}
use Rattle.server.proofs.Asked.{end_is_asking, serving_is_asking}
use Rattle.server.proofs.Coming.{commits_for}
use Rattle.server.proofs.Fair.{scrubs_for, served_for}
use Rattle.server.specs.Answers.{Told}
use Rattle.server.specs.Ends.{EndsStore, HasServed, Whole, by_commit, by_request, by_scrub, ending, refusing, serving}
use Rattle.server.specs.OnBanks.{ReplacesAndServes, ServesReplaced, ServesSet, TellsReplaced, ended, goes_on, none_opened, not_opened, opened, set_opened}
use Rattle.server.specs.OnBanks.{then_served, then_stopped, untold}
use Rattle.server.specs.Serving.{Line, Serves, nothing_served, then_alone, then_answered, then_committed, then_refused, then_scrubbed, then_staged}
use Rattle.server.specs.Serving.{then_taken, then_together}
use Rattle.server.specs.ServingLaw.{IsAsked, IsDoneOn, ServedSetsMakeInvocations}
use Rattle.server.specs.declared.ending.Ending.{Ending}
use Rattle.server.specs.declared.ending.Ending.TheVariants.{Input, Replace}

module _ (honest other : Type 0) (so : other → honest) where
  serves_for : (lines : List Line) (text : List ℕ) (waiting : List Command) (replies : List Told) (parts : List Command) (left : ℕ) (so_far : Report)
      (old new : StoreView) → Serves honest lines text waiting replies parts left so_far old new → Serves other lines text waiting replies parts left so_far old new
  serves_for lines text waiting replies parts left so_far old new nothing_served = nothing_served
  serves_for lines text waiting replies parts left so_far old new (then_answered mid line demand told before request served goes) =
      then_answered mid line demand told (serves_for _ _ _ _ _ _ _ old mid before) request (served_for honest other so demand mid new told served) goes
  serves_for lines text waiting replies parts left so_far old new (then_scrubbed {so_far = earlier} mid line rows after told before request scrubs goes) =
      then_scrubbed mid line rows after told (serves_for _ _ _ _ _ _ _ old mid before) request (scrubs_for honest other so rows mid new earlier after told scrubs) goes
  serves_for lines text waiting replies parts left so_far old new (then_alone before) = then_alone (serves_for _ _ _ _ _ _ _ old new before)
  serves_for lines text waiting replies parts left so_far old new (then_together line count before request least most) =
      then_together line count (serves_for _ _ _ _ _ _ _ old new before) request least most
  serves_for lines text waiting replies parts left so_far old new (then_staged part before) = then_staged part (serves_for _ _ _ _ _ _ _ old new before)
  serves_for lines text waiting replies parts left so_far old new (then_taken line before write) =
      then_taken line (serves_for _ _ _ _ _ _ _ old new before) write
  serves_for lines text waiting replies parts left so_far old new (then_refused line refusal before write) =
      then_refused line refusal (serves_for _ _ _ _ _ _ _ old new before) write
  serves_for lines text waiting replies parts left so_far old new (then_committed {waiting = writes} mid before commits) =
      then_committed mid (serves_for _ _ _ _ _ _ _ old mid before) (commits_for honest other writes mid new (Ok tt) so commits)

  ends_for : (start : StoreView) (refusal : Refusal) (lines : List Line) (text : List ℕ) (new : StoreView) → EndsStore honest start refusal lines text new
      → EndsStore other start refusal lines text new
  ends_for start refusal lines text new (by_commit {waiting = writes} mid serves commits) =
      by_commit mid (serves_for _ _ _ _ _ _ _ start mid serves) (commits_for honest other writes mid new (Err refusal) so commits)
  ends_for start refusal lines text new (by_scrub {so_far = earlier} mid line rows after serves request scrubs) =
      by_scrub mid line rows after (serves_for _ _ _ _ _ _ _ start mid serves) request (scrubs_for honest other so rows mid new earlier after _ scrubs)
  ends_for start refusal lines text new (by_request mid line demand serves request served) =
      by_request mid line demand (serves_for _ _ _ _ _ _ _ start mid serves) request (served_for honest other so demand mid new _ served)

module _ (honest : Type 0) (fair : honest) where
  so : Unit {0} → honest
  so _ = fair

  asked_by : (lines : List Line) (text : List ℕ) (waiting : List Command) (replies : List Told) (parts : List Command) (left : ℕ) (so_far : Report)
      (old new : StoreView) → old.ended ≡ None → Serves honest lines text waiting replies parts left so_far old new → IsAsked old new
  asked_by lines text waiting replies parts left so_far old new going serves =
      serving_is_asking lines text waiting replies parts left so_far old new going
      (serves_for honest (Unit {0}) so lines text waiting replies parts left so_far old new serves)

  ended_asked : (refusal : Refusal) (lines : List Line) (text : List ℕ) (old new : StoreView) → EndsIt refusal → old.ended ≡ None
      → EndsStore honest old refusal lines text new → IsAsked old new
  ended_asked refusal lines text old new ends_it going ends =
      end_is_asking refusal lines text old new ends_it going (ends_for honest (Unit {0}) so old refusal lines text new ends)

  whole_asked : (lines : List Line) (text : List ℕ) (old new : StoreView) → old.ended ≡ None → Whole honest old lines text new → IsAsked old new
  whole_asked lines text old new going (serving serves) = asked_by _ _ _ _ _ _ _ old new going serves
  whole_asked lines text old new going (ending refusal ends_it ends) = ended_asked refusal lines _ old new ends_it going ends
  whole_asked lines text old new going (refusing refusal line serves bad) = asked_by _ _ _ _ _ _ _ old new going serves

  same_asked : (old new : StoreView) → new ≡ old → IsAsked old new
  same_asked old new same = subst (λ (s : StoreView). IsAsked old s) (sym same) ([], none_asked)

  requests_asked : (old new : StoreView) (was is : Streams) (result : Result Ending Refusal) → old.ended ≡ None → HasServed honest old new was is result
      → IsAsked old new
  requests_asked old new was is (Ok Input) going served = asked_by _ _ _ _ _ _ _ old new going served.come.serves
  requests_asked old new was is (Ok (Replace slot)) going served = asked_by _ _ _ _ _ _ _ old new going served.come.serves
  requests_asked old new was is (Err Memory) going served = same_asked old new served.0
  requests_asked old new was is (Err ReadFault) going served = asked_by _ _ _ _ _ _ _ old new going served.serves
  requests_asked old new was is (Err WriteFault) going served = whole_asked _ _ old new going served.whole
  requests_asked old new was is (Err TwoLost) going served = ended_asked TwoLost _ _ old new tt going served.ends
  requests_asked old new was is (Err Worn) going served = ended_asked Worn _ _ old new tt going served.ends
  requests_asked old new was is (Err refusal) going served = absurd served

  -- a slot that was given a device, and what was asked then
  replaces : (slot : ℕ) (old new : StoreView) (answer : Answer) → ReplacesDevice honest slot old new answer
      → ReplacesDevice (Unit {0}) slot old new answer
  replaces slot old new answer is = applies_for honest (Unit {0}) (OnSet (ReplaceDevice slot)) old new (done_reply answer) so is

  last_asked : (slot : ℕ) (old new : StoreView) (answer : Answer) → ReplacesDevice honest slot old new answer → IsAsked old new
  last_asked slot old new (Ok done) is = (done_reply (Ok done) ∷ [], then_event new _ (done_reply (Ok done)) (replaces slot old new (Ok done) is) (λ no. no) none_asked)
  last_asked slot old new (Err TwoLost) is = (done_reply (Err TwoLost) ∷ [], then_ended _ (done_reply (Err TwoLost)) (replaces slot old new (Err TwoLost) is) tt)
  last_asked slot old new (Err Worn) is = (done_reply (Err Worn) ∷ [], then_ended _ (done_reply (Err Worn)) (replaces slot old new (Err Worn) is) tt)
  last_asked slot old new (Err refusal) is =
      (done_reply (Err refusal) ∷ [], then_event new _ (done_reply (Err refusal)) (replaces slot old new (Err refusal) is) (λ no. no) none_asked)

  replaced_asked : (slot : ℕ) (old mid new : StoreView) (was is : Option (List ℕ)) → old.ended ≡ None → TellsReplaced honest slot old mid was is (Ok tt)
      → IsAsked mid new → IsAsked old new
  replaced_asked slot old mid new was is going (goes_on answer gives still written) rest =
      let given = replaces slot old mid answer gives in
      (done_reply answer ∷ rest.0, then_event mid _ (done_reply answer) given (not_ended (Unit {0}) _ old mid (done_reply answer) given going still) rest.1)

  stopped_asked : (slot : ℕ) (old new : StoreView) (was is : Option (List ℕ)) (refusal : Refusal) → TellsReplaced honest slot old new was is (Err refusal)
      → IsAsked old new
  stopped_asked slot old new was is refusal (ended same gives ends written) = last_asked slot old new (Err refusal) gives
  stopped_asked slot old new was is refusal (untold answer gives part) = last_asked slot old new answer gives

  after_asked : (slot : ℕ) (old new : StoreView) (was is : Streams) (result : Result Ending Refusal) → old.ended ≡ None
      → ReplacesAndServes honest slot old was new is result → IsAsked old new
  after_asked slot old new was is result going (then_served mid between told served) =
      replaced_asked slot old mid new was.contents between going told (requests_asked mid new _ is result (still_going told) served)
    where
      still_going : TellsReplaced honest slot old mid was.contents between (Ok tt) → mid.ended ≡ None
      still_going (goes_on answer gives still written) = still
  after_asked slot old new was is result going (then_stopped {contents = contents} refusal told) =
      stopped_asked slot old new was.contents contents refusal told

  module _ (id : List ℕ) (bank : BankView) where
    none_on : (refusal : Refusal) → IsNotOpened honest id bank refusal → IsDoneOn id bank
    none_on refusal (inl is) = ([], not_assembled is.back refusal ((commands_are_done honest fair id bank).unassembled refusal is))
    none_on refusal (inr is) =
        let both = (commands_are_done honest fair id bank).unread refusal is in ([], not_opened_on is.array is.back refusal both.0 both.1)

    asked_on : (first last : StoreView) → IsOpened honest id bank first → IsAsked first last → IsDoneOn id bank
    asked_on first last is asked =
        let both = (commands_are_done honest fair id bank).opened first is in (asked.0, served_on is.array first last both.0 both.1 asked.1)

    set_on : (was is : Streams) (result : Result Ending Refusal) → ServesSet honest id bank was is result → IsDoneOn id bank
    set_on was is result (not_opened refusal why) = none_on refusal why
    set_on was is result (opened serves) =
        asked_on serves.first serves.last serves.opened
        (requests_asked serves.first serves.last was is result (serves.opened.opens.going serves.first refl) serves.comes)

    replaced_on : (slot : ℕ) (was is : Streams) (result : Result Ending Refusal) → ServesReplaced honest id slot bank was is result → IsDoneOn id bank
    replaced_on slot was is result (none_opened refusal why told) = none_on refusal why
    replaced_on slot was is result (set_opened serves) =
        asked_on serves.first serves.last serves.opened
        (after_asked slot serves.first serves.last was is result (serves.opened.opens.going serves.first refl) serves.comes)

pub served_sets : (honest : Type 0) → ServedSetsMakeInvocations honest
served_sets honest fair id bank was is result =
    (set_on honest fair id bank was is result, λ slot. replaced_on honest fair id bank slot was is result)
