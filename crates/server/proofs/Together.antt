-- Writes that go together: what came of them, and then of their commit.
use Rattle.std.proofs.Common.{◌≡◌, ℕ, ◌+◌, List, [], ◌∷◌, ◌++◌, refl, sym, ◌∙◌, ap, subst, Bool, true, false, Option, Some, None, Result, Ok, Err}
use Rattle.std.proofs.lemmas.Bool.{false≢true}
use Rattle.std.specs.Prelude.{IfErr, IsErr, OnOk}
use Rattle.sector_model.specs.declared.refusal.Refusal.{Refusal}
use Rattle.sector_model.specs.declared.refusal.Refusal.TheVariants.{BadCount, BadLine, ReadFault, TwoLost, Worn, WriteFault}
use Rattle.scrub.specs.Scrubbing.{Report}
use Rattle.set_commands.specs.Run.{Streams, streams}
use Rattle.volume_table.specs.Stands.{StoreView}
use Rattle.volume_table.specs.VolumeStep.{Command}
use Rattle.server.proofs.Coming.{ready_read, stops_still}
use Rattle.server.proofs.Reading.{ReadsSome}
use Rattle.server.specs.Ends.{Comes, Commits, CommitsNow, HasCome, IsForGood, NoneWaits, ServerState, Stops, StopsForGood, StopsReady}

-- what is said of an answer that is none
pub not_done : (X : Type 0) (taken : Result (Unit {0}) Refusal) → IsErr taken → OnOk taken X
not_done X (Ok done) is = absurd (false≢true is)
not_done X (Err refusal) is = tt

-- the store goes on, where it stopped for nothing good
pub goes_on : (Going : Type 0) (taken : Result (Unit {0}) Refusal) → OnOk taken Going → IfErr taken (λ refusal. ¬ IsForGood refusal → Going)
    → IfErr taken (λ refusal. ¬ IsForGood refusal) → Going
goes_on Going (Ok done) done_going still not = done_going
goes_on Going (Err refusal) done_going still not = still not

module _ (honest : Type 0) (start : StoreView) (was : Streams) where
  -- where it stopped for good, nothing else counts
  pub good_ready : (is : ServerState) (refusal : Refusal) → IsForGood refusal → Stops honest start was refusal is
      → StopsReady honest start was is.store is.streams refusal
  good_ready is TwoLost good stops = stops
  good_ready is Worn good stops = stops
  good_ready is WriteFault good stops = stops
  good_ready is refusal good stops = absurd good

  pub taken_for_good : (is : ServerState) (so_far : Report) (taken : Result (Unit {0}) Refusal) → IfErr taken IsForGood → IsErr taken
      → Comes honest start was [] 0 [] taken is → Commits honest start was [] 0 [] taken is.store is.streams so_far
  taken_for_good is so_far (Ok done) good none comes = absurd (false≢true none)
  taken_for_good is so_far (Err refusal) good none comes = good_ready is refusal good comes

  -- how far it had come
  pub record HadCome (is : ServerState) : Type 0 where
    pub left : ℕ
    pub ahead : List ℕ
    pub come : HasCome honest start was [] left ahead is

  had_stopped : (is : ServerState) (refusal : Refusal) → ¬ IsForGood refusal → Stops honest start was refusal is → HadCome is
  had_stopped is TwoLost not stops = absurd (not tt)
  had_stopped is Worn not stops = absurd (not tt)
  had_stopped is WriteFault not stops = absurd (not tt)
  had_stopped is ReadFault not stops = record { left = stops.left; ahead = stops.ahead; come = stops.come }
  had_stopped is BadLine not stops = record { left = stops.left; ahead = stops.line ++ 10 ∷ []; come = stops.come }
  had_stopped is BadCount not stops = record { left = stops.left; ahead = stops.line ++ 10 ∷ []; come = stops.come }
  had_stopped is refusal not stops = absurd stops

  pub had_come : (is : ServerState) (taken : Result (Unit {0}) Refusal) → IfErr taken (λ refusal. ¬ IsForGood refusal)
      → Comes honest start was [] 0 [] taken is → HadCome is
  had_come is (Ok done) not comes = record { left = 0; ahead = []; come = comes }
  had_come is (Err refusal) not comes = had_stopped is refusal not comes

  -- then it was committed
  then_stopped : (is : ServerState) (store : StoreView) (then : Streams) (so_far : Report) (refusal : Refusal)
      → ((left : ℕ) (ahead : List ℕ) → HasCome honest start was [] left ahead is → NoneWaits honest start was [] left ahead store then so_far)
      → ¬ IsForGood refusal → Stops honest start was refusal is → StopsReady honest start was store then refusal
  then_stopped is store then so_far TwoLost commit not stops = absurd (not tt)
  then_stopped is store then so_far Worn commit not stops = absurd (not tt)
  then_stopped is store then so_far WriteFault commit not stops = absurd (not tt)
  then_stopped is store then so_far ReadFault commit not stops =
      record { left = stops.left; ahead = stops.ahead; come = (so_far, commit stops.left stops.ahead stops.come) }
  then_stopped is store then so_far BadLine commit not stops = record {
    left = stops.left;
    line = stops.line;
    unbroken = stops.unbroken;
    bad = stops.bad;
    come = (so_far, commit stops.left (stops.line ++ 10 ∷ []) stops.come);
  }
  then_stopped is store then so_far BadCount commit not stops = record {
    left = stops.left;
    line = stops.line;
    unbroken = stops.unbroken;
    bad = stops.bad;
    come = (so_far, commit stops.left (stops.line ++ 10 ∷ []) stops.come);
  }
  then_stopped is store then so_far refusal commit not stops = absurd stops

  pub then_commits : (is : ServerState) (store : StoreView) (then : Streams) (so_far : Report) (taken : Result (Unit {0}) Refusal)
      → ((left : ℕ) (ahead : List ℕ) → HasCome honest start was [] left ahead is → NoneWaits honest start was [] left ahead store then so_far)
      → IfErr taken (λ refusal. ¬ IsForGood refusal) → Comes honest start was [] 0 [] taken is → Commits honest start was [] 0 [] taken store then so_far
  then_commits is store then so_far (Ok done) commit not comes = commit 0 [] comes
  then_commits is store then so_far (Err refusal) commit not comes = then_stopped is store then so_far refusal commit not comes

  -- or that stopped it for good
  pub good_to_ready : (store : StoreView) (is : Streams) (refusal : Refusal) → StopsForGood honest start was store is refusal
      → StopsReady honest start was store is refusal
  good_to_ready store is refusal stops =
      stops_still honest start was store is (λ l a. ⊥) (λ l a. (so_far : Report) × NoneWaits honest start was [] l a store is so_far) refusal
      (λ l a no. absurd no) stops

  pub now_commits : (parts : List Command) (left : ℕ) (ahead : List ℕ) (store : StoreView) (is : Streams) (so_far : Report)
      (result : Result (Unit {0}) Refusal) → CommitsNow honest start was parts left ahead result store is so_far
      → Commits honest start was parts left ahead result store is so_far
  now_commits parts left ahead store is so_far (Ok done) commits = commits
  now_commits parts left ahead store is so_far (Err refusal) commits = good_to_ready store is refusal commits

  -- the reader failed, or the input ended, where nothing waits
  pub unread_ready : (left : ℕ) (ahead : List ℕ) (store : StoreView) (remaining remaining' contents : Option (List ℕ)) (so_far : Report) (refusal : Refusal)
      → refusal ≡ ReadFault → ReadsSome remaining remaining' → NoneWaits honest start was [] left ahead store (streams remaining contents) so_far
      → StopsReady honest start was store (streams remaining' contents) refusal
  unread_ready left ahead store remaining remaining' contents so_far refusal is more ready =
      subst (λ (r : Refusal). StopsReady honest start was store (streams remaining' contents) r) (sym is) record {
        left = left;
        ahead = ahead ++ more.0;
        come = (so_far, ready_read honest start was left ahead more.0 store remaining remaining' contents so_far more.1 ready);
      }
