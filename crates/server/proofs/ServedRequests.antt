-- What a call of a store answers is what a request is served with.
use Rattle.std.proofs.Common.{◌≡◌, ◌⊎◌, inl, inr, ℕ, ◌≤◌, List, false, Some, None, Result, Ok, Err, refl, sym, ap, subst, ◌∙◌}
use Rattle.sector_model.specs.declared.refusal.Refusal.{Refusal}
use Rattle.sector_model.specs.declared.refusal.Refusal.TheVariants.{NotMissing, TwoLost, Worn}
use Rattle.layout_map.specs.declared.geometry.Geometry.{Geometry}
use Rattle.array_io.specs.Believed.Views.{ArrayView, EndsIt, IsEndOf}
use Rattle.rebuild.specs.Rebuilding.{Position, Progress}
use Rattle.serde_json.specs.Data.{Data}
use Rattle.serde_json.specs.Written.{compact_text, has_float}
use Rattle.layout_map.specs.Placement.{rows_of}
use Rattle.report.specs.Report.{status_json}
use Rattle.set_commands.proofs.Served.{no_float}
use Rattle.set_commands.specs.Steps.{Rebuilds, Steps, none_made, then_made}
use Rattle.volume_table.specs.declared.event.TheConstants.{MOST_ZEROED_AT_ONCE}
use Rattle.volume_table.specs.Staging.{CommitsStaged}
use Rattle.volume_table.specs.Stands.{StoreView}
use Rattle.volume_table.specs.StoreCalls.{Applies, EndsStore}
use Rattle.volume_table.specs.StoreFunctions.{Answer, FailsSlot, RebuildsRows, TellsStatus, done_reply, status_view}
use Rattle.volume_table.specs.declared.status.Status.{Status}
use Rattle.volume_table.specs.VolumeStep.{Blocks, Command, Done, OnVolumes, Progressed, Refused, Reply, Scrubbed, Volumes}
use Rattle.volume_table.specs.Zeroing.{AreCommittedInTurn, CommitsInTurn, Zeroes, ZeroesBlocks, RefusesZero, commit_then, none_committed}
use Rattle.requests.specs.Demands.{FailSlot, OnVolumes as Asks, RebuildSteps, ReplaceSlot, Status as AsksStatus, ZeroBlocks}
use Rattle.server.specs.Answers.{EndsServing, IsMissingSlot, IsServed, StatusIsTold, TellsProgress, TellsRefusal, TellsStatus as Tells, Told, done_told, progress_told, reply_told, slot_of}

-- ---- commands on volumes

-- a reply that ends the store ends serving
ends_serving : (reply : Reply) → EndsStore reply → EndsServing (reply_told reply)
ends_serving (Refused refusal) ends = ends
ends_serving Done ends = ends
ends_serving (Blocks blocks) ends = ends
ends_serving (Volumes volumes) ends = ends
ends_serving (Progressed progress) ends = ends
ends_serving (Scrubbed rows bad first_bad) ends = ends

pub applied : (honest : Type 0) (command : Command) (old new : StoreView) (reply : Reply) → old.ended ≡ None → Applies honest (OnVolumes command) old new reply
    → IsServed honest (Asks command) old new (reply_told reply)
applied honest command old new reply going applies =
    let through = applies.going going in
    record {
      answers = (reply, applies, refl);
      going = λ goes. through.goes (λ ends. goes (ends_serving reply ends));
      geometry = through.goes_on.not_older.same_geometry;
    }

-- a command that is answered with no more than that it was done
pub done_applied : (honest : Type 0) (command : Command) (old new : StoreView) (answer : Answer) → old.ended ≡ None
    → Applies honest (OnVolumes command) old new (done_reply answer) → IsServed honest (Asks command) old new (done_told answer)
done_applied honest command old new (Ok done) going applies = applied honest command old new Done going applies
done_applied honest command old new (Err refusal) going applies = applied honest command old new (Refused refusal) going applies

-- ---- blocks that are made zero

-- a store that goes on, with the shape that its set had
record GoesAlike (old new : StoreView) : Type 0 where
  pub going : new.ended ≡ None
  pub geometry : new.array.table.geometry ≡ old.array.table.geometry

goes_same : (old new : StoreView) → old.ended ≡ None → new ≡ old → GoesAlike old new
goes_same old new going same = record { going = ap (λ (s : StoreView). s.ended) same ∙ going; geometry = ap (λ (s : StoreView). s.array.table.geometry) same }

goes_committing : (honest : Type 0) (writes : List Command) (old new : StoreView) → old.ended ≡ None
    → AreCommittedInTurn honest writes old new → GoesAlike old new
goes_committing honest writes old new going none_committed = record { going = going; geometry = refl }
goes_committing honest writes old new going (commit_then mid first commits true_to more) =
    let step = commits.going going in
    let rest = goes_committing honest _ mid new (step.goes refl) more in
    record { going = rest.going; geometry = rest.geometry ∙ step.goes_on.not_older.same_geometry }

end_of : (old new : ArrayView) (counter : Type 0) (refusal : Refusal) → IsEndOf old new counter refusal → EndsIt refusal
end_of old new counter TwoLost end = tt
end_of old new counter Worn end = tt
end_of old new counter refusal end = absurd end

-- how commits in turn leave a store
record LeavesServing (old new : StoreView) (told : Told) : Type 0 where
  pub going : ¬ EndsServing told → new.ended ≡ None
  pub geometry : new.array.table.geometry ≡ old.array.table.geometry

left_committing : (honest : Type 0) (writes : List Command) (old new : StoreView) (answer : Answer) → old.ended ≡ None
    → CommitsInTurn honest writes old new answer → LeavesServing old new (done_told answer)
left_committing honest writes old new (Ok done) going commits =
    let all = goes_committing honest writes old new going commits in
    record { going = λ goes. all.going; geometry = all.geometry }
left_committing honest writes old new (Err refusal) going commits =
    let before = goes_committing honest commits.done old commits.mid going commits.before in
    let last = commits.ends.going before.going in
    record {
      going = λ goes. absurd (goes (end_of commits.mid.array new.array _ refusal (last.ends refusal refl).1));
      geometry = last.goes_on.not_older.same_geometry ∙ before.geometry;
    }

left_zeroing : (honest : Type 0) (name : List ℕ) (at count : ℕ) (old new : StoreView) (answer : Answer) → old.ended ≡ None
    → RefusesZero old name at count new answer ⊎ ZeroesBlocks honest name at count old new answer → LeavesServing old new (done_told answer)
left_zeroing honest name at count old new answer going (inl refuses) =
    let alike = goes_same old new going refuses.same in
    record { going = λ goes. alike.going; geometry = alike.geometry }
left_zeroing honest name at count old new answer going (inr zeroes) = left_committing honest zeroes.writes old new answer going zeroes.commits

pub zeroed : (honest : Type 0) (name : List ℕ) (at count : ℕ) (old new : StoreView) (answer : Answer) → 1 ≤ count → count ≤ MOST_ZEROED_AT_ONCE
    → old.ended ≡ None → Zeroes honest name at count old new answer → IsServed honest (ZeroBlocks name at count) old new (done_told answer)
zeroed honest name at count old new answer least most going zeroes =
    let left = left_zeroing honest name at count old new answer going (zeroes.going going) in
    record { answers = (least, most, (answer, zeroes, refl)); going = left.going; geometry = left.geometry }

-- ---- the set

pub failed : (honest : Type 0) (number slot : ℕ) (old new : StoreView) (answer : Answer) → slot ≡ slot_of number → old.ended ≡ None
    → FailsSlot honest slot old new answer → IsServed honest (FailSlot number) old new (done_told answer)
failed honest number slot old new (Ok done) is going fails =
    let through = fails.going going in
    record {
      answers = (Ok done, subst (λ (s : ℕ). FailsSlot honest s old new (Ok done)) is fails, refl);
      going = λ goes. through.goes (λ ends. ends);
      geometry = through.goes_on.not_older.same_geometry;
    }
failed honest number slot old new (Err refusal) is going fails =
    let through = fails.going going in
    record {
      answers = (Err refusal, subst (λ (s : ℕ). FailsSlot honest s old new (Err refusal)) is fails, refl);
      going = λ goes. through.goes (λ ends. goes ends);
      geometry = through.goes_on.not_older.same_geometry;
    }

-- nothing is done where a slot is not to be replaced
pub unreplaced : (honest : Type 0) (number : ℕ) (store : StoreView) → ¬ IsMissingSlot store.array.table (slot_of number) → store.ended ≡ None
    → IsServed honest (ReplaceSlot number) store store (TellsRefusal NotMissing)
unreplaced honest number store there going = record {
  answers = record { there = there; refused = refl; same = refl };
  going = λ goes. going;
  geometry = refl;
}

-- nor where a status is told
pub told_status : (honest : Type 0) (store : StoreView) (told : Told) → StatusIsTold store told → store.ended ≡ None
    → IsServed honest AsksStatus store store told
told_status honest store told is going = record { answers = (is, refl); going = λ goes. going; geometry = refl }

goes_stepping : (honest : Type 0) (made : ℕ) (old new : StoreView) → old.ended ≡ None → Steps honest made old new → GoesAlike old new
goes_stepping honest made old new going (none_made none same) = goes_same old new going same
goes_stepping honest made old new going (then_made before position mid more steps rebuilds) =
    let was = goes_stepping honest before old mid going steps in
    let through = rebuilds.going was.going in
    record { going = through.goes (λ ends. ends); geometry = through.goes_on.not_older.same_geometry ∙ was.geometry }

left_stepping : (honest : Type 0) (rows : ℕ) (geometry : Geometry) (old new : StoreView) (answer : Result Progress Refusal) → old.ended ≡ None
    → RebuildsRows honest rows old new answer → LeavesServing old new (progress_told geometry answer)
left_stepping honest rows geometry old new (Ok progress) going rebuilds =
    let through = rebuilds.going going in
    record { going = λ goes. through.goes (λ ends. ends); geometry = through.goes_on.not_older.same_geometry }
left_stepping honest rows geometry old new (Err refusal) going rebuilds =
    let through = rebuilds.going going in
    record { going = λ goes. through.goes (λ ends. goes ends); geometry = through.goes_on.not_older.same_geometry }

pub rebuilt : (honest : Type 0) (steps : ℕ) (old new : StoreView) (answer : Result Progress Refusal) → old.ended ≡ None
    → Rebuilds honest (Some steps) old new answer → IsServed honest (RebuildSteps steps) old new (progress_told new.array.table.geometry answer)
rebuilt honest steps old new answer going rebuilds =
    let before = goes_stepping honest rebuilds.before old rebuilds.mid going rebuilds.steps_before in
    let last = left_stepping honest _ new.array.table.geometry rebuilds.mid new answer before.going rebuilds.last in
    record { answers = (answer, rebuilds, refl); going = last.going; geometry = last.geometry ∙ before.geometry }

-- how far it came, told with what the set is
pub rebuilt_to : (honest : Type 0) (steps rows : ℕ) (old new : StoreView) (progress : Progress) → old.ended ≡ None
    → rows ≡ rows_of new.array.table.geometry.chunk new.array.table.geometry.stripes → Rebuilds honest (Some steps) old new (Ok progress)
    → IsServed honest (RebuildSteps steps) old new (TellsProgress new.array.table.geometry.format rows progress)
rebuilt_to honest steps rows old new progress going is rebuilds =
    subst (λ (n : ℕ). IsServed honest (RebuildSteps steps) old new (TellsProgress new.array.table.geometry.format n progress)) (sym is)
    (rebuilt honest steps old new (Ok progress) going rebuilds)

-- ---- the status

-- the text of a status
pub status_is_told : (store : StoreView) (status : Status) (value : Data) (text : List ℕ) → TellsStatus store (Ok (status_view status))
    → value ≡ status_json status → (has_float value ≡ false → text ≡ compact_text value) → StatusIsTold store (Tells text)
status_is_told store status value text tells same written = (status, tells, written (ap has_float same ∙ no_float status) ∙ ap compact_text same)
