-- A removal is refused as its admission says, or puts the table without the record by one call.
use Rattle.std.proofs.Common.{◌∙◌}
use Rattle.std.proofs.Props.{props}
use Rattle.std.proofs.Math.Logic.{∥∥₁_elim}
use Rattle.std.proofs.lemmas.Result.{err_from_is_err_and}
use Rattle.volume_table.specs.Stands.{store_of}
use Rattle.volume_table.proofs.RemovedVolumes.{remove_applies, remove_is_refused}
use Rattle.volume_table.specs.VolumeStep.{OnVolumes, Remove}
use Rattle.volume_table.proofs.EndedStore.{stays_ended}
use Rattle.volume_table.specs.OpenStore.{store_view}
use Rattle.array_io.specs.Believed.OpenArray.{array_view}
use Rattle.volume_table.proofs.store.Store.remove.Goals as goal

pub returns-in_err-volume-clause-removes : goal.returns-in_err-volume-clause-removes
returns-in_err-volume-clause-removes g c =
    let p = err_from_is_err_and c.from_residual.result c.from_residual.ensures.1 in
    let before = c.args.self.now in
    rw (p.1, p.2) (remove_is_refused (g.B.Bank.honest before.array.bank) c.args.name.now
    (store_view before)
    c.in_err-volume.field-0.0 c.in_default.is c.in_err-volume.ensures.listed c.in_err-volume.ensures.decides)

pub shrink-answer-requires-clause-of_table : goal.shrink-answer-requires-clause-of_table
shrink-answer-requires-clause-of_table g c = ∥∥₁_elim c.in_ok-volume.ensures.found (hlevel props) (λ it. it.of_table)

pub returns-clause-honest : goal.returns-clause-honest
returns-clause-honest g c = rw c.end.ensures.array c.shrink-answer.ensures.honest

pub returns-clause-removes : goal.returns-clause-removes
returns-clause-removes g c =
    let before = c.args.self.now in
    let after = c.shrink-answer.new.array in
    rw (c.end.ensures.array, c.end.ensures.table, c.end.ensures.same) (remove_applies (g.B.Bank.honest before.array.bank) c.args.name.now
    (store_view before)
    (store_of (array_view after) c.shrink-answer.new.table c.end.new.self.ended)
    before.map c.shrink-answer.new.map c.in_ok-volume.volume c.shrink-answer.result c.in_default.is before.kept c.shrink-answer.ensures.kept
    c.shrink-answer.ensures.version c.in_ok-volume.ensures.found
    c.shrink-answer.ensures.records c.shrink-answer.ensures.marked c.shrink-answer.ensures.given_back c.in_ok-volume.ensures.decides
    (λ fair. g.met.B.Bank.true_to _ (c.shrink-answer.ensures.honest.0 fair)) c.shrink-answer.ensures.changes
    (λ answered. c.end.ensures.done answered ∙ c.in_default.is) c.end.ensures.ended)

pub returns-in-Some-clause-honest : goal.returns-in-Some-clause-honest
returns-in-Some-clause-honest g c = (λ fair. fair, λ fair. fair)

pub returns-in-Some-clause-removes : goal.returns-in-Some-clause-removes
returns-in-Some-clause-removes g c =
    let its = c.args.self.now in
    stays_ended (g.B.Bank.honest its.array.bank) (OnVolumes (Remove c.args.name.now))
    (store_view its) c.in-Some.refusal c.in-Some.is

pub returns-in_err-volume-clause-honest : goal.returns-in_err-volume-clause-honest
returns-in_err-volume-clause-honest g c = (λ fair. fair, λ fair. fair)

pub shrink-answer-requires-clause-kept : goal.shrink-answer-requires-clause-kept
shrink-answer-requires-clause-kept g c = c.args.self.now.kept

pub invariant_of-self : goal.invariant_of-self
invariant_of-self g c = record {
  kept = c.shrink-answer.ensures.kept;
}
