-- A rename is refused as its admission says, or puts the table with the new name by one call.
use Rattle.std.proofs.Common.{◌∙◌}
use Rattle.std.proofs.lemmas.Result.{err_from_is_err_and}
use Rattle.volume_table.specs.Stands.{store_of}
use Rattle.volume_table.proofs.RenamedVolumes.{rename_applies, rename_is_refused, rename_kept}
use Rattle.volume_table.specs.VolumeStep.{OnVolumes, Rename}
use Rattle.volume_table.proofs.EndedStore.{stays_ended}
use Rattle.volume_table.specs.OpenStore.{store_view}
use Rattle.array_io.specs.Believed.OpenArray.{array_view}
use Rattle.volume_table.proofs.store.Store.rename.Goals as goal

pub returns-in_err-renaming-clause-renames : goal.returns-in_err-renaming-clause-renames
returns-in_err-renaming-clause-renames g c =
    let p = err_from_is_err_and c.from_residual.result c.from_residual.ensures.1 in
    let before = c.args.self.now in
    rw (p.1, p.2) (rename_is_refused (g.B.Bank.honest before.array.bank) c.args.old.now c.args.new.now
    (store_view before)
    c.in_err-renaming.field-0.0 c.in_default.is c.in_err-renaming.ensures.listed c.in_err-renaming.ensures.decides)

pub returns-clause-honest : goal.returns-clause-honest
returns-clause-honest g c = rw c.end.ensures.array c.put_name-answer.ensures.honest

pub returns-clause-renames : goal.returns-clause-renames
returns-clause-renames g c =
    let before = c.args.self.now in
    let after = c.put_name-answer.new.array in
    let renaming = c.in_ok-renaming.renaming in
    rw (c.end.ensures.array, c.end.ensures.table, c.end.ensures.same) (rename_applies (g.B.Bank.honest before.array.bank) c.args.old.now c.args.new.now
    (store_view before)
    (store_of (array_view after) c.put_name-answer.new.table c.end.new.self.ended)
    before.map renaming.volume renaming.entry c.put_name-answer.result c.in_default.is before.kept c.put_name-answer.ensures.kept
    c.put_name-answer.ensures.version c.put_name-answer.ensures.dirty
    c.in_ok-renaming.ensures.used c.in_ok-renaming.ensures.may c.in_ok-renaming.ensures.named c.put_name-answer.ensures.records c.in_ok-renaming.ensures.decides
    (λ fair. g.met.B.Bank.true_to _ (c.put_name-answer.ensures.honest.0 fair)) c.put_name-answer.ensures.changes
    (λ answered. c.end.ensures.done answered ∙ c.in_default.is) c.end.ensures.ended)

pub returns-in-Some-clause-honest : goal.returns-in-Some-clause-honest
returns-in-Some-clause-honest g c = (λ fair. fair, λ fair. fair)

pub returns-in-Some-clause-renames : goal.returns-in-Some-clause-renames
returns-in-Some-clause-renames g c =
    let its = c.args.self.now in
    stays_ended (g.B.Bank.honest its.array.bank) (OnVolumes (Rename c.args.old.now c.args.new.now))
    (store_view its) c.in-Some.refusal c.in-Some.is

pub returns-in_err-renaming-clause-honest : goal.returns-in_err-renaming-clause-honest
returns-in_err-renaming-clause-honest g c = (λ fair. fair, λ fair. fair)

pub put_name-answer-requires-clause-kept : goal.put_name-answer-requires-clause-kept
put_name-answer-requires-clause-kept g c = c.args.self.now.kept

pub put_name-answer-requires-clause-may : goal.put_name-answer-requires-clause-may
put_name-answer-requires-clause-may g c = c.in_ok-renaming.ensures.may

pub invariant_of-self : goal.invariant_of-self
invariant_of-self g c = record {
  kept = c.put_name-answer.ensures.kept;
}

pub returns-clause-kept : goal.returns-clause-kept
returns-clause-kept g c =
    let before = c.args.self.now in
    let after = c.put_name-answer.new.array in
    let renaming = c.in_ok-renaming.renaming in
    rw (c.end.ensures.array, c.end.ensures.table, c.end.ensures.same) (rename_kept c.args.old.now c.args.new.now
    (store_view before)
    (store_of (array_view after) c.put_name-answer.new.table c.end.new.self.ended)
    before.map renaming.volume renaming.entry c.put_name-answer.result c.put_name-answer.ensures.changes.goes_on.not_older.same_geometry
    before.kept c.put_name-answer.ensures.kept c.put_name-answer.ensures.version c.put_name-answer.ensures.dirty
    c.in_ok-renaming.ensures.used c.in_ok-renaming.ensures.may c.in_ok-renaming.ensures.named c.put_name-answer.ensures.records
    c.put_name-answer.ensures.entry)

pub returns-in_err-renaming-clause-kept : goal.returns-in_err-renaming-clause-kept
returns-in_err-renaming-clause-kept g c =
    let p = err_from_is_err_and c.from_residual.result c.from_residual.ensures.1 in
    rw p.1 tt
