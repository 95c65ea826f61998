-- A read is refused as its admission says, or reads its blocks one after another.
use Rattle.std.proofs.Common.{length, ◌∙◌, sym, subst}
use Rattle.std.proofs.lemmas.Result.{err_from_is_err_and}
use Rattle.volume_table.specs.Stands.{store_of}
use Rattle.volume_table.proofs.KeptMaps.{within_fits, within_is_placed, kept_sized}
use Rattle.volume_table.proofs.ReadVolumes.{read_applies, read_is_refused}
use Rattle.volume_table.proofs.TooMany.{few_if_done}
use Rattle.layout_map.specs.declared.geometry.Geometry.{Geometry}
use Rattle.volume_table.specs.Admission.{AreKept}
use Rattle.volume_table.proofs.EndedStore.{stays_ended}
use Rattle.volume_table.specs.VolumeStep.{OnVolumes, Read}
use Rattle.volume_table.specs.OpenStore.{store_view}
use Rattle.array_io.specs.Believed.OpenArray.{array_view}
use Rattle.volume_table.proofs.store.Store.read.Goals as goal
use Rattle.extents.specs.SetExtents.{extents_in}

pub read_blocks-answer-requires-clause-within : goal.read_blocks-answer-requires-clause-within
read_blocks-answer-requires-clause-within g c =
    within_fits c.args.self.now.table.records c.args.name.now c.in_ok-volume.volume c.args.at (length c.args.to.now) c.in_ok-volume.ensures.found

pub read_blocks-answer-requires-clause-placed : goal.read_blocks-answer-requires-clause-placed
read_blocks-answer-requires-clause-placed g c =
    within_is_placed (extents_in c.args.self.now.array.table.geometry) c.args.self.now.table c.args.self.now.map c.args.name.now c.in_ok-volume.volume c.args.at
    (length c.args.to.now)
    c.args.self.now.kept c.in_ok-volume.ensures.found

pub returns-in_err-volume-clause-reads : goal.returns-in_err-volume-clause-reads
returns-in_err-volume-clause-reads g c =
    let its = c.args.self.now in
    let store = store_view its in
    let p = err_from_is_err_and c.from_residual.result c.from_residual.ensures.1 in
    rw (p.1, p.2) (read_is_refused (g.B.Bank.honest its.array.bank) c.args.name.now c.args.at c.args.to.now c.args.to.now store c.in_err-volume.field-0.0
    c.in_default.is
    c.in_err-volume.ensures.listed c.in_err-volume.ensures.decides)

pub returns-clause-few : goal.returns-clause-few
returns-clause-few g c =
    few_if_done c.args.self.now.table.records c.args.name.now c.in_ok-volume.volume c.args.at (length c.args.to.now) c.end.result c.in_ok-volume.ensures.found

pub returns-clause-reads : goal.returns-clause-reads
returns-clause-reads g c =
    let its = c.args.self.now in
    let left = c.read_blocks-answer.new.array in
    let old = store_view its in
    let new = store_of (array_view left) c.end.new.self.table c.end.new.self.ended in
    rw (c.end.ensures.array, c.end.ensures.same) (read_applies (g.B.Bank.honest its.array.bank) c.args.name.now c.args.at c.args.to.now
    c.read_blocks-answer.new.to old new its.map
    c.in_ok-volume.volume c.read_blocks-answer.result c.in_default.is its.kept c.in_ok-volume.ensures.found c.in_ok-volume.ensures.decides
    (λ fair. g.met.B.Bank.true_to _ (c.read_blocks-answer.ensures.honest.0 fair)) c.read_blocks-answer.ensures.changes c.read_blocks-answer.ensures.long
    c.read_blocks-answer.ensures.gives
    c.end.ensures.table (λ ok. c.end.ensures.done ok ∙ c.in_default.is) c.end.ensures.ended)

pub returns-in-Some-clause-honest : goal.returns-in-Some-clause-honest
returns-in-Some-clause-honest g c = (λ fair. fair, λ fair. fair)

pub returns-in-Some-clause-reads : goal.returns-in-Some-clause-reads
returns-in-Some-clause-reads g c =
    let its = c.args.self.now in
    stays_ended (g.B.Bank.honest its.array.bank) (OnVolumes (Read c.args.name.now c.args.at (length c.args.to.now)))
    (store_view its) c.in-Some.refusal c.in-Some.is

pub returns-in_err-volume-clause-honest : goal.returns-in_err-volume-clause-honest
returns-in_err-volume-clause-honest g c = (λ fair. fair, λ fair. fair)

pub returns-in_err-volume-clause-few : goal.returns-in_err-volume-clause-few
returns-in_err-volume-clause-few g c =
    let p = err_from_is_err_and c.from_residual.result c.from_residual.ensures.1 in
    rw p.1 tt

pub read_blocks-answer-requires-clause-sized : goal.read_blocks-answer-requires-clause-sized
read_blocks-answer-requires-clause-sized g c = kept_sized (extents_in c.args.self.now.array.table.geometry) c.args.self.now.table c.args.self.now.map
    c.args.self.now.kept

pub invariant_of-self : goal.invariant_of-self
invariant_of-self g c = record {
  kept = subst (λ (s : Geometry). AreKept (extents_in s) c.args.self.now.table c.args.self.now.map)
      (sym c.read_blocks-answer.ensures.changes.goes_on.not_older.same_geometry) c.args.self.now.kept;
}

pub returns-clause-honest : goal.returns-clause-honest
returns-clause-honest g c = rw c.end.ensures.array c.read_blocks-answer.ensures.honest
