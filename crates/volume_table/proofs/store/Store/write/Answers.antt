-- A write is refused as its admission says, or writes its blocks by one call.
use Rattle.std.proofs.Common.{◌∙◌, [], length, refl, sym, subst}
use Rattle.std.proofs.lemmas.List.Elements.{All-from_get_or}
use Rattle.std.proofs.lemmas.Result.{err_from_is_err_and}
use Rattle.volume_table.specs.Stands.{store_of}
use Rattle.volume_table.specs.Volumes.{IsBlock}
use Rattle.volume_table.proofs.KeptMaps.{within_fits, within_is_placed, within_least, within_most, kept_sized}
use Rattle.volume_table.proofs.TooMany.{few_if_done}
use Rattle.volume_table.proofs.WrittenVolumes.{write_applies, write_is_refused}
use Rattle.layout_map.specs.declared.geometry.Geometry.{Geometry}
use Rattle.volume_table.specs.Admission.{AreKept}
use Rattle.volume_table.proofs.EndedStore.{stays_ended}
use Rattle.volume_table.specs.VolumeStep.{OnVolumes, Write}
use Rattle.volume_table.specs.OpenStore.{store_view}
use Rattle.array_io.specs.Believed.OpenArray.{array_view}
use Rattle.volume_table.proofs.store.Store.write.Goals as goal
use Rattle.extents.specs.SetExtents.{extents_in}

pub returns-in_err-volume-clause-writes : goal.returns-in_err-volume-clause-writes
returns-in_err-volume-clause-writes g c =
    let p = err_from_is_err_and c.from_residual.result c.from_residual.ensures.1 in
    let before = c.args.self.now in
    rw (p.1, p.2) (write_is_refused (g.B.Bank.honest before.array.bank) c.args.name.now c.args.at c.args.from.now
    (store_view before)
    c.in_err-volume.field-0.0 c.in_default.is c.in_err-volume.ensures.listed c.in_err-volume.ensures.decides)

pub write_blocks-answer-requires-clause-least : goal.write_blocks-answer-requires-clause-least
write_blocks-answer-requires-clause-least g c =
    within_least c.args.self.now.table.records c.args.name.now c.in_ok-volume.volume c.args.at (length c.args.from.now) c.in_ok-volume.ensures.found

pub write_blocks-answer-requires-clause-most : goal.write_blocks-answer-requires-clause-most
write_blocks-answer-requires-clause-most g c =
    within_most c.args.self.now.table.records c.args.name.now c.in_ok-volume.volume c.args.at (length c.args.from.now) c.in_ok-volume.ensures.found

pub write_blocks-answer-requires-clause-within : goal.write_blocks-answer-requires-clause-within
write_blocks-answer-requires-clause-within g c =
    within_fits c.args.self.now.table.records c.args.name.now c.in_ok-volume.volume c.args.at (length c.args.from.now) c.in_ok-volume.ensures.found

pub write_blocks-answer-requires-clause-placed : goal.write_blocks-answer-requires-clause-placed
write_blocks-answer-requires-clause-placed g c =
    within_is_placed (extents_in c.args.self.now.array.table.geometry) c.args.self.now.table c.args.self.now.map c.args.name.now c.in_ok-volume.volume c.args.at
    (length c.args.from.now)
    c.args.self.now.kept c.in_ok-volume.ensures.found

pub returns-clause-few : goal.returns-clause-few
returns-clause-few g c =
    few_if_done c.args.self.now.table.records c.args.name.now c.in_ok-volume.volume c.args.at (length c.args.from.now) c.end.result c.in_ok-volume.ensures.found

pub returns-clause-writes : goal.returns-clause-writes
returns-clause-writes g c =
    let before = c.args.self.now in
    let after = c.write_blocks-answer.new.array in
    rw (c.end.ensures.array, c.end.ensures.table, c.end.ensures.same)
    (write_applies (g.B.Bank.honest before.array.bank) c.args.name.now c.args.at c.args.from.now
    (store_view before)
    (store_of (array_view after) before.table c.end.new.self.ended)
    before.map c.in_ok-volume.volume c.write_blocks-answer.result c.in_default.is before.kept c.in_ok-volume.ensures.found
    (All-from_get_or IsBlock c.args.from.now [] c.told-from) c.in_ok-volume.ensures.decides
    (λ fair. g.met.B.Bank.true_to _ (c.write_blocks-answer.ensures.honest.0 fair)) c.write_blocks-answer.ensures.changes refl
    (λ answered. c.end.ensures.done answered ∙ c.in_default.is) c.end.ensures.ended)

pub returns-in-Some-clause-honest : goal.returns-in-Some-clause-honest
returns-in-Some-clause-honest g c = (λ fair. fair, λ fair. fair)

pub returns-in-Some-clause-writes : goal.returns-in-Some-clause-writes
returns-in-Some-clause-writes g c =
    let its = c.args.self.now in
    stays_ended (g.B.Bank.honest its.array.bank) (OnVolumes (Write c.args.name.now c.args.at c.args.from.now))
    (store_view its) c.in-Some.refusal c.in-Some.is

pub returns-in_err-volume-clause-honest : goal.returns-in_err-volume-clause-honest
returns-in_err-volume-clause-honest g c = (λ fair. fair, λ fair. fair)

pub returns-in_err-volume-clause-few : goal.returns-in_err-volume-clause-few
returns-in_err-volume-clause-few g c =
    let p = err_from_is_err_and c.from_residual.result c.from_residual.ensures.1 in
    rw p.1 tt

pub write_blocks-answer-requires-clause-sized : goal.write_blocks-answer-requires-clause-sized
write_blocks-answer-requires-clause-sized g c = kept_sized (extents_in c.args.self.now.array.table.geometry) c.args.self.now.table c.args.self.now.map
    c.args.self.now.kept

pub invariant_of-self : goal.invariant_of-self
invariant_of-self g c = record {
  kept = subst (λ (s : Geometry). AreKept (extents_in s) c.args.self.now.table c.args.self.now.map)
      (sym c.write_blocks-answer.ensures.changes.goes_on.not_older.same_geometry) c.args.self.now.kept;
}

pub returns-clause-honest : goal.returns-clause-honest
returns-clause-honest g c = rw c.end.ensures.array c.write_blocks-answer.ensures.honest
