-- It is refused as its admission says, or the range is made zero.
use Rattle.std.proofs.Common.{sym, ◌∙◌, subst, arith}
use Rattle.std.proofs.lemmas.Result.{err_from_is_err_and}
use Rattle.layout_map.specs.declared.geometry.Geometry.{Geometry}
use Rattle.array_io.specs.Believed.OpenArray.{array_view}
use Rattle.extents.specs.SetExtents.{extents_in}
use Rattle.volume_table.specs.Admission.{AreKept}
use Rattle.volume_table.specs.OpenStore.{store_view}
use Rattle.volume_table.proofs.KeptMaps.{blocks_are_placed, blocks_fit, kept_sized}
use Rattle.volume_table.proofs.ZeroedRanges.{zeroes_geometry}
use Rattle.volume_table.proofs.ZeroedVolumes.{blocks_zeroed, zero_refused, zero_stays_ended}
use Rattle.volume_table.proofs.store.Store.zero.Goals as goal

pub returns-in-Some-clause-honest : goal.returns-in-Some-clause-honest
returns-in-Some-clause-honest g c = (λ fair. fair, λ fair. fair)

pub returns-in-Some-clause-zeroes : goal.returns-in-Some-clause-zeroes
returns-in-Some-clause-zeroes g c =
    let its = c.args.self.now in
    zero_stays_ended (g.B.Bank.honest its.array.bank) (store_view its) c.args.name.now c.args.at c.args.count c.in-Some.refusal c.in-Some.is

pub returns-in_err-volume-clause-honest : goal.returns-in_err-volume-clause-honest
returns-in_err-volume-clause-honest g c = (λ fair. fair, λ fair. fair)

pub returns-in_err-volume-clause-zeroes : goal.returns-in_err-volume-clause-zeroes
returns-in_err-volume-clause-zeroes g c =
    let p = err_from_is_err_and c.from_residual.result c.from_residual.ensures.1 in
    let before = c.args.self.now in
    rw (p.1, p.2) (zero_refused (g.B.Bank.honest before.array.bank) (store_view before) c.args.name.now c.args.at c.args.count c.in_err-volume.field-0.0
    c.in_default.is c.in_err-volume.ensures.listed (c.in_err-volume.ensures.decides (extents_in before.array.table.geometry)))

pub overflow_add-at : goal.overflow_add-at
overflow_add-at g c =
    omega (arith, blocks_fit c.args.self.now.table.records c.args.name.now c.in_ok-volume.volume c.args.at c.args.count c.in_ok-volume.ensures.found)

pub zero_range-answer-requires-clause-sized : goal.zero_range-answer-requires-clause-sized
zero_range-answer-requires-clause-sized g c = kept_sized (extents_in c.args.self.now.array.table.geometry) c.args.self.now.table c.args.self.now.map
    c.args.self.now.kept

pub zero_range-answer-requires-clause-within : goal.zero_range-answer-requires-clause-within
zero_range-answer-requires-clause-within g c =
    blocks_fit c.args.self.now.table.records c.args.name.now c.in_ok-volume.volume c.args.at c.args.count c.in_ok-volume.ensures.found

pub zero_range-answer-requires-clause-placed : goal.zero_range-answer-requires-clause-placed
zero_range-answer-requires-clause-placed g c =
    blocks_are_placed (extents_in c.args.self.now.array.table.geometry) c.args.self.now.table c.args.self.now.map c.args.name.now c.in_ok-volume.volume
    c.args.at c.args.count c.args.self.now.kept c.in_ok-volume.ensures.found

pub returns-clause-zeroes : goal.returns-clause-zeroes
returns-clause-zeroes g c =
    let before = c.args.self.now in
    let after = c.zero_range-answer.new.array in
    rw (c.end.ensures.array, c.end.ensures.table, c.end.ensures.same)
    (blocks_zeroed (g.B.Bank.honest before.array.bank) before.table before.map c.args.name.now c.in_ok-volume.volume c.args.at c.args.count
    (array_view before.array) (array_view after) before.ended c.end.new.self.ended c.zero_range-answer.result c.in_default.is before.kept
    c.in_ok-volume.ensures.found (c.in_ok-volume.ensures.decides (extents_in before.array.table.geometry)) c.zero_range-answer.ensures.zeroes
    (λ answered. c.end.ensures.done answered ∙ c.in_default.is) c.end.ensures.ended)

pub invariant_of-self : goal.invariant_of-self
invariant_of-self g c = record {
  kept = subst (λ (s : Geometry). AreKept (extents_in s) c.args.self.now.table c.args.self.now.map)
      (sym (zeroes_geometry _ _ _ _ _ _ _ _ c.zero_range-answer.result c.zero_range-answer.ensures.zeroes)) c.args.self.now.kept;
}

pub returns-clause-honest : goal.returns-clause-honest
returns-clause-honest g c = rw c.end.ensures.array c.zero_range-answer.ensures.honest
