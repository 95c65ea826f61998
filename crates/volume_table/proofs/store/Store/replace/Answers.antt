-- A slot is given a device by the array's call, whose refusal ends the store where it is 15 or 16.
use Rattle.std.proofs.Common.{sym, subst}
use Rattle.layout_map.specs.declared.geometry.Geometry.{Geometry}
use Rattle.volume_table.specs.Admission.{AreKept}
use Rattle.volume_table.specs.Stands.{StoreView, store_of}
use Rattle.volume_table.specs.VolumeStep.{OnSet, Replace}
use Rattle.volume_table.proofs.EndedStore.{stays_ended}
use Rattle.volume_table.proofs.ReplacedDevice.{replace_applies}
use Rattle.volume_table.specs.OpenStore.{store_view}
use Rattle.array_io.specs.Believed.OpenArray.{array_view}
use Rattle.volume_table.proofs.store.Store.replace.Goals as goal
use Rattle.extents.specs.SetExtents.{extents_in}

pub returns-in-Some-clause-honest : goal.returns-in-Some-clause-honest
returns-in-Some-clause-honest g c = (λ fair. fair, λ fair. fair)

pub returns-in-Some-clause-replaces : goal.returns-in-Some-clause-replaces
returns-in-Some-clause-replaces g c =
    let its = c.args.self.now in
    stays_ended (g.B.Bank.honest its.array.bank) (OnSet (Replace c.args.slot))
    (store_view its) c.in-Some.refusal c.in-Some.is

pub invariant_of-self : goal.invariant_of-self
invariant_of-self g c = record {
  kept = subst (λ (s : Geometry). AreKept (extents_in s) c.args.self.now.table c.args.self.now.map)
      (sym c.replace-answer.ensures.replaces.goes_on.not_older.same_geometry) c.args.self.now.kept;
}

pub returns-clause-honest : goal.returns-clause-honest
returns-clause-honest g c = rw c.end_by.ensures.array c.replace-answer.ensures.honest

pub returns-clause-replaces : goal.returns-clause-replaces
returns-clause-replaces g c =
    let its = c.args.self.now in
    let left = c.replace-answer.new.array in
    let old : StoreView = store_view its in
    let new : StoreView = store_of (array_view left) c.end_by.new.self.table c.end_by.new.self.ended in
    rw (c.end_by.ensures.array, c.end_by.ensures.same) (replace_applies (g.B.Bank.honest its.array.bank) c.args.slot old new c.replace-answer.result
    record { going = c.in_default.is; same = c.end_by.ensures.table; going_on = c.end_by.ensures.going_on; ended = c.end_by.ensures.ended }
    c.replace-answer.ensures.replaces)
