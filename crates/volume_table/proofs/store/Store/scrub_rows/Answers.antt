-- A scrub of a part is the array's, whose refusal ends the store where it is 15 or 16.
use Rattle.std.proofs.Common.{sym, subst}
use Rattle.layout_map.specs.declared.geometry.Geometry.{Geometry}
use Rattle.scrub.specs.Reports.{told_by}
use Rattle.volume_table.specs.Admission.{AreKept}
use Rattle.volume_table.specs.Stands.{StoreView, store_of}
use Rattle.volume_table.specs.VolumeStep.{OnSet, ScrubRows}
use Rattle.volume_table.proofs.EndedStore.{stays_ended}
use Rattle.volume_table.proofs.ScrubbedSet.{kept_by_code, part_applies}
use Rattle.volume_table.specs.OpenStore.{store_view}
use Rattle.array_io.specs.Believed.OpenArray.{array_view}
use Rattle.volume_table.proofs.store.Store.scrub_rows.Goals as goal
use Rattle.extents.specs.SetExtents.{extents_in}

pub returns-in-Some-clause-honest : goal.returns-in-Some-clause-honest
returns-in-Some-clause-honest g c = (λ fair. fair, λ fair. fair)

pub returns-in-Some-clause-scrubs : goal.returns-in-Some-clause-scrubs
returns-in-Some-clause-scrubs g c =
    let its = c.args.self.now in
    stays_ended (g.B.Bank.honest its.array.bank) (OnSet (ScrubRows c.args.first c.args.rows))
    (store_view its) c.in-Some.kept c.in-Some.is

pub invariant_of-self : goal.invariant_of-self
invariant_of-self g c = record {
  kept = subst (λ (s : Geometry). AreKept (extents_in s) c.args.self.now.table c.args.self.now.map)
      (sym c.scrub_part-answer.ensures.scrubs.goes_on.not_older.same_geometry) c.args.self.now.kept;
}

pub returns-clause-honest : goal.returns-clause-honest
returns-clause-honest g c = rw c.end_by.ensures.array c.scrub_part-answer.ensures.honest

pub returns-clause-scrubs : goal.returns-clause-scrubs
returns-clause-scrubs g c =
    let its = c.args.self.now in
    let left = c.scrub_part-answer.new.array in
    let old : StoreView = store_view its in
    let new : StoreView = store_of (array_view left) c.end_by.new.self.table c.end_by.new.self.ended in
    rw (c.end_by.ensures.array, c.end_by.ensures.same) (part_applies (g.B.Bank.honest its.array.bank) c.args.first c.args.rows old new
    (told_by c.scrub_part-answer.result) record {
      kept = kept_by_code old new c.scrub_part-answer.result
          record { going = c.in_default.is; same = c.end_by.ensures.table; going_on = c.end_by.ensures.going_on; ended = c.end_by.ensures.ended };
      scrubs = c.scrub_part-answer.ensures.scrubs;
    })
