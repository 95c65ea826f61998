-- A create is refused as its admission says, or grows a new volume.
use Rattle.std.proofs.Common.{Some, None, subst, ◌∙◌, ap}
use Rattle.extents.specs.SetExtents.{extents_in}
use Rattle.extents.specs.declared.volume_table.VolumeTable.{VolumeTable}
use Rattle.std.proofs.lemmas.Result.{err_from_is_err_and}
use Rattle.extents.specs.declared.extent_layout.ExtentLayout.{ExtentLayout}
use Rattle.volume_table.specs.Admission.{MayGrowTo}
use Rattle.volume_table.proofs.Admitted.{decided_by}
use Rattle.volume_table.specs.Stands.{store_of}
use Rattle.volume_table.proofs.CreatedVolumes.{create_applies, create_is_refused, takes_lowest}
use Rattle.volume_table.specs.VolumeStep.{Create, OnVolumes}
use Rattle.volume_table.proofs.EndedStore.{stays_ended}
use Rattle.volume_table.specs.OpenStore.{store_view}
use Rattle.array_io.specs.Believed.OpenArray.{array_view}
use Rattle.volume_table.proofs.store.Store.create.Goals as goal

pub returns-in_err-growth-clause-creates : goal.returns-in_err-growth-clause-creates
returns-in_err-growth-clause-creates g c =
    let p = err_from_is_err_and c.from_residual.result c.from_residual.ensures.1 in
    let before = c.args.self.now in
    let shape = before.array.table.geometry in
    rw (p.1, p.2) (create_is_refused (g.B.Bank.honest before.array.bank) c.args.name.now c.args.blocks
    (store_view before)
    c.in_err-growth.field-0.0 c.in_default.is c.in_err-growth.ensures.listed
    (λ sectors volumes by.
    decided_by (Some c.in_err-growth.field-0.0) before.table before.map (Create c.args.name.now c.args.blocks) c.of-extents.result (extents_in shape)
    c.of-extents.ensures
    c.in_err-growth.ensures.decides sectors volumes before.kept by))

pub returns-clause-honest : goal.returns-clause-honest
returns-clause-honest g c = rw c.end.ensures.array c.grow-answer.ensures.honest

pub returns-clause-creates : goal.returns-clause-creates
returns-clause-creates g c =
    let before = c.args.self.now in
    let shape = before.array.table.geometry in
    let after = c.grow-answer.new.array in
    rw (c.end.ensures.array, c.end.ensures.table, c.end.ensures.same) (create_applies (g.B.Bank.honest before.array.bank) c.args.name.now c.args.blocks
    (store_view before)
    (store_of (array_view after) c.grow-answer.new.table c.end.new.self.ended)
    before.map c.grow-answer.new.map c.in_ok-growth.growth.volume c.in_ok-growth.growth.first c.in_ok-growth.growth.entry c.grow-answer.result
    record {
      kept = before.kept;
      kept_then = c.grow-answer.ensures.kept;
      version = c.grow-answer.ensures.version;
      dirty = c.grow-answer.ensures.dirty;
      may = subst
          (λ (e : ExtentLayout). MayGrowTo e before.table.version before.table.records before.map c.in_ok-growth.growth.volume c.in_ok-growth.growth.first
          c.in_ok-growth.growth.entry) c.of-extents.ensures c.in_ok-growth.ensures.may;
      records = c.grow-answer.ensures.records;
      taken = c.grow-answer.ensures.taken;
      changes = c.grow-answer.ensures.changes;
      going = c.in_default.is;
      goes = λ answered. c.end.ensures.done answered ∙ c.in_default.is;
      ends = c.end.ensures.ended;
      true_to = λ fair. g.met.B.Bank.true_to _ (c.grow-answer.ensures.honest.0 fair);
    }
    c.in_ok-growth.ensures.lowest.unused c.in_ok-growth.ensures.named c.in_ok-growth.ensures.blocks
    (λ sectors volumes by.
    decided_by None before.table before.map (Create c.args.name.now c.args.blocks) c.of-extents.result (extents_in shape) c.of-extents.ensures
    c.in_ok-growth.ensures.decides sectors volumes before.kept by))

pub returns-clause-lowest : goal.returns-clause-lowest
returns-clause-lowest g c =
    takes_lowest c.args.self.now.table c.end.new.self.table.records c.args.name.now c.in_ok-growth.growth.volume c.in_ok-growth.growth.entry c.end.result
    c.in_ok-growth.ensures.lowest c.in_ok-growth.ensures.named (ap (λ (t : VolumeTable). t.records) c.end.ensures.table ∙ c.grow-answer.ensures.records)

pub returns-in_err-growth-clause-lowest : goal.returns-in_err-growth-clause-lowest
returns-in_err-growth-clause-lowest g c =
    let p = err_from_is_err_and c.from_residual.result c.from_residual.ensures.1 in
    rw p.1 tt

pub returns-in-Some-clause-honest : goal.returns-in-Some-clause-honest
returns-in-Some-clause-honest g c = (λ fair. fair, λ fair. fair)

pub returns-in-Some-clause-creates : goal.returns-in-Some-clause-creates
returns-in-Some-clause-creates g c =
    let its = c.args.self.now in
    stays_ended (g.B.Bank.honest its.array.bank) (OnVolumes (Create c.args.name.now c.args.blocks))
    (store_view its) c.in-Some.refusal c.in-Some.is

pub returns-in_err-growth-clause-honest : goal.returns-in_err-growth-clause-honest
returns-in_err-growth-clause-honest g c = (λ fair. fair, λ fair. fair)

pub grow-answer-requires-clause-kept : goal.grow-answer-requires-clause-kept
grow-answer-requires-clause-kept g c = c.args.self.now.kept

pub grow-answer-requires-clause-may : goal.grow-answer-requires-clause-may
grow-answer-requires-clause-may g c =
    let before = c.args.self.now in
    subst
    (λ (e : ExtentLayout). MayGrowTo e before.table.version before.table.records before.map c.in_ok-growth.growth.volume c.in_ok-growth.growth.first
    c.in_ok-growth.growth.entry) c.of-extents.ensures c.in_ok-growth.ensures.may

pub invariant_of-self : goal.invariant_of-self
invariant_of-self g c = record { kept = c.args.self.now.kept }
