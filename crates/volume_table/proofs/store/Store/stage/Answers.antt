-- A write waits as its admission says.
use Rattle.std.proofs.lemmas.Result.{err_from_is_err_and}
use Rattle.batch.specs.Batches.{waiting}
use Rattle.volume_table.specs.OpenStore.{store_view}
use Rattle.volume_table.proofs.StagedWrites.{refuses_staging, taken_as}
use Rattle.volume_table.proofs.store.Store.stage.Goals as goal

pub returns-in_err-volume-clause-stages : goal.returns-in_err-volume-clause-stages
returns-in_err-volume-clause-stages g c =
    let p = err_from_is_err_and c.from_residual.result c.from_residual.ensures.1 in
    rw (p.1, p.2) (refuses_staging (store_view c.args.self.now) c.args.name.now c.args.at c.args.from.now (waiting c.args.batch.now) c.in_err-volume.field-0.0
    c.in_default.is c.in_err-volume.ensures.listed c.in_err-volume.ensures.decides)

pub stage_part-requires-clause-within : goal.stage_part-requires-clause-within
stage_part-requires-clause-within g c = (c.args.name.now, c.in_ok-volume.ensures.found)

pub returns-clause-stages : goal.returns-clause-stages
returns-clause-stages g c =
    let is = c.stage_part.ensures.stages in
    taken_as (store_view c.args.self.now) c.args.name.now c.args.at c.args.from.now (waiting c.args.batch.now) (waiting c.stage_part.new.batch)
    c.stage_part.result c.in_default.is is.full is.few (λ taken. is.taken taken c.args.name.now c.in_ok-volume.ensures.found)
