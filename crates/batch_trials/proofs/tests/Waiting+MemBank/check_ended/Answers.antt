-- In the batch that begins nothing waits.
use Rattle.std.proofs.Common.{rules, ◌≡◌, []}
use Rattle.batch.specs.Batches.{waiting}
use Rattle.extents.specs.SetExtents.{extents_in}
use Rattle.batch_trials.proofs.StagedSome.{none_held}
use Rattle.batch_trials.proofs.tests.Waiting+MemBank.check_ended.Goals as goal

pub returns : goal.returns
returns g c =
    let store = c.check_ended.new.store in
    let none : waiting c.expect-batch.result ≡ [] = search rules in
    record { held = none_held (extents_in store.array.table.geometry) store.table (waiting c.expect-batch.result) none }
