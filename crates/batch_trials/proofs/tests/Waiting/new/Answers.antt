-- A store with nothing that waits.
use Rattle.std.proofs.Common.{rules, ◌≡◌, []}
use Rattle.batch.specs.Batches.{waiting}
use Rattle.extents.specs.SetExtents.{extents_in}
use Rattle.batch_trials.proofs.StagedSome.{none_held}
use Rattle.batch_trials.proofs.tests.Waiting.new.Goals as goal

pub returns : goal.returns
returns g c =
    let none : waiting c.expect-batch.result ≡ [] = search rules in
    record { held = none_held (extents_in c.args.store.array.table.geometry) c.args.store.table (waiting c.expect-batch.result) none }
