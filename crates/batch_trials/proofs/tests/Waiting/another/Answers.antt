-- A batch of one write.
use Rattle.std.proofs.Common.{rules, ◌≡◌, []}
use Rattle.batch.specs.Batches.{waiting}
use Rattle.extents.specs.SetExtents.{extents_in}
use Rattle.batch_trials.proofs.StagedSome.{none_held, still_held}
use Rattle.batch_trials.proofs.tests.Waiting.another.Goals as goal

pub returns-clause-held : goal.returns-clause-held
returns-clause-held g c =
    let store = c.args.self.now.store in
    let none : waiting c.expect-batch.result ≡ [] = search rules in
    still_held c.stage-staged.ensures.stages
    (none_held (extents_in store.array.table.geometry) store.table (waiting c.expect-batch.result) none)
