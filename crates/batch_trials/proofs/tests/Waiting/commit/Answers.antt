-- After a commit nothing waits.
use Rattle.batch.specs.Batches.{waiting}
use Rattle.extents.specs.SetExtents.{extents_in}
use Rattle.batch_trials.proofs.StagedSome.{none_held, same_geometry}
use Rattle.batch_trials.proofs.tests.Waiting.commit.Goals as goal

pub returns-clause-held : goal.returns-clause-held
returns-clause-held g c =
    let store = c.commit_staged.new.self in
    none_held (extents_in store.array.table.geometry) store.table (waiting c.commit_staged.new.batch) c.commit_staged.ensures.empty

pub returns-clause-set : goal.returns-clause-set
returns-clause-set g c = same_geometry (c.commit_staged.ensures.commits c.requires.held.writes c.requires.held.holds)
