-- Reads keep what waits.
use Rattle.batch.specs.Batches.{waiting}
use Rattle.batch_trials.proofs.StagedSome.{held_on}
use Rattle.batch_trials.proofs.tests.Waiting+MemBank.check_volumes.Goals as goal

pub returns : goal.returns
returns g c =
    let before = c.args.self.now.store in
    let after = c.unlike_volume.new.store in
    record {
      held = held_on before.array.table.geometry after.array.table.geometry before.table after.table (waiting c.args.self.now.batch)
          c.unlike_volume.ensures.set c.unlike_volume.ensures.volumes c.requires.held;
    }
