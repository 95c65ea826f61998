-- A read keeps the geometry.
use Rattle.batch_trials.proofs.StagedSome.{applied_geometry}
use Rattle.batch_trials.proofs.tests.steps.is_read.Goals as goal

pub returns-clause-set : goal.returns-clause-set
returns-clause-set g c = applied_geometry c.read.ensures.reads
