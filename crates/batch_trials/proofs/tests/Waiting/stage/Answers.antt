-- A write more, or none, waits.
use Rattle.batch_trials.proofs.StagedSome.{still_held}
use Rattle.batch_trials.proofs.tests.Waiting.stage.Goals as goal

pub returns : goal.returns
returns g c = record { held = still_held c.stage.ensures.stages c.requires.held }
