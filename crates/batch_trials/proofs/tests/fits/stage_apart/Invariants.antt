-- What waits holds writes to the volumes of the store.
use Rattle.batch_trials.specs.Waiting.{Waits}
use Rattle.batch_trials.proofs.tests.fits.stage_apart.Given as goal

abbrev pub invariant-loop-number : goal.invariant-loop-number
invariant-loop-number g l = Waits l.waiting.store l.waiting.batch
