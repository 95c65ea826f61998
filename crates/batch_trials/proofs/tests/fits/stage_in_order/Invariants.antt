-- What waits holds writes to the volumes of the store.
use Rattle.batch_trials.specs.Waiting.{Waits}
use Rattle.batch_trials.proofs.tests.fits.stage_in_order.Given as goal

abbrev pub invariant-loop-blocks : goal.invariant-loop-blocks
invariant-loop-blocks g l = Waits l.waiting.store l.waiting.batch
