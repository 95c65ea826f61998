-- What waits holds writes to the volumes of the store.
use Rattle.batch_trials.specs.Waiting.{Waits}
use Rattle.batch_trials.proofs.tests.fits.a_chunk_of_each_of_16_stripes.Given as goal

abbrev pub invariant-loop-stripe : goal.invariant-loop-stripe
invariant-loop-stripe g l = Waits l.waiting.store l.waiting.batch
