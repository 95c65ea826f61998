-- What waits holds writes to the volumes of the store.
use Rattle.batch_trials.specs.Waiting.{Waits}
use Rattle.batch_trials.proofs.tests.Waiting.stage_all.Given as goal

abbrev pub invariant-loop-number : goal.invariant-loop-number
invariant-loop-number g l = Waits l.self.store l.self.batch
