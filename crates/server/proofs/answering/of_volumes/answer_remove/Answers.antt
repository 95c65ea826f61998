use Rattle.server.proofs.ServedRequests.{done_applied}
use Rattle.server.proofs.answering.of_volumes.answer_remove.Goals as goal

pub returns-clause-served : goal.returns-clause-served
returns-clause-served g c = λ buffer going. rw (c.outcome_of.ensures buffer) (done_applied _ _ _ _ _ going c.remove.ensures.removes)
