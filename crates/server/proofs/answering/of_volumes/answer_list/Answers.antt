use Rattle.server.proofs.ServedRequests.{applied}
use Rattle.server.proofs.answering.of_volumes.answer_list.Goals as goal

pub returns-in-Ok-clause-served : goal.returns-in-Ok-clause-served
returns-in-Ok-clause-served g c = λ buffer going. applied _ _ _ _ _ going c.in-Ok.ensures.lists

pub returns-in-Err-clause-served : goal.returns-in-Err-clause-served
returns-in-Err-clause-served g c = λ buffer going. applied _ _ _ _ _ going c.in-Err.ensures.lists
