use Rattle.server.proofs.ServedRequests.{told_status}
use Rattle.server.proofs.answering.of_set.answer_status.Goals as goal

pub returns-in-Ok : goal.returns-in-Ok
returns-in-Ok g c = λ buffer going. told_status _ _ _ (c.in-Ok.ensures.text going) going

pub returns-in-Err : goal.returns-in-Err
returns-in-Err g c = λ buffer going. told_status _ _ _ (c.in-Err.ensures.memory going) going
