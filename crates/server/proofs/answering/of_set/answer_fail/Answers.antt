use Rattle.server.proofs.ServedRequests.{failed}
use Rattle.server.proofs.answering.of_set.answer_fail.Goals as goal

pub returns-clause-served : goal.returns-clause-served
returns-clause-served g c = λ buffer going.
    rw (c.outcome_of.ensures buffer) (failed _ c.args.number c.said_slot.result _ _ _ c.said_slot.ensures going c.fail.ensures.fails)
