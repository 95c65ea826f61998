use Rattle.server.proofs.ServedRequests.{zeroed}
use Rattle.server.proofs.answering.of_volumes.answer_zero.Goals as goal

pub returns-clause-served : goal.returns-clause-served
returns-clause-served g c = λ buffer going.
    rw (c.outcome_of.ensures buffer) (zeroed _ c.args.name.now c.args.at c.args.count _ _ _ c.requires.least c.requires.most going c.zero.ensures.zeroes)
