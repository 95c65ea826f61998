use Rattle.server.proofs.ServedRequests.{rebuilt, rebuilt_to}
use Rattle.server.proofs.answering.of_set.answer_rebuild.Goals as goal

pub returns-in-Ok-clause-served : goal.returns-in-Ok-clause-served
returns-in-Ok-clause-served g c = λ buffer going. rebuilt_to _ c.args.steps _ _ _ _ going c.rows.ensures c.in-Ok.ensures.rebuilds

pub returns-in-Err-clause-served : goal.returns-in-Err-clause-served
returns-in-Err-clause-served g c = λ buffer going. rebuilt _ c.args.steps _ _ _ going c.in-Err.ensures.rebuilds
