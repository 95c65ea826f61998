use Rattle.server.proofs.ServedRequests.{unreplaced}
use Rattle.server.proofs.answering.of_set.answer_replace.Goals as goal

pub returns : goal.returns
returns g c = λ buffer going. unreplaced _ c.args.number _ c.requires going
