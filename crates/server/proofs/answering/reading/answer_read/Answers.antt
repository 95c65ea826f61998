use Rattle.server.proofs.ReadRanges.{range_fits, range_refused}
use Rattle.server.proofs.answering.reading.answer_read.Goals as goal

pub read_admitted-requires-clause-within : goal.read_admitted-requires-clause-within
read_admitted-requires-clause-within g c = range_fits _ _ _ _ _ c.in-Ok.ensures

pub returns-in-Ok-clause-served : goal.returns-in-Ok-clause-served
returns-in-Ok-clause-served g c = c.read_admitted.ensures.served

pub returns-in-Err-clause-honest : goal.returns-in-Err-clause-honest
returns-in-Err-clause-honest g c = (λ honest. honest, λ honest. honest)

pub returns-in-Err-clause-served : goal.returns-in-Err-clause-served
returns-in-Err-clause-served g c = λ going. range_refused _ _ _ _ _ _ c.requires.least c.requires.most going c.in-Err.ensures
