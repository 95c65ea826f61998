use Rattle.server.proofs.Asked.{end_is_asking, serving_is_asking}
use Rattle.server.proofs.law.law_of_serving.Goals as goal

pub returns-clause-serving : goal.returns-clause-serving
returns-clause-serving c = serving_is_asking

pub returns-clause-end : goal.returns-clause-end
returns-clause-end c = end_is_asking
