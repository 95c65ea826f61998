use Rattle.requests.proofs.DemandLemmas.{demands_one_thing}
use Rattle.requests.proofs.parse.a_line_demands_one_thing.Goals as goal

pub returns : goal.returns
returns c = demands_one_thing
