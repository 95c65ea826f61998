use Rattle.server.proofs.ServedSets.{served_sets}
use Rattle.server.proofs.law.law_of_served_sets.Goals as goal

pub returns : goal.returns
returns g c = served_sets _
