use Rattle.extents.proofs.IndexLemmas.{extents_have_places}
use Rattle.extents.proofs.extent_map.ExtentMap.count.Goals as goal

pub returns-clause-places : goal.returns-clause-places
returns-clause-places c = extents_have_places c.args.self.now c.args.volume c.extents_of.result.now c.extents_of.ensures.extents
