use Rattle.extents.proofs.IndexLemmas.{count_begins}
use Rattle.extents.proofs.extent_index.counts_of.Goals as goal

pub loop-owner-init : goal.loop-owner-init
loop-owner-init c = count_begins c.args.owners.now
