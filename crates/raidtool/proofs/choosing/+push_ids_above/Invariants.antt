-- So many ids are sought at most.
use Rattle.raidtool.proofs.choosing.+push_ids_above.Given as goal

abbrev pub decreases-push_ids_above : goal.decreases-push_ids_above
decreases-push_ids_above g l = l.most
