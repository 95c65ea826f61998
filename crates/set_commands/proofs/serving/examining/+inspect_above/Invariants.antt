-- So many inspections are left.
use Rattle.set_commands.proofs.serving.examining.+inspect_above.Given as goal

abbrev pub decreases-inspect_above : goal.decreases-inspect_above
decreases-inspect_above g l = l.most
