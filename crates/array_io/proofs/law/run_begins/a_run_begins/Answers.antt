use Rattle.array_io.proofs.Laws.Beginning as beginning
use Rattle.array_io.proofs.law.run_begins.a_run_begins.Goals as goal

pub returns : goal.returns
returns c = beginning.a_run_begins
