use Rattle.array_io.proofs.Laws.Begun as begun
use Rattle.array_io.proofs.law.between_runs.a_crash_then_a_start.Goals as goal

pub returns : goal.returns
returns c = begun.a_crash_then_a_start
