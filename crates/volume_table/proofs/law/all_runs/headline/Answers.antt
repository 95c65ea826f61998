use Rattle.volume_table.proofs.SafeRuns as safe_runs
use Rattle.volume_table.proofs.law.all_runs.headline.Goals as goal

pub returns : goal.returns
returns c = safe_runs.headline
