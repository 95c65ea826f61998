use Rattle.std.proofs.Common.{rules}
use Rattle.sector_model.proofs.plan.Plan.fails.Goals as goal

pub returns-else-has_begun : goal.returns-else-has_begun
returns-else-has_begun c = search rules
