use Rattle.std.proofs.Common.{rules}
use Rattle.extents.specs.Versions.{most_volumes}
use Rattle.extents.proofs.version.most_volumes.Goals as goal

pub returns-then-version-eq-FIRST_VERSION : goal.returns-then-version-eq-FIRST_VERSION
unfolding most_volumes
returns-then-version-eq-FIRST_VERSION c = search rules

pub returns-else-version-eq-FIRST_VERSION : goal.returns-else-version-eq-FIRST_VERSION
unfolding most_volumes
returns-else-version-eq-FIRST_VERSION c = search rules
