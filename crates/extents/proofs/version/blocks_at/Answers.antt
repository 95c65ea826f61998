use Rattle.std.proofs.Common.{rules}
use Rattle.extents.specs.Versions.{blocks_at}
use Rattle.extents.proofs.version.blocks_at.Goals as goal

pub returns-then-version-eq-FIRST_VERSION : goal.returns-then-version-eq-FIRST_VERSION
unfolding blocks_at
returns-then-version-eq-FIRST_VERSION c = search rules

pub returns-else-version-eq-FIRST_VERSION : goal.returns-else-version-eq-FIRST_VERSION
unfolding blocks_at
returns-else-version-eq-FIRST_VERSION c = search rules
