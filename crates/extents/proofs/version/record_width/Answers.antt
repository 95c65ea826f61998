use Rattle.std.proofs.Common.{rules}
use Rattle.extents.specs.Versions.{record_width}
use Rattle.extents.proofs.version.record_width.Goals as goal

pub returns-then-version-eq-FIRST_VERSION : goal.returns-then-version-eq-FIRST_VERSION
unfolding record_width
returns-then-version-eq-FIRST_VERSION c = search rules

pub returns-else-version-eq-FIRST_VERSION : goal.returns-else-version-eq-FIRST_VERSION
unfolding record_width
returns-else-version-eq-FIRST_VERSION c = search rules
