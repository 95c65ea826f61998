use Rattle.std.proofs.Common.{rules}
use Rattle.extents.specs.Versions.{records_a_sector}
use Rattle.extents.proofs.version.records_a_sector.Goals as goal

pub returns-then-version-eq-FIRST_VERSION : goal.returns-then-version-eq-FIRST_VERSION
unfolding records_a_sector
returns-then-version-eq-FIRST_VERSION c = search rules

pub returns-else-version-eq-FIRST_VERSION : goal.returns-else-version-eq-FIRST_VERSION
unfolding records_a_sector
returns-else-version-eq-FIRST_VERSION c = search rules
