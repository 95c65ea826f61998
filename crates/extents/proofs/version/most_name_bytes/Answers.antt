use Rattle.std.proofs.Common.{rules}
use Rattle.extents.specs.Versions.{most_name_bytes}
use Rattle.extents.proofs.version.most_name_bytes.Goals as goal

pub returns-then-version-eq-FIRST_VERSION : goal.returns-then-version-eq-FIRST_VERSION
unfolding most_name_bytes
returns-then-version-eq-FIRST_VERSION c = search rules

pub returns-else-version-eq-FIRST_VERSION : goal.returns-else-version-eq-FIRST_VERSION
unfolding most_name_bytes
returns-else-version-eq-FIRST_VERSION c = search rules
