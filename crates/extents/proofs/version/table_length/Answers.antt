use Rattle.std.proofs.Common.{◌+◌, ap}
use Rattle.extents.specs.Versions.{table_length}
use Rattle.extents.proofs.version.table_length.Goals as goal

pub returns : goal.returns
unfolding table_length
returns c = ap (λ (n : _). 1 + n + 8) c.record_sectors.ensures.number
