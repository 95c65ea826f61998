use Rattle.std.proofs.Common.{rules}
use Rattle.extents.proofs.volume_table.VolumeTable.record_named.Goals as goal

pub returns : goal.returns
returns c = search rules
