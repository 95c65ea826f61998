use Rattle.std.proofs.Common.{rules}
use Rattle.extents.proofs.volume_table.VolumeTable.set.Goals as goal

pub invariant_of-self : goal.invariant_of-self
invariant_of-self c = search rules

pub returns-clause-extents : goal.returns-clause-extents
returns-clause-extents c = search rules
