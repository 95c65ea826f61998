use Rattle.extents.proofs.Tables.{flags_upgraded, table_upgraded}
use Rattle.extents.proofs.volume_table.VolumeTable.upgrade.Goals as goal

pub invariant_of-self : goal.invariant_of-self
invariant_of-self c = record {
  is_table = rw c.upgraded_version-self.ensures (table_upgraded c.args.self.now.records c.args.self.now.extents c.args.self.now.is_table);
  flags = rw c.upgraded_version-self.ensures (flags_upgraded c.args.self.now.version c.args.self.now.dirty c.args.self.now.flags);
}
