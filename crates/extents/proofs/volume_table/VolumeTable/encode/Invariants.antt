-- The sectors so far are those of the table.
use Rattle.std.proofs.Common.{◌≡◌, ℕ, ◌<◌, [], length, get_or}
use Rattle.extents.specs.TableSpelling.{entries_in, sector_of}
use Rattle.extents.specs.Versions.{table_length}
use Rattle.extents.proofs.volume_table.VolumeTable.encode.Given as goal

abbrev pub invariant-loop-number : goal.invariant-loop-number
invariant-loop-number l = record {
  long : length l.sector-items ≡ table_length l.self.version;
  done : (k : ℕ) → k < l.number → get_or l.sector-items k [] ≡ sector_of l.self.version l.self.records (entries_in l.self) k;
}
