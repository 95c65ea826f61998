-- The bytes so far spell the extents so far.
use Rattle.std.proofs.Common.{◌≡◌, ◌*◌, length, take}
use Rattle.std.specs.List.{flat_map}
use Rattle.extents.specs.TableSpelling.{entries_of, entry_bytes}
use Rattle.extents.proofs.owner_codec.write_entries.Given as goal

abbrev pub invariant-loop-number : goal.invariant-loop-number
invariant-loop-number l = record {
  long : length l.to ≡ 512;
  done : take (4 * l.number) l.to ≡ flat_map entry_bytes (take l.number (entries_of l.version l.extents l.dirty));
}
