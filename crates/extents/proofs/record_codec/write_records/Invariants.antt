-- The bytes so far spell the records so far.
use Rattle.std.proofs.Common.{◌≡◌, ◌*◌, length, take}
use Rattle.std.specs.List.{flat_map}
use Rattle.extents.specs.TableSpelling.{record_bytes}
use Rattle.extents.proofs.record_codec.write_records.Given as goal

abbrev pub invariant-loop-number : goal.invariant-loop-number
invariant-loop-number l = record {
  long : length l.to ≡ 512;
  done : take (l.width * l.number) l.to ≡ flat_map (record_bytes l.version) (take l.number l.records);
}
