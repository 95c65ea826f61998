-- The records so far are at their places, and where 64 records are, these are the first of them.
use Rattle.std.proofs.Common.{◌≡◌, ℕ, ◌<◌, List, Option, None, length, take, get_or}
use Rattle.extents.specs.declared.record.Record.{Record}
use Rattle.extents.specs.Cells.{IsRecordAt, AreRecordsAt}
use Rattle.extents.proofs.codec.read_records.Given as goal
use Rattle.extents.specs.declared.volume_table.TheConstants.{MOST_VOLUMES}

abbrev pub invariant-loop-number : goal.invariant-loop-number
invariant-loop-number l = record {
  count : length l.records.items ≡ l.number;
  read : (k : ℕ) → k < l.number → IsRecordAt l.version l.from k (get_or l.records.items k None);
  first : (records : List (Option Record)) → length records ≡ MOST_VOLUMES → AreRecordsAt l.version l.from records → l.records.items ≡ take l.number records;
}
