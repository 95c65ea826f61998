use Rattle.std.proofs.Common.{◌≡◌, ℕ, ◌+◌, ◌<◌, [], length}
use Rattle.std.specs.Prelude.{slice_index_or}
use Rattle.extents.specs.ExtentMaps.{IsWhere}
use Rattle.volume_table.specs.StoreChanges.{no_sector}
use Rattle.volume_table.proofs.store.placing.placed.Given as goal

abbrev pub invariant-loop-i : goal.invariant-loop-i
invariant-loop-i l = record {
  as_many : length l.sectors.items ≡ l.i;
  at_sector : (j : ℕ) → j < l.i → IsWhere l.extents l.map l.volume (l.at + j) (slice_index_or l.sectors.items j no_sector).0;
  bytes : (j : ℕ) → j < l.i → (slice_index_or l.sectors.items j no_sector).1 ≡ slice_index_or l.blocks j [];
}
