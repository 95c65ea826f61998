-- The extents below the index are marked, where they are the volume's.
use Rattle.std.proofs.Common.{◌≡◌, ℕ, ◌<◌, true, length}
use Rattle.extents.specs.ExtentMaps.{is_dirty}
use Rattle.extents.specs.Owners.{IsAt}
use Rattle.extents.proofs.volume_table.mark_extents.Given as goal

abbrev pub invariant-loop-extent : goal.invariant-loop-extent
invariant-loop-extent l = record {
  long : length l.dirty ≡ length l.initial.dirty;
  marked : (e place : ℕ) → e < l.extent → IsAt l.extents e l.volume place → is_dirty l.dirty e ≡ true;
  others : (e : ℕ) → ((place : ℕ) → IsAt l.extents e l.volume place → ⊥) → is_dirty l.dirty e ≡ is_dirty l.initial.dirty e;
}
