-- The flags so far are said.
use Rattle.std.proofs.Common.{◌≡◌, ℕ, ◌<◌, ◌||◌, not, true, length, get_or}
use Rattle.extents.specs.Cells.{cell, is_marked}
use Rattle.extents.proofs.codec.read_flags.Given as goal
use Rattle.layout_map.specs.declared.sizes.TheConstants.{MOST_EXTENTS}

abbrev pub invariant-loop-number : goal.invariant-loop-number
invariant-loop-number l = record {
  long : length l.to ≡ MOST_EXTENTS;
  each : (k : ℕ) → k < l.number → get_or l.to k true ≡ (not l.marks || is_marked (cell 4 128 l.first l.from k));
}
