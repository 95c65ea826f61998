-- The owners so far are said, and where the sectors say 1,024 owners, these are the first of them.
use Rattle.std.proofs.Common.{◌≡◌, ℕ, ◌<◌, List, Option, None, length, take, get_or}
use Rattle.extents.specs.declared.owned.Owned.{Owned}
use Rattle.extents.specs.Cells.{IsSaid, OwnersHaveRoom, SayOwners, cell}
use Rattle.extents.proofs.codec.read_extents.Given as goal
use Rattle.layout_map.specs.declared.sizes.TheConstants.{MOST_EXTENTS}

abbrev pub invariant-loop-number : goal.invariant-loop-number
invariant-loop-number l = record {
  count : length l.extents.items ≡ l.number;
  said : (k : ℕ) → k < l.number → IsSaid l.marks (cell 4 128 l.first l.from k) (get_or l.extents.items k None);
  first : (extents : List (Option Owned)) → length extents ≡ MOST_EXTENTS → OwnersHaveRoom extents → SayOwners l.version l.from extents
      → l.extents.items ≡ take l.number extents;
}
