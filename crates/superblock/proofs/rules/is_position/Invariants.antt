-- Of the slots so far only members are rebuilding, and where one is, the position is below the number of rows.
use Rattle.std.proofs.Common.{◌≡◌, ◌≢◌, ◌<◌, ℕ, true, false}
use Rattle.layout_map.specs.Placement.{rows_of}
use Rattle.superblock.specs.declared.state.State.TheVariants.{Rebuilding}
use Rattle.superblock.specs.Tables.{state_at}
use Rattle.superblock.proofs.rules.is_position.Given as goal

abbrev pub invariant-loop-slot : goal.invariant-loop-slot
invariant-loop-slot l = record {
  none : l.is_rebuilding ≡ false → (k : ℕ) → k < l.slot → state_at l.states k ≢ Rebuilding;
  some : l.is_rebuilding ≡ true → (k : ℕ) × (state_at l.states k ≡ Rebuilding);
  of_member : (k : ℕ) → k < l.slot → state_at l.states k ≡ Rebuilding → k < l.geometry.members;
  below : (k : ℕ) → k < l.slot → state_at l.states k ≡ Rebuilding → l.position < rows_of l.geometry.chunk l.geometry.stripes;
}
