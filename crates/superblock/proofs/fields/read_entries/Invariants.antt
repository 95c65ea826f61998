-- The states and incarnations of the slots so far are read.
use Rattle.std.proofs.Common.{◌≡◌, ℕ, ◌<◌, length}
use Rattle.superblock.specs.declared.table.Superblock.{Superblock}
use Rattle.superblock.specs.Spelling.{superblock_sector}
use Rattle.superblock.specs.Tables.{state_at, incarnation_at}
use Rattle.superblock.proofs.fields.read_entries.Given as goal

abbrev pub invariant-loop-slot : goal.invariant-loop-slot
invariant-loop-slot l = record {
  ten_states : length l.states ≡ 10;
  ten_incarnations : length l.incarnations ≡ 10;
  states : (s : Superblock) → l.from ≡ superblock_sector s → (k : ℕ) → k < l.slot → state_at l.states k ≡ state_at s.table.states k;
  incarnations : (s : Superblock) → l.from ≡ superblock_sector s → (k : ℕ) → k < l.slot
      → incarnation_at l.incarnations k ≡ incarnation_at s.table.incarnations k;
}
