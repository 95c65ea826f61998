-- Tables that differ from the one before in one slot.
use Rattle.std.specs.Prelude.{◌≡◌, ◌≢◌, ℕ, ◌+◌, ◌<◌, ◌≤◌}
use Rattle.superblock.specs.declared.state.State.TheVariants.{InSync}
use Rattle.superblock.specs.declared.table.Table.{Table}
use Rattle.superblock.specs.NextTables.{slots_of}
use Rattle.superblock.specs.Tables.{incarnation_at, state_at}

-- The table of the next generation, which differs from the old one in this slot alone; all other slots are in sync.
pub record IsStepAt (old new : Table) (slot : ℕ) : Type 0 where
  pub of_set : slot < slots_of old
  pub same_id : new.id ≡ old.id
  pub same_geometry : new.geometry ≡ old.geometry
  pub generation : new.generation ≡ old.generation + 1
  pub others_in_sync : (other : ℕ) → other < slots_of old → other ≢ slot → state_at old.states other ≡ InSync
  pub states : (other : ℕ) → other ≢ slot → state_at new.states other ≡ state_at old.states other
  pub incarnations : (other : ℕ) → other ≢ slot → incarnation_at new.incarnations other ≡ incarnation_at old.incarnations other
  pub incarnation : incarnation_at old.incarnations slot ≤ incarnation_at new.incarnations slot
