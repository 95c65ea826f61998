-- How a set's table goes on, and which tables may come next.
use Rattle.std.specs.Prelude.{◌≡◌, ◌≢◌, ℕ, ◌+◌, ◌<◌, ◌≤◌, nat_lt, if◌then◌else◌, List, slice_set}
use Rattle.superblock.specs.declared.state.State.{State}
use Rattle.superblock.specs.declared.state.State.TheVariants.{Missing, InSync, Rebuilding}
use Rattle.superblock.specs.declared.table.Table.{Table}
use Rattle.superblock.specs.States.{position_in}
use Rattle.superblock.specs.Tables.{state_at, incarnation_at}

-- how many slots a table's set has: the members and two journals
abbrev pub slots_of : Table → ℕ
slots_of table = table.geometry.members + 2

-- all slots are in sync
pub record IsComplete (table : Table) : Type 0 where
  pub in_sync : (slot : ℕ) → slot < slots_of table → state_at table.states slot ≡ InSync

-- a slot of the set is not in sync
pub record IsOut (table : Table) (slot : ℕ) : Type 0 where
  pub of_set : slot < slots_of table
  pub out : state_at table.states slot ≢ InSync

-- The table of the same set, or one that came after it: no number goes back.
pub record IsNotOlder (old new : Table) : Type 0 where
  pub same_id : new.id ≡ old.id
  pub same_geometry : new.geometry ≡ old.geometry
  pub generation : old.generation ≤ new.generation
  pub incarnation : (slot : ℕ) → incarnation_at old.incarnations slot ≤ incarnation_at new.incarnations slot

-- the table of the next generation, with these states, incarnations and position
pub record IsNext (old : Table) (states : List State) (incarnations : List ℕ) (position : ℕ) (new : Table) : Type 0 where
  pub same_id : new.id ≡ old.id
  pub same_geometry : new.geometry ≡ old.geometry
  pub generation : new.generation ≡ old.generation + 1
  pub has_states : new.states ≡ states
  pub has_incarnations : new.incarnations ≡ incarnations
  pub has_position : new.position ≡ position

-- the states with this slot missing
abbrev pub without_slot : Table → ℕ → List State
without_slot table slot = slice_set table.states slot Missing

-- a slot is marked missing; the position is 0 where no member is then rebuilding
abbrev pub IsMarked : Table → ℕ → Table → Type 0
IsMarked old slot new = IsNext old (without_slot old slot) old.incarnations (position_in (without_slot old slot) old.position) new

-- the state in which a slot joins: a member has no row yet, a journal is whole
abbrev pub joining_state : Table → ℕ → State
joining_state table slot = if nat_lt slot table.geometry.members then Rebuilding else InSync

-- a slot has a new device: its incarnation goes up by one, and no other
abbrev pub IsJoined : Table → ℕ → Table → Type 0
IsJoined old slot new = IsNext old (slice_set old.states slot (joining_state old slot))
    (slice_set old.incarnations slot (incarnation_at old.incarnations slot + 1)) 0 new

-- so many rows of the rebuilding member count
abbrev pub IsMoved : Table → ℕ → Table → Type 0
IsMoved old position new = IsNext old old.states old.incarnations position new

-- the rebuilding member is in sync
abbrev pub IsRebuilt : Table → ℕ → Table → Type 0
IsRebuilt old slot new = IsNext old (slice_set old.states slot InSync) old.incarnations 0 new

-- the laws of later tables
abbrev pub NotOlderInTurn : Type 0
NotOlderInTurn = (first second third : Table) → IsNotOlder first second → IsNotOlder second third → IsNotOlder first third
