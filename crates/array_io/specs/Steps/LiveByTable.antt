-- Which members are live by the table of an open array.
use Rattle.std.specs.Prelude.{◌≡◌, ◌≢◌, ℕ, ◌<◌, IfSome, IsNone, Bool, true, false, List, length, slice_index_or, Option}
use Rattle.superblock.specs.declared.state.State.{State}
use Rattle.superblock.specs.declared.state.State.TheVariants.{Missing, InSync, Rebuilding}
use Rattle.superblock.specs.declared.table.Table.{Table}
use Rattle.superblock.specs.Tables.{state_at}

-- a member is live by its state: the table doesn't call it missing
abbrev pub is_there : State → Bool
is_there Missing = false
is_there InSync = true
is_there Rebuilding = true

-- the flags of the first members say which of them the table doesn't call missing
pub record AreThere (table : Table) (count : ℕ) (flags : List Bool) : Type 0 where
  pub long : length flags ≡ 10
  pub each : (member : ℕ) → member < count → slice_index_or flags member false ≡ is_there (state_at table.states member)

-- it is the member that the table calls rebuilding, with its position, and none where there is none such
pub record IsRebuildingBy (table : Table) (option : Option (ℕ × ℕ)) : Type 0 where
  pub found : IfSome option (λ one. (state_at table.states one.0 ≡ Rebuilding) × (one.1 ≡ table.position))
  pub none : IsNone option → (member : ℕ) → member < table.geometry.members → state_at table.states member ≢ Rebuilding
