-- The states of a set's slots, told apart.
use Rattle.std.specs.Prelude.{ℕ, Bool, true, false, if◌then◌else◌, List}
use Rattle.std.specs.List.{list_any, list_all}
use Rattle.superblock.specs.declared.state.State.{State}
use Rattle.superblock.specs.declared.state.State.TheVariants.{Missing, InSync, Rebuilding}

abbrev pub is_missing : State → Bool
is_missing Missing = true
is_missing state = false

abbrev pub is_in_sync : State → Bool
is_in_sync InSync = true
is_in_sync state = false

abbrev pub is_rebuilding : State → Bool
is_rebuilding Rebuilding = true
is_rebuilding state = false

-- all slots are in sync
abbrev pub is_complete : List State → Bool
is_complete states = list_all is_in_sync states

-- a member is rebuilding
abbrev pub has_rebuilding : List State → Bool
has_rebuilding states = list_any is_rebuilding states

-- the position that counts: 0 where no member is rebuilding
abbrev pub position_in : List State → ℕ → ℕ
position_in states position = if has_rebuilding states then position else 0
