-- What each command on the set answers, and which states and position every call leaves.
use Rattle.std.specs.Prelude.{◌≡◌, Option, Some, None, ℕ, ◌+◌, Bool, not, ◌&&◌, ◌||◌, ◌==◌}
use Rattle.std.specs.Prelude.{nat_lt, nat_le, if◌then◌else◌, List, [], ◌∷◌, length, filter, map, slice_get}
use Rattle.std.specs.Prelude.{slice_index_or, slice_set}
use Rattle.sector_model.specs.declared.refusal.Refusal.{Refusal}
use Rattle.sector_model.specs.declared.refusal.Refusal.TheVariants.{WouldLose, NotMissing, NotUsable, NothingToRebuild, Incomplete}
use Rattle.layout_map.specs.declared.format.Format.{Format}
use Rattle.layout_map.specs.Formats.{rebuild_rows}
use Rattle.superblock.specs.declared.state.State.{State}
use Rattle.superblock.specs.declared.state.State.TheVariants.{Missing, InSync, Rebuilding}
use Rattle.superblock.specs.States.{has_rebuilding, is_complete, is_missing, is_rebuilding, position_in}
use Rattle.rebuild.specs.Rebuilding.{Complete, Position, stepped}
use Rattle.scrub.specs.Scrubbing.{rows_in_part}
use Rattle.volume_table.specs.VolumeStep.{SetCommand, Fail, Replace, RebuildStep, Scrub, ScrubRows, Reply}
use Rattle.volume_table.specs.VolumeStep.{Done, Progressed, Scrubbed, Check, first_refusal, or_refused}
use Rattle.volume_table.specs.VolumeStep.{Event, OnVolumes, OnSet}

-- what a set is between two calls
pub record SetState : Type 0 where
  -- slot by slot, the members first, then the two journals
  pub states : List State
  -- how many rows of the rebuilding member count; 0 where no member is rebuilding
  pub position : ℕ

-- what the devices do in a call, and what they hold
pub record Devices : Type 0 where
  -- whether the device of a slot answers a fault in the call
  pub faults : ℕ → Bool
  -- whether the device of a slot is down when the call begins, or is too short
  pub unusable : ℕ → Bool
  -- the format of the set, which says how many rows a step of a rebuild may have
  pub format : Format
  -- how many rows a member has
  pub rows : ℕ
  -- the rows that are not sound, rising
  pub unsound : List ℕ

-- the slot is one of the set's members
abbrev pub is_member : ℕ → List State → Bool
is_member slot states = nat_lt (slot + 2) (length states)

-- each slot whose device answered a fault is missing
abbrev pub with_faults : (ℕ → Bool) → List State → List State
with_faults faults [] = []
with_faults faults (state ∷ states) = (if faults 0 then Missing else state) ∷ with_faults (λ slot. faults (slot + 1)) states

-- what a call leaves, if without its faults it would leave this
abbrev pub settled : Devices → SetState → SetState
settled devices set = record {
  states = with_faults devices.faults set.states;
  position = position_in (with_faults devices.faults set.states) set.position;
}

-- the rebuilding member is in sync
abbrev pub rebuilt : List State → List State
rebuilt states = map (λ state. if is_rebuilding state then InSync else state) states

-- a joining member has no row yet, a joining journal is whole
abbrev pub joined : ℕ → SetState → SetState
joined slot set =
    if is_member slot set.states
    then (record { states = slice_set set.states slot Rebuilding; position = 0 })
    else (record { states = slice_set set.states slot InSync; position = set.position })

-- the position after a rebuild step of so many rows
abbrev pub position_after : Devices → (rows position : ℕ) → ℕ
position_after devices rows position = stepped (rebuild_rows devices.format) devices.rows rows position

-- the set after a command on it that is not refused
abbrev pub changed_set : Devices → SetCommand → SetState → SetState
changed_set devices (Fail slot) set = record { states = slice_set set.states slot Missing; position = set.position }
changed_set devices (Replace slot) set = joined slot set
changed_set devices (RebuildStep rows) set =
    if position_after devices rows set.position == devices.rows
    then (record { states = rebuilt set.states; position = 0 })
    else (record { states = set.states; position = position_after devices rows set.position })
changed_set devices Scrub set = set
changed_set devices (ScrubRows first rows) set = set

-- those of some rows that are among so many from `first` on
abbrev pub rows_within : (first count : ℕ) → List ℕ → List ℕ
rows_within first count rows = filter (λ row. nat_le first row && nat_lt row (first + count)) rows

-- the reply to a command on the set that is not refused
abbrev pub set_answer : Devices → SetCommand → SetState → Reply
set_answer devices (Fail slot) set = Done
set_answer devices (Replace slot) set = Done
set_answer devices (RebuildStep rows) set =
    if position_after devices rows set.position == devices.rows
    then Progressed Complete
    else Progressed (Position (position_after devices rows set.position))
set_answer devices Scrub set = Scrubbed devices.rows (length devices.unsound) (slice_get devices.unsound 0)
set_answer devices (ScrubRows first rows) set = Scrubbed (rows_in_part devices.rows first rows) (length (rows_within first rows devices.unsound))
    (slice_get (rows_within first rows devices.unsound) 0)

-- what a command on the set is refused with, in this order
abbrev pub set_checks : Devices → SetCommand → SetState → List Check
set_checks devices (Fail slot) set =
    (not (is_complete (slice_set set.states slot InSync)), WouldLose)
    ∷ (nat_le (length set.states) slot, NotMissing)
    ∷ []
set_checks devices (Replace slot) set =
    (nat_le (length set.states) slot || not (is_missing (slice_index_or set.states slot InSync)), NotMissing)
    ∷ (devices.unusable slot || devices.faults slot, NotUsable)
    ∷ []
set_checks devices (RebuildStep rows) set = (not (has_rebuilding (with_faults devices.faults set.states)), NothingToRebuild) ∷ []
set_checks devices Scrub set = (not (is_complete (with_faults devices.faults set.states)), Incomplete) ∷ []
set_checks devices (ScrubRows first rows) set = (not (is_complete (with_faults devices.faults set.states)), Incomplete) ∷ []

abbrev pub set_refusal : Devices → SetCommand → SetState → Option Refusal
set_refusal devices command set = first_refusal (set_checks devices command set)

abbrev pub set_reply : Devices → SetCommand → SetState → Reply
set_reply devices command set = or_refused (set_refusal devices command set) (set_answer devices command set)

-- the set after a command on it, but for faults
abbrev pub set_or_same : Option Refusal → SetState → SetState → SetState
set_or_same None new set = new
set_or_same (Some refusal) new set = set

-- the set after an event; a command on volumes changes it by faults alone
abbrev pub set_after : Devices → Event → SetState → SetState
set_after devices (OnVolumes command) set = settled devices set
set_after devices (OnSet command) set =
    settled devices (set_or_same (set_refusal devices command set) (changed_set devices command set) set)

-- what a command on the set answers and leaves
pub record AnswersSet (devices : Devices) (command : SetCommand) (before : SetState) (reply : Reply) (left : SetState) : Type 0 where
  pub replied : reply ≡ set_reply devices command before
  pub leaves : left ≡ set_after devices (OnSet command) before
