-- What the commands on the set keep of its states and position.
use Rattle.std.specs.Prelude.{◌≡◌, ◌≢◌, ℕ, zero, suc, ◌+◌, ◌*◌, ◌<◌, true, false, List, [], ◌∷◌, length, slice_index_or}
use Rattle.sector_model.specs.declared.refusal.Refusal.{Refusal}
use Rattle.superblock.specs.declared.state.State.{State}
use Rattle.superblock.specs.declared.state.State.TheVariants.{Missing, InSync}
use Rattle.superblock.specs.declared.table.Table.{Table}
use Rattle.volume_table.specs.VolumeStep.{Command, SetCommand, Fail, RebuildStep, Event, OnVolumes, OnSet, Done, Refused, Progressed}
use Rattle.rebuild.specs.Rebuilding.{Complete, Position, steps_left_of}
use Rattle.superblock.specs.States.{has_rebuilding}
use Rattle.volume_table.specs.SetReplies.{SetState, Devices, rebuilt, set_reply, set_after}
use Rattle.volume_table.specs.StoreCalls.{set_of}
use Rattle.layout_map.specs.Formats.{rebuild_rows}

-- no device of the set answers a fault
abbrev pub NoFaults : Devices → SetState → Type 0
NoFaults devices set = (slot : ℕ) → slot < length set.states → devices.faults slot ≡ false

-- the position is 0 where no member is rebuilding
abbrev pub IsZeroUnlessRebuilding : SetState → Type 0
IsZeroUnlessRebuilding set = has_rebuilding set.states ≡ false → set.position ≡ 0

-- a set has as many slots after each call
abbrev pub SlotsStay : Type 0
SlotsStay = (devices : Devices) (event : Event) (set : SetState) → length (set_after devices event set).states ≡ length set.states

-- whose device answered a fault is missing
abbrev pub FaultIsMissing : Type 0
FaultIsMissing = (devices : Devices) (event : Event) (set : SetState) (slot : ℕ) → slot < length set.states → devices.faults slot ≡ true
    → slice_index_or (set_after devices event set).states slot InSync ≡ Missing

abbrev pub PositionIsZero : Type 0
PositionIsZero = (devices : Devices) (event : Event) (set : SetState) → IsZeroUnlessRebuilding (set_after devices event set)

-- without a fault a command on volumes changes nothing of the set
abbrev pub VolumesLeaveSet : Type 0
VolumesLeaveSet = (devices : Devices) (command : Command) (set : SetState) → NoFaults devices set → IsZeroUnlessRebuilding set
    → set_after devices (OnVolumes command) set ≡ set

-- neither does a refused command on the set
abbrev pub RefusedLeavesSet : Type 0
RefusedLeavesSet = (devices : Devices) (command : SetCommand) (set : SetState) (refusal : Refusal) → NoFaults devices set → IsZeroUnlessRebuilding set
    → set_reply devices command set ≡ Refused refusal
    → set_after devices (OnSet command) set ≡ set

-- as many rows as a rebuild step may have
abbrev pub step_rows : Devices → ℕ
step_rows devices = rebuild_rows devices.format

-- the set after so many such steps, one after another
abbrev pub after_steps : Devices → SetState → ℕ → SetState
after_steps devices set zero = set
after_steps devices set (suc n) = set_after devices (OnSet (RebuildStep (step_rows devices))) (after_steps devices set n)

-- how many such steps are left to do, from the set's position on
abbrev pub steps_left : Devices → SetState → ℕ
steps_left devices set = steps_left_of (step_rows devices) set.position devices.rows

-- without a fault each step but the last brings the position so many rows on and answers it
abbrev pub RebuildGoesOn : Type 0
RebuildGoesOn = (devices : Devices) (set : SetState) (n : ℕ) → NoFaults devices set → has_rebuilding set.states ≡ true → n + 1 < steps_left devices set
    → (after_steps devices set (n + 1) ≡ record { states = set.states; position = set.position + step_rows devices * (n + 1) })
    × (set_reply devices (RebuildStep (step_rows devices)) (after_steps devices set n) ≡ Progressed (Position (set.position + step_rows devices * (n + 1))))

-- the last leaves the member in sync and answers that the rebuild is complete
abbrev pub RebuildIsCounted : Type 0
RebuildIsCounted = (devices : Devices) (set : SetState) (n : ℕ) → NoFaults devices set → has_rebuilding set.states ≡ true → n + 1 ≡ steps_left devices set
    → (after_steps devices set (n + 1) ≡ record { states = rebuilt set.states; position = 0 })
    × (set_reply devices (RebuildStep (step_rows devices)) (after_steps devices set n) ≡ Progressed Complete)

-- one slot at most is not in sync
abbrev pub IsOneOut : List State → Type 0
IsOneOut states = (first second : ℕ) → slice_index_or states first InSync ≢ InSync → slice_index_or states second InSync ≢ InSync → first ≡ second

-- so it is in the set of each table
abbrev pub TablesHaveOneOut : Type 0
TablesHaveOneOut = (table : Table) → IsOneOut (set_of table).states

-- an event, and what the devices did in its call
pub record Call : Type 0 where
  pub devices : Devices
  pub event : Event

-- the set after these calls, one after another
abbrev pub after_calls : List Call → SetState → SetState
after_calls [] set = set
after_calls (call ∷ calls) set = after_calls calls (set_after call.devices call.event set)

-- A call on the set of these devices that lets a rebuild go on: no device answers a fault, no slot is given up, and a rebuild step has as many rows as it may.
pub record LetsRebuildGoOn (devices : Devices) (set : SetState) (call : Call) : Type 0 where
  pub of_rows : call.devices.rows ≡ devices.rows
  pub of_format : call.devices.format ≡ devices.format
  pub no_faults : NoFaults call.devices set
  pub none_given_up : (slot : ℕ) → call.event ≡ OnSet (Fail slot) → set_reply call.devices (Fail slot) set ≢ Done
  pub whole : (rows : ℕ) → call.event ≡ OnSet (RebuildStep rows) → rows ≡ step_rows devices

-- and so do all of these calls, one after another
abbrev pub AllLetRebuildGoOn : Devices → SetState → List Call → Type 0
AllLetRebuildGoOn devices set [] = Unit {0}
AllLetRebuildGoOn devices set (call ∷ calls) =
    LetsRebuildGoOn devices set call × AllLetRebuildGoOn devices (set_after call.devices call.event set) calls

abbrev pub steps_of : Event → ℕ
steps_of (OnSet (RebuildStep rows)) = 1
steps_of event = 0

-- how many rebuild steps are among these calls
abbrev pub steps_among : List Call → ℕ
steps_among [] = 0
steps_among (call ∷ calls) = steps_of call.event + steps_among calls

-- Whatever other calls stand between the steps, each step but the last brings the position as many rows on as it may have and answers it, and no other call
-- moves it.
abbrev pub RebuildGoesOnAmongOthers : Type 0
RebuildGoesOnAmongOthers = (devices : Devices) (calls : List Call) (set : SetState) → NoFaults devices set → IsOneOut set.states
    → has_rebuilding set.states ≡ true
    → AllLetRebuildGoOn devices set calls → steps_among calls < steps_left devices set
    → (after_calls calls set ≡ record { states = set.states; position = set.position + step_rows devices * steps_among calls })
    × (steps_among calls + 1 < steps_left devices set
    → set_reply devices (RebuildStep (step_rows devices)) (after_calls calls set) ≡ Progressed
    (Position (set.position + step_rows devices * (steps_among calls + 1))))

-- and the rebuild is complete right after the last step that is left, whatever stood between
abbrev pub RebuildIsCountedAmongOthers : Type 0
RebuildIsCountedAmongOthers = (devices : Devices) (calls : List Call) (set : SetState) → NoFaults devices set → IsOneOut set.states
    → has_rebuilding set.states ≡ true
    → AllLetRebuildGoOn devices set calls → steps_among calls + 1 ≡ steps_left devices set
    → (set_after devices (OnSet (RebuildStep (step_rows devices))) (after_calls calls set) ≡ record { states = rebuilt set.states; position = 0 })
    × (set_reply devices (RebuildStep (step_rows devices)) (after_calls calls set) ≡ Progressed Complete)
