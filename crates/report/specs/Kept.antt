-- What a line that was read keeps of its command.
use Rattle.std.specs.Prelude.{◌≡◌, ℕ, List, [], length, min, take}
use Rattle.volume_table.specs.declared.event.Event.{Event}
use Rattle.volume_table.specs.Events.{event_of}
use Rattle.volume_table.specs.Volumes.{Block}
use Rattle.volume_table.specs.VolumeStep.{Command, OnVolumes, Write}
use Rattle.report.specs.Fields.{BeginsWithNumber}
use Rattle.report.specs.Grammar.{Says}
use Rattle.report.specs.declared.parse.TheConstants.{KEPT_BLOCKS}

-- the buffer begins with as many blocks as are kept at most, or with all of them, and `kept` says how many these are
pub record AreKept (blocks : List Block) (kept : ℕ) (buffer : List Block) : Type 0 where
  pub count : kept ≡ min KEPT_BLOCKS (length blocks)
  pub first : take kept buffer ≡ take KEPT_BLOCKS blocks

-- what is kept of a command: all of it, but for the blocks of a write past so many
abbrev pub kept : Command → Command
kept (Write name at blocks) = Write name at (take KEPT_BLOCKS blocks)
kept command = command

-- the event is what is kept of the command
abbrev pub IsKept : Command → Event → Type 0
IsKept command event = event_of event ≡ OnVolumes (kept command)

-- these fields are a name and a number, and the event is what is kept of the command that has them
abbrev pub IsSizedEvent : (List ℕ → ℕ → Command) → List (List ℕ) → Event → Type 0
IsSizedEvent command fields event = (name : List ℕ) × (count : ℕ) × BeginsWithNumber fields name count [] × IsKept (command name count) event

-- no line is two commands
abbrev pub SaysOneCommand : Type 0
SaysOneCommand = (line : List ℕ) (c d : Command) → Says line c → Says line d → c ≡ d
