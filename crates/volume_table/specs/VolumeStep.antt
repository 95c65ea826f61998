-- What each command on volumes answers, and what it leaves of them.
use Rattle.std.specs.Prelude.{ℕ, ◌+◌, Bool, not, ◌||◌, ◌==◌, nat_lt, nat_le, if◌then◌else◌, List, [], ◌∷◌, ◌++◌, length, take, drop, map, replicate, fold, All}
use Rattle.std.specs.Prelude.{Option, Some, None, is_none, is_some, unwrap_or}
use Rattle.sector_model.specs.declared.refusal.Refusal.{Refusal}
use Rattle.sector_model.specs.declared.refusal.Refusal.TheVariants.{BadName, BadSize, Exists, TooManyVolumes, NoSpace, NoVolume, BadCount, OutOfRange}
use Rattle.rebuild.specs.Rebuilding.{Progress}
use Rattle.volume_table.specs.Names.{is_good_name}
use Rattle.extents.specs.declared.extent_layout.ExtentLayout.{ExtentLayout}
use Rattle.extents.specs.VolumeTables.{extents_for, most_blocks}
use Rattle.volume_table.specs.Volumes.{Block, IsBlock, zero_block, VolumeList, VolumeMap, blocks_of, with_volume, without, need}
use Rattle.extents.specs.Versions.{most_volumes, upgraded_version}
use Rattle.volume_table.specs.declared.event.TheConstants.{MOST_BLOCKS_AT_ONCE}

pub data Command : Type 0 where
  Create : (name : List ℕ) → (count : ℕ) → Command
  Extend : (name : List ℕ) → (growth : ℕ) → Command
  Remove : (name : List ℕ) → Command
  Read : (name : List ℕ) → (at count : ℕ) → Command
  Write : (name : List ℕ) → (at : ℕ) → (blocks : List Block) → Command
  -- a volume gets another name
  Rename : (old new : List ℕ) → Command
  -- the names of all volumes with their numbers of blocks
  Names : Command
  -- the table gets the last version of those that it may have
  Upgrade : Command

-- a command on the set itself, which leaves all volumes as they are
pub data SetCommand : Type 0 where
  Fail : (slot : ℕ) → SetCommand
  Replace : (slot : ℕ) → SetCommand
  RebuildStep : (rows : ℕ) → SetCommand
  Scrub : SetCommand
  -- a scrub of so many rows, from `first` on
  ScrubRows : (first rows : ℕ) → SetCommand

pub data Event : Type 0 where
  OnVolumes : Command → Event
  OnSet : SetCommand → Event

pub data Reply : Type 0 where
  -- the command was done
  Done : Reply
  -- the blocks that were read
  Blocks : List Block → Reply
  -- names of volumes, and their numbers of blocks
  Volumes : List (List ℕ × ℕ) → Reply
  Progressed : Progress → Reply
  -- how many rows were looked at, how many of them are not sound, and the first of these
  Scrubbed : (rows bad : ℕ) → (first_bad : Option ℕ) → Reply
  Refused : Refusal → Reply

-- the bytes that a command brings are whole blocks
abbrev pub HasBlocks : Command → Type 0
HasBlocks (Write name at blocks) = All IsBlock blocks
HasBlocks command = Unit {0}

abbrev pub IsEvent : Event → Type 0
IsEvent (OnVolumes command) = HasBlocks command
IsEvent (OnSet command) = Unit {0}

-- so many zero blocks
abbrev pub zero_blocks : ℕ → List Block
zero_blocks count = replicate count zero_block

-- the blocks of the volume of this name, none where there is no such volume
abbrev pub blocks_in : List ℕ → VolumeList → List Block
blocks_in name volumes = unwrap_or (blocks_of name volumes) []

-- the blocks with these in place of those from `at` on
abbrev pub overwritten : List Block → ℕ → List Block → List Block
overwritten blocks at written = take at blocks ++ written ++ drop (at + length written) blocks

-- the volumes after a command that is not refused
abbrev pub changed : Command → VolumeList → VolumeList
changed (Create name count) volumes = with_volume (record { name = name; blocks = zero_blocks count }) volumes
changed (Extend name growth) volumes = with_volume (record { name = name; blocks = blocks_in name volumes ++ zero_blocks growth }) volumes
changed (Remove name) volumes = without name volumes
changed (Read name at count) volumes = volumes
changed (Write name at written) volumes = with_volume (record { name = name; blocks = overwritten (blocks_in name volumes) at written }) volumes
changed (Rename old new) volumes = with_volume (record { name = new; blocks = blocks_in old volumes }) (without old volumes)
changed Names volumes = volumes
changed Upgrade volumes = volumes

-- the version of the table after it
abbrev pub version_after : Command → ℕ → ℕ
version_after Upgrade version = upgraded_version version
version_after command version = version

-- the reply to a command that is not refused
abbrev pub answer : Command → VolumeList → Reply
answer (Create name count) volumes = Done
answer (Extend name growth) volumes = Done
answer (Remove name) volumes = Done
answer (Read name at count) volumes = Blocks (take count (drop at (blocks_in name volumes)))
answer (Write name at written) volumes = Done
answer (Rename old new) volumes = Done
answer Names volumes = Volumes (map (λ volume. (volume.name, length volume.blocks)) volumes)
answer Upgrade volumes = Done

-- a refusal, and whether it applies
abbrev pub Check : Type 0
Check = Bool × Refusal

-- a volume may not have so many blocks, where it has this many at most
abbrev pub is_bad_size : (most count : ℕ) → Bool
is_bad_size most count = count == 0 || nat_lt most count

-- a read or a write may not have so many blocks
abbrev pub is_bad_count : ℕ → Bool
is_bad_count count = count == 0 || nat_lt MOST_BLOCKS_AT_ONCE count

abbrev pub has_no_volume : List ℕ → VolumeList → Bool
has_no_volume name volumes = is_none (blocks_of name volumes)

-- what a read or a write of `count` blocks from `at` on is refused with, in this order
abbrev pub checks_within : List ℕ → ℕ → ℕ → VolumeList → List Check
checks_within name at count volumes =
    (has_no_volume name volumes, NoVolume)
    ∷ (is_bad_count count, BadCount)
    ∷ (nat_lt (length (blocks_in name volumes)) (at + count), OutOfRange)
    ∷ []

-- what a command is refused with in a set with these extents and a table of this version, in this order
abbrev pub checks : (extents : ExtentLayout) (version : ℕ) → Command → VolumeList → List Check
checks extents version (Create name count) volumes =
    (not (is_good_name version name), BadName)
    ∷ (is_bad_size (most_blocks extents.blocks) count, BadSize)
    ∷ (is_some (blocks_of name volumes), Exists)
    ∷ (nat_le (most_volumes version) (length volumes), TooManyVolumes)
    ∷ (nat_lt extents.count (need extents.blocks volumes + extents_for extents.blocks count), NoSpace)
    ∷ []
checks extents version (Extend name growth) volumes =
    (has_no_volume name volumes, NoVolume)
    ∷ (growth == 0 || nat_lt (most_blocks extents.blocks) (length (blocks_in name volumes) + growth), BadSize)
    ∷ (nat_lt extents.count (need extents.blocks (changed (Extend name growth) volumes)), NoSpace)
    ∷ []
checks extents version (Remove name) volumes = (has_no_volume name volumes, NoVolume) ∷ []
checks extents version (Read name at count) volumes = checks_within name at count volumes
checks extents version (Write name at written) volumes = checks_within name at (length written) volumes
checks extents version (Rename old new) volumes =
    (has_no_volume old volumes, NoVolume)
    ∷ (not (is_good_name version new), BadName)
    ∷ (is_some (blocks_of new volumes), Exists)
    ∷ []
checks extents version Names volumes = []
checks extents version Upgrade volumes = []

-- the first refusal that applies
abbrev pub first_refusal : List Check → Option Refusal
first_refusal [] = None
first_refusal (check ∷ checks) = if check.0 then Some check.1 else first_refusal checks

abbrev pub refusal_of : ExtentLayout → Command → VolumeMap → Option Refusal
refusal_of extents command volumes = first_refusal (checks extents volumes.version command volumes.volumes)

abbrev pub or_refused : Option Refusal → Reply → Reply
or_refused None reply = reply
or_refused (Some refusal) reply = Refused refusal

abbrev pub unless_refused : Option Refusal → VolumeMap → VolumeMap → VolumeMap
unless_refused None new volumes = new
unless_refused (Some refusal) new volumes = volumes

abbrev pub reply_to : ExtentLayout → Command → VolumeMap → Reply
reply_to extents command volumes = or_refused (refusal_of extents command volumes) (answer command volumes.volumes)

-- the volumes after a command that is not refused
abbrev pub done : Command → VolumeMap → VolumeMap
done command volumes = record { version = version_after command volumes.version; volumes = changed command volumes.volumes }

abbrev pub volumes_after : ExtentLayout → Command → VolumeMap → VolumeMap
volumes_after extents command volumes = unless_refused (refusal_of extents command volumes) (done command volumes) volumes

-- a command's reply, and the volumes after it
abbrev pub step : ExtentLayout → Command → VolumeMap → Reply × VolumeMap
step extents command volumes = (reply_to extents command volumes, volumes_after extents command volumes)

-- the volumes after an event
abbrev pub left_by : ExtentLayout → Event → VolumeMap → VolumeMap
left_by extents (OnVolumes command) volumes = volumes_after extents command volumes
left_by extents (OnSet command) volumes = volumes

-- the volumes after the first n of the events
abbrev pub after : ExtentLayout → List Event → VolumeMap → ℕ → VolumeMap
after extents events volumes n = fold (λ left event. left_by extents event left) volumes (take n events)
