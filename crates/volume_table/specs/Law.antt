-- What the commands on volumes keep, for any number of extents.
use Rattle.std.specs.Prelude.{◌≡◌, ◌≢◌, ℕ, ◌+◌, ◌<◌, ◌≤◌, List, [], ◌∷◌, ◌++◌, length, map, take, drop, slice_index_or, All, Contains, Some, None}
use Rattle.sector_model.specs.declared.refusal.Refusal.{Refusal}
use Rattle.std.specs.List.Sorted.{IsStrictlySortedBy}
use Rattle.extents.specs.Versions.{upgraded_version}
use Rattle.volume_table.specs.Names.{name_order}
use Rattle.volume_table.specs.Volumes.{Block, VolumeList, VolumeMap, blocks_of, AreVolumes}
use Rattle.volume_table.specs.VolumeStep.{Command, Create, Extend, Remove, Read, Write, Rename, Names, Upgrade, Event, OnVolumes, OnSet, SetCommand, Done}
use Rattle.volume_table.specs.VolumeStep.{Blocks, Volumes, Refused, HasBlocks, IsEvent, zero_blocks, reply_to, volumes_after, left_by, after}
use Rattle.extents.specs.declared.extent_layout.ExtentLayout.{ExtentLayout}

-- after every command the volumes are within the limits again: names rise and are distinct, and sizes, number and need are as before allowed
abbrev pub CommandsKeepLimits : Type 0
CommandsKeepLimits = (extents : ExtentLayout) (command : Command) (volumes : VolumeMap) → HasBlocks command → AreVolumes extents volumes
    → AreVolumes extents (volumes_after extents command volumes)

-- a refused command changes nothing
abbrev pub RefusedChangesNothing : Type 0
RefusedChangesNothing = (extents : ExtentLayout) (command : Command) (volumes : VolumeMap) (refusal : Refusal)
    → reply_to extents command volumes ≡ Refused refusal
    → volumes_after extents command volumes ≡ volumes

-- neither does a read or a list
abbrev pub ReadChangesNothing : Type 0
ReadChangesNothing = (extents : ExtentLayout) (name : List ℕ) (at count : ℕ) (volumes : VolumeMap)
    → volumes_after extents (Read name at count) volumes ≡ volumes

abbrev pub ListChangesNothing : Type 0
ListChangesNothing = (extents : ExtentLayout) (volumes : VolumeMap) → volumes_after extents Names volumes ≡ volumes

-- the names that a command is about: one, two for a rename, none for a list and an upgrade
abbrev pub names_of : Command → List (List ℕ)
names_of (Create name count) = name ∷ []
names_of (Extend name growth) = name ∷ []
names_of (Remove name) = name ∷ []
names_of (Read name at count) = name ∷ []
names_of (Write name at blocks) = name ∷ []
names_of (Rename old new) = old ∷ new ∷ []
names_of Names = []
names_of Upgrade = []

-- a command changes no volume of another name
abbrev pub OthersStay : Type 0
OthersStay = (extents : ExtentLayout) (command : Command) (volumes : VolumeMap) (other : List ℕ) → ¬ Contains (names_of command) other
    → blocks_of other (volumes_after extents command volumes).volumes ≡ blocks_of other volumes.volumes

-- what was just written is read
abbrev pub WrittenIsRead : Type 0
WrittenIsRead = (extents : ExtentLayout) (name : List ℕ) (at : ℕ) (written : List Block) (volumes : VolumeMap)
    → reply_to extents (Write name at written) volumes ≡ Done
    → reply_to extents (Read name at (length written)) (volumes_after extents (Write name at written) volumes) ≡ Blocks written

-- a volume after a write to it, block by block
pub record IsWritten (before left : List Block) (at : ℕ) (written : List Block) : Type 0 where
  pub as_long : length left ≡ length before
  pub inside : (k : ℕ) (d : Block) → k < length written → slice_index_or left (at + k) d ≡ slice_index_or written k d
  pub below : (k : ℕ) (d : Block) → k < at → slice_index_or left k d ≡ slice_index_or before k d
  pub above : (k : ℕ) (d : Block) → at + length written ≤ k → slice_index_or left k d ≡ slice_index_or before k d

-- a write changes the blocks that it names, and no other block
pub record LeavesWritten (extents : ExtentLayout) (name : List ℕ) (at : ℕ) (written : List Block) (volumes : VolumeMap) : Type 0 where
  pub before : List Block
  pub left : List Block
  pub was : blocks_of name volumes.volumes ≡ Some before
  pub is_left : blocks_of name (volumes_after extents (Write name at written) volumes).volumes ≡ Some left
  pub changes : IsWritten before left at written

abbrev pub WriteChangesItsBlocks : Type 0
WriteChangesItsBlocks = (extents : ExtentLayout) (name : List ℕ) (at : ℕ) (written : List Block) (volumes : VolumeMap)
    → reply_to extents (Write name at written) volumes ≡ Done → LeavesWritten extents name at written volumes

-- a volume that was just created has zero blocks, and as many as were asked for
abbrev pub CreatedIsZero : Type 0
CreatedIsZero = (extents : ExtentLayout) (name : List ℕ) (count : ℕ) (volumes : VolumeMap) → reply_to extents (Create name count) volumes ≡ Done
    → (blocks_of name volumes.volumes ≡ None) × (blocks_of name (volumes_after extents (Create name count) volumes).volumes ≡ Some (zero_blocks count))

-- the list has this name with so many blocks
pub record IsListed (extents : ExtentLayout) (name : List ℕ) (count : ℕ) (volumes : VolumeMap) : Type 0 where
  pub listed : List (List ℕ × ℕ)
  pub answered : reply_to extents Names volumes ≡ Volumes listed
  pub shown : Contains listed (name, count)

-- a volume of this name has so many blocks
pub record HasLength (name : List ℕ) (count : ℕ) (volumes : VolumeList) : Type 0 where
  pub blocks : List Block
  pub found : blocks_of name volumes ≡ Some blocks
  pub as_long : length blocks ≡ count

-- a list has each volume with its number of blocks and nothing else, in rising order of names
pub record ListsExactly (volumes : VolumeList) (listed : List (List ℕ × ℕ)) : Type 0 where
  pub rising : IsStrictlySortedBy name_order (map (λ volume. volume.0) listed)
  pub found : (name : List ℕ) (count : ℕ) → Contains listed (name, count) → HasLength name count volumes
  pub all : (name : List ℕ) (count : ℕ) → HasLength name count volumes → Contains listed (name, count)

abbrev pub ListIsExact : Type 0
ListIsExact = (extents : ExtentLayout) (volumes : VolumeMap) (listed : List (List ℕ × ℕ)) → AreVolumes extents volumes
    → reply_to extents Names volumes ≡ Volumes listed
    → ListsExactly volumes.volumes listed

-- what is there is listed
abbrev pub FoundIsListed : Type 0
FoundIsListed = (extents : ExtentLayout) (name : List ℕ) (blocks : List Block) (volumes : VolumeMap) → blocks_of name volumes.volumes ≡ Some blocks
    → IsListed extents name (length blocks) volumes

-- a volume that was just created is listed
abbrev pub CreatedIsListed : Type 0
CreatedIsListed = (extents : ExtentLayout) (name : List ℕ) (count : ℕ) (volumes : VolumeMap) → reply_to extents (Create name count) volumes ≡ Done
    → IsListed extents name count (volumes_after extents (Create name count) volumes)

-- growth keeps the blocks and appends zero blocks
abbrev pub ExtendedHasZeros : Type 0
ExtendedHasZeros = (extents : ExtentLayout) (name : List ℕ) (growth : ℕ) (volumes : VolumeMap) (before : List Block)
    → reply_to extents (Extend name growth) volumes ≡ Done
    → blocks_of name volumes.volumes ≡ Some before
    → blocks_of name (volumes_after extents (Extend name growth) volumes).volumes ≡ Some (before ++ zero_blocks growth)

abbrev pub RemovedIsGone : Type 0
RemovedIsGone = (extents : ExtentLayout) (name : List ℕ) (volumes : VolumeMap) → reply_to extents (Remove name) volumes ≡ Done
    → blocks_of name (volumes_after extents (Remove name) volumes).volumes ≡ None

-- a rename gives the blocks of a volume to a name that no volume had, and takes the old name away
pub record LeavesRenamed (extents : ExtentLayout) (old new : List ℕ) (volumes : VolumeMap) : Type 0 where
  pub blocks : List Block
  pub was : blocks_of old volumes.volumes ≡ Some blocks
  pub was_none : blocks_of new volumes.volumes ≡ None
  pub is_left : blocks_of new (volumes_after extents (Rename old new) volumes).volumes ≡ Some blocks
  pub gone : blocks_of old (volumes_after extents (Rename old new) volumes).volumes ≡ None

abbrev pub RenamedHasBlocks : Type 0
RenamedHasBlocks = (extents : ExtentLayout) (old new : List ℕ) (volumes : VolumeMap) → reply_to extents (Rename old new) volumes ≡ Done
    → LeavesRenamed extents old new volumes

-- the new name is listed, with as many blocks as the old one had
abbrev pub RenamedIsListed : Type 0
RenamedIsListed = (extents : ExtentLayout) (old new : List ℕ) (count : ℕ) (volumes : VolumeMap) → reply_to extents (Rename old new) volumes ≡ Done
    → HasLength old count volumes.volumes
    → IsListed extents new count (volumes_after extents (Rename old new) volumes)

-- an upgrade is never refused: it leaves the volumes, and makes a table of version 1 one of version 2
abbrev pub UpgradeKeepsVolumes : Type 0
UpgradeKeepsVolumes = (extents : ExtentLayout) (volumes : VolumeMap) → (reply_to extents Upgrade volumes ≡ Done)
    × (volumes_after extents Upgrade volumes ≡ record { version = upgraded_version volumes.version; volumes = volumes.volumes })

-- no other command changes the version
abbrev pub VersionStays : Type 0
VersionStays = (extents : ExtentLayout) (command : Command) (volumes : VolumeMap) → command ≢ Upgrade
    → (volumes_after extents command volumes).version ≡ volumes.version

-- volumes within the limits are known by the version and the blocks of each name
abbrev pub KnownByBlocks : Type 0
KnownByBlocks = (extents : ExtentLayout) (first second : VolumeMap) → AreVolumes extents first → AreVolumes extents second
    → ((name : List ℕ) → blocks_of name first.volumes ≡ blocks_of name second.volumes) → first.version ≡ second.version → first ≡ second

-- after no event the volumes are as they were
abbrev pub AfterNone : Type 0
AfterNone = (extents : ExtentLayout) (events : List Event) (volumes : VolumeMap) → after extents events volumes 0 ≡ volumes

-- one event more is one step more
abbrev pub AfterOneMore : Type 0
AfterOneMore = (extents : ExtentLayout) (events : List Event) (volumes : VolumeMap) (n : ℕ) (d : Event) → n < length events
    → after extents events volumes (n + 1) ≡ left_by extents (slice_index_or events n d) (after extents events volumes n)

-- n events after the first m are the events from m on, over what the first m leave
abbrev pub AfterInParts : Type 0
AfterInParts = (extents : ExtentLayout) (events : List Event) (volumes : VolumeMap) (m n : ℕ)
    → after extents events volumes (m + n) ≡ after extents (drop m events) (after extents events volumes m) n

-- the events after the first n count for nothing
abbrev pub AfterOfPrefix : Type 0
AfterOfPrefix = (extents : ExtentLayout) (events : List Event) (volumes : VolumeMap) (m n : ℕ) → n ≤ m
    → after extents (take m events) volumes n ≡ after extents events volumes n

-- a refused event changes nothing
abbrev pub AfterRefused : Type 0
AfterRefused = (extents : ExtentLayout) (events : List Event) (volumes : VolumeMap) (n : ℕ) (command : Command) (refusal : Refusal) (d : Event)
    → n < length events
    → slice_index_or events n d ≡ OnVolumes command
    → reply_to extents command (after extents events volumes n) ≡ Refused refusal → after extents events volumes (n + 1) ≡ after extents events volumes n

-- neither does a command on the set
abbrev pub AfterOnSet : Type 0
AfterOnSet = (extents : ExtentLayout) (events : List Event) (volumes : VolumeMap) (n : ℕ) (command : SetCommand) (d : Event) → n < length events
    → slice_index_or events n d ≡ OnSet command
    → after extents events volumes (n + 1) ≡ after extents events volumes n

-- after any of the events the volumes are within the limits
abbrev pub EventsKeepLimits : Type 0
EventsKeepLimits = (extents : ExtentLayout) (events : List Event) (volumes : VolumeMap) (n : ℕ) → All IsEvent events → AreVolumes extents volumes
    → AreVolumes extents (after extents events volumes n)
