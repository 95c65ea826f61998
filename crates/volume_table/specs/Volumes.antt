-- The volumes: good names, each with a list of blocks; and the version of the table that keeps them.
use Rattle.std.specs.Prelude.{◌≡◌, ℕ, ◌+◌, ◌≤◌, IsTrue, if◌then◌else◌, not, List, [], ◌∷◌, length, map, filter, replicate, All, Option, Some, None}
use Rattle.std.specs.List.Sorted.{IsStrictlySortedBy}
use Rattle.std.specs.Ordering.{match_ordering}
use Rattle.extents.specs.declared.extent_layout.ExtentLayout.{ExtentLayout}
use Rattle.extents.specs.VolumeTables.{extents_for, most_blocks}
use Rattle.volume_table.specs.Names.{name_order, is_same_name, is_good_name}
use Rattle.extents.specs.Versions.{IsVersionIn, fresh_version, most_volumes}
use Rattle.layout_map.specs.declared.format.Format.{Format}

-- the bytes of a block
abbrev pub Block : Type 0
Block = List ℕ

-- 512 bytes
abbrev pub IsBlock : Block → Type 0
IsBlock block = length block ≡ 512

-- the block whose 512 bytes are 0
unfoldable pub zero_block : Block
zero_block = replicate 512 0

pub record Volume : Type 0 where
  pub name : List ℕ
  pub blocks : List Block

-- volumes in rising byte order of names, so that there is one list for what they are
abbrev pub VolumeList : Type 0
VolumeList = List Volume

-- the volumes of a set, and the version of its table
pub record VolumeMap : Type 0 where
  pub version : ℕ
  pub volumes : VolumeList

-- those of a set of this format that was just made
abbrev pub no_volumes : Format → VolumeMap
no_volumes format = record { version = fresh_version format; volumes = [] }

abbrev pub names : VolumeList → List (List ℕ)
names volumes = map (λ volume. volume.name) volumes

-- the blocks of the volume of this name, if there is one
abbrev pub blocks_of : List ℕ → VolumeList → Option (List Block)
blocks_of name [] = None
blocks_of name (volume ∷ volumes) = if is_same_name name volume.name then Some volume.blocks else blocks_of name volumes

-- the volumes with this one at its place in their order; it takes the place of the one of its name
abbrev pub with_volume : Volume → VolumeList → VolumeList
with_volume new [] = new ∷ []
with_volume new (volume ∷ volumes) =
    match_ordering (name_order new.name volume.name) (new ∷ volume ∷ volumes) (new ∷ volumes) (volume ∷ with_volume new volumes)

-- the volumes but the one of this name
abbrev pub without : List ℕ → VolumeList → VolumeList
without name volumes = filter (λ volume. not (is_same_name name volume.name)) volumes

-- how many extents the volumes need, of which each has so many blocks
abbrev pub need : (each : ℕ) → VolumeList → ℕ
need each [] = 0
need each (volume ∷ volumes) = extents_for each (length volume.blocks) + need each volumes

-- a volume within the limits of a version, of this many blocks at most
pub record IsVolume (most_of_set version : ℕ) (volume : Volume) : Type 0 where
  pub good : IsTrue (is_good_name version volume.name)
  pub least : 1 ≤ length volume.blocks
  pub most : length volume.blocks ≤ most_of_set
  pub whole : All IsBlock volume.blocks

-- volumes that a set with these extents may have
pub record AreVolumes (extents : ExtentLayout) (volumes : VolumeMap) : Type 0 where
  pub is_version : IsVersionIn extents.format volumes.version
  pub few : length volumes.volumes ≤ most_volumes volumes.version
  pub each : All (IsVolume (most_blocks extents.blocks) volumes.version) volumes.volumes
  pub rising : IsStrictlySortedBy name_order (names volumes.volumes)
  pub within : need extents.blocks volumes.volumes ≤ extents.count
