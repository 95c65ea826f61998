-- What the oracle tells of a logical list.
use Rattle.std.specs.Prelude.{ℕ, List, length, Option}
use Rattle.std.specs.List.{slice_get}
use Rattle.std.specs.Option.{option_map, option_and_then}
use Rattle.volume_table.specs.Volumes.{Block, VolumeMap, blocks_of}

-- block `at` of the volume of this name; none where there is no such volume or block
abbrev pub block_at : List ℕ → ℕ → VolumeMap → Option Block
block_at name at volumes = option_and_then (λ blocks. slice_get blocks at) (blocks_of name volumes.volumes)

-- how many blocks the volume of this name has; none where there is no such volume
abbrev pub block_count : List ℕ → VolumeMap → Option ℕ
block_count name volumes = option_map length (blocks_of name volumes.volumes)
