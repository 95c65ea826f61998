-- What a list of volumes says.
use Rattle.std.specs.Prelude.{◌≡◌, ◌≢◌, ℕ, ◌<◌, ◌≤◌, List, length, map, slice_index_or}
use Rattle.std.specs.List.{insert}
use Rattle.std.specs.declared.cmp.Ordering.TheVariants.{Less}
use Rattle.volume_table.specs.declared.listed.Listed.{Listed}
use Rattle.volume_table.specs.Names.{name_order}
use Rattle.volume_table.specs.Volumes.{VolumeList}

-- the names that are listed, with their numbers of blocks
abbrev pub told : List Listed → List (List ℕ × ℕ)
told listed = map (λ volume. (volume.name.bytes.items, volume.blocks)) listed

-- the names of the volumes, with their numbers of blocks
abbrev pub lengths_of : VolumeList → List (List ℕ × ℕ)
lengths_of volumes = map (λ volume. (volume.name, length volume.blocks)) volumes

-- the place of a name: before the first name that is greater
pub record IsPlaceFor (listed : List Listed) (name : List ℕ) (place : ℕ) : Type 0 where
  pub within : place ≤ length listed
  pub not_before : (k : ℕ) (blank : Listed) → k < place → name_order name (slice_index_or listed k blank).name.bytes.items ≢ Less
  pub before : (blank : Listed) → place < length listed → name_order name (slice_index_or listed place blank).name.bytes.items ≡ Less

-- one more stands at its place
pub record IsPutInto (old new : List Listed) (one : Listed) : Type 0 where
  pub place : ℕ
  pub at : IsPlaceFor old one.name.bytes.items place
  pub is : new ≡ insert old place one
