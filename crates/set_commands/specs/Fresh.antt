-- A set in memory that was just made, and a script over it.
use Rattle.std.specs.Prelude.{◌≡◌, ◌⊎◌, ℕ, ◌+◌, List, [], ◌∷◌, replicate, Option, Some, None}
use Rattle.std.specs.Io.KnownBytes.{Appends}
use Rattle.std.proofs.Common.{arith}
use Rattle.sector_model.specs.declared.refusal.Refusal.{Refusal}
use Rattle.sector_model.specs.declared.refusal.Refusal.TheVariants.{Memory, NotUsable}
use Rattle.sector_model.specs.History.{Bytes}
use Rattle.layout_map.specs.declared.format.Format.TheVariants.{One}
use Rattle.layout_map.specs.declared.sizes.TheConstants.{FIRST_ROW}
use Rattle.layout_map.specs.Formats.{journal_sectors}
use Rattle.superblock.specs.Cases.{Lost}
use Rattle.array_io.specs.Believed.Fresh.{zeros_of}
use Rattle.array_io.specs.Believed.Views.{ArrayView, EndsIt, RestsOn}
use Rattle.extents.specs.declared.extent_layout.ExtentLayout.{ExtentLayout}
use Rattle.extents.specs.SetExtents.{of_64}
use Rattle.volume_table.specs.Volumes.{VolumeMap, no_volumes}
use Rattle.volume_table.specs.VolumeStep.{Reply}
use Rattle.volume_table.specs.Stands.{IsSettledOn, StoreView}
use Rattle.volume_table.specs.StoreCalls.{extents_for_store}
use Rattle.set_commands.specs.Run.{IsScriptRefusal}
use Rattle.report.specs.Script.{lines_of, texts_of}
use Rattle.set_commands.specs.ScriptLaw.{Runs}

-- the id of a set in memory: its bytes are 0 to 15
abbrev pub fresh_id : List ℕ
fresh_id = 0 ∷ 1 ∷ 2 ∷ 3 ∷ 4 ∷ 5 ∷ 6 ∷ 7 ∷ 8 ∷ 9 ∷ 10 ∷ 11 ∷ 12 ∷ 13 ∷ 14 ∷ 15 ∷ []

-- the extents of a set of 3 members, chunk 8 and 32 stripes
abbrev pub fresh_extents : ExtentLayout
fresh_extents = of_64 7 (omega arith)

-- a device of so many sectors, all zeros
abbrev pub zero_device : ℕ → Option (List Bytes)
zero_device sectors = Some (replicate sectors (replicate 512 0))

-- the sectors of a member of 256 rows
abbrev pub member_sectors : ℕ
member_sectors = FIRST_ROW + 256

-- what stands in the slots of a set in memory before it is made: three members and two journals, each as long as the set needs
abbrev pub fresh_devices : List (Option (List Bytes))
fresh_devices =
    zero_device member_sectors ∷ zero_device member_sectors ∷ zero_device member_sectors
    ∷ zero_device (journal_sectors One) ∷ zero_device (journal_sectors One) ∷ []

-- a set with this id and geometry was made: none of its slots is lost, and its logical sectors are zeros
pub record IsMadeFresh (array : ArrayView) : Type 0 where
  pub of_id : array.table.id ≡ fresh_id
  pub of_format_one : array.table.geometry.format ≡ One
  pub members : array.table.geometry.members ≡ 3
  pub chunk : array.table.geometry.chunk ≡ 8
  pub stripes : array.table.geometry.stripes ≡ 32
  pub rests : RestsOn array None (zeros_of array.table.geometry)

-- a store of such a set is settled on no volumes, in a table of version 1
pub record HasNoVolumes (store : StoreView) : Type 0 where
  pub of_id : store.array.table.id ≡ fresh_id
  pub lost : Option Lost
  pub settled : IsSettledOn store lost (no_volumes One)
  pub extents : extents_for_store store ≡ fresh_extents

-- the script ran to its end, from no volumes
pub record RunsFresh (script : List ℕ) (old new : Option (List ℕ)) : Type 0 where
  pub replies : List Reply
  pub after : VolumeMap
  pub runs : Runs fresh_extents (lines_of script) (no_volumes One) replies after
  pub written : Appends old new (texts_of replies)

-- what the making of the set in memory can be refused with
abbrev pub IsFreshRefusal : Refusal → Type 0
IsFreshRefusal refusal = (refusal ≡ Memory) ⊎ ((refusal ≡ NotUsable) ⊎ EndsIt refusal)

-- what a script over it can be refused with
abbrev pub IsFreshEnd : Refusal → Type 0
IsFreshEnd refusal = IsScriptRefusal refusal ⊎ (refusal ≡ NotUsable)
