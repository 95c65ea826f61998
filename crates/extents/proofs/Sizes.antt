-- The volumes of a table of a set have no more blocks than its extents allow.
use Rattle.std.proofs.Common.{◌≡◌, ℕ, ◌≤◌, Option, Some, List, ap, arith}
use Rattle.std.proofs.Math.Logic.{∥∥₁_elim}
use Rattle.std.proofs.Props.{props}
use Rattle.extents.specs.declared.extent_layout.ExtentLayout.{ExtentLayout}
use Rattle.extents.specs.declared.owned.Owned.{Owned}
use Rattle.extents.specs.declared.record.Record.{Record}
use Rattle.extents.specs.declared.volume_table.VolumeTable.{VolumeTable}
use Rattle.extents.specs.ExtentMaps.{is_of}
use Rattle.extents.specs.SetExtents.{IsOfSet}
use Rattle.extents.specs.VolumeTables.{HaveTheirPlaces, IsVolumeTable, extents_of, most_blocks, record_of}
use Rattle.extents.proofs.Blocks.{few_blocks}
use Rattle.extents.proofs.CountLemmas.{count_of_places}
use Rattle.std.proofs.lemmas.List.Sums.{count_by-le-length}

sized_by : (extents : ExtentLayout) (version volume : ℕ) (records : List (Option Record)) (owners : List (Option Owned)) (one : Record)
    → IsVolumeTable version records owners → HaveTheirPlaces extents.blocks records owners → record_of records volume ≡ Some one
    → one.blocks ≤ most_blocks extents.blocks
sized_by extents version volume records owners one table placed used =
    let count = count_of_places owners volume (extents_of extents.blocks (record_of records volume)) (placed volume) in
    let taken = ap (extents_of extents.blocks) used in
    few_blocks extents.blocks one.blocks extents.limits.some one.most
    (omega (arith, count, taken, count_by-le-length (is_of volume) owners, table.map.at_most))

pub record_sized : (extents : ExtentLayout) (table : VolumeTable) (volume : ℕ) (one : Record) → IsOfSet extents table
    → record_of table.records volume ≡ Some one → one.blocks ≤ most_blocks extents.blocks
record_sized extents table volume one of_set used =
    ∥∥₁_elim table.is_table (hlevel props) (λ is. ∥∥₁_elim of_set.placed (hlevel props)
    (λ placed. sized_by extents table.version volume table.records table.extents one is placed used))
