-- A set that was just made shows no volume.
use Rattle.std.proofs.Common.{◌≡◌, inl, inr, ℕ, ◌<◌, List, [], ◌∷◌, map, get_or, take, replicate, refl, subst, sym, ap, ◌∙◌, arith}
use Rattle.layout_map.specs.declared.format.Format.{Format}
use Rattle.std.proofs.Math.Logic.{∥∥₁_map}
use Rattle.std.proofs.lemmas.List.{ext_get_or, get_or-replicate, length-replicate}
use Rattle.std.proofs.lemmas.List.FromFn.{get_or-map-range_with_len, length-map-range_with_len, take-map-range_with_len}
use Rattle.std.proofs.lemmas.List.Elements.{Contains-push, Contains-push_cases}
use Rattle.std.specs.List.{range_with_len}
use Rattle.std.specs.Prelude.{Contains}
use Rattle.sector_model.specs.History.{Bytes}
use Rattle.layout_map.specs.declared.geometry.Geometry.{Geometry}
use Rattle.layout_map.specs.Placement.{data_sectors_of}
use Rattle.parity.specs.Xor.{zero_sector}
use Rattle.parity.proofs.Laws.{zero_sector-replicate}
use Rattle.extents.specs.SetExtents.{extents_in}
use Rattle.extents.specs.declared.volume_table.VolumeTable.{VolumeTable}
use Rattle.extents.specs.TableSpelling.{zeros, Spell}
use Rattle.extents.specs.Versions.{table_length}
use Rattle.extents.specs.TableLaw.{IsEmpty}
use Rattle.extents.proofs.TableLaws.{empty_exists, empty_is_zeros}
use Rattle.array_io.specs.Believed.Fresh.{zeros_of}
use Rattle.array_io.proofs.Images.Codecs.{spellings}
use Rattle.array_io.proofs.Laws.Fresh as fresh_set
use Rattle.array_io.proofs.Laws.FromCore.{holds_from_core}
use Rattle.volume_table.specs.Shows.{Shows}
use Rattle.volume_table.specs.Volumes.{no_volumes, zero_block}
use Rattle.volume_table.specs.Stands.{FreshSetShowsNone, FreshSetStandsForNone, ShowsOneOf}
use Rattle.volume_table.proofs.ReadLemmas.{empty_is_shown}
use Rattle.volume_table.proofs.TableSizes.{format_in, has_table_sectors, room_for, table_short}
use Rattle.volume_table.proofs.CleanExtents.{zeros_clean}
use Rattle.extents.specs.ExtentMaps.{sector_of_block}
use Rattle.extents.proofs.Blocks.{sector_within}

zero_is_zero : zero_sector ≡ zero_block
unfolding zero_block
zero_is_zero = sym (zero_sector-replicate 512 refl)

zeros_are_zero : (n : ℕ) → n ≡ 512 → zeros n ≡ zero_sector
unfolding zeros
zeros_are_zero n is = zero_sector-replicate n is

same_sectors : (sector : Bytes) (n : ℕ) → map (λ (k : ℕ). sector) (range_with_len 0 n) ≡ replicate n sector
same_sectors sector n =
    ext_get_or [] (map (λ (k : ℕ). sector) (range_with_len 0 n)) (replicate n sector)
    (length-map-range_with_len (λ (k : ℕ). sector) 0 n ∙ sym (length-replicate n sector)) (λ k within.
    let below : k < n = omega (arith, within, length-map-range_with_len (λ (k : ℕ). sector) 0 n) in
    get_or-map-range_with_len (λ (k : ℕ). sector) 0 n k k [] below (omega arith) ∙ sym (get_or-replicate n k sector [] below))

first_zeros : (geometry : Geometry) (version : ℕ) → take (table_length version) (zeros_of geometry) ≡ replicate (table_length version) (zeros 512)
first_zeros geometry version =
    take-map-range_with_len (λ (k : ℕ). zero_sector) 0 (data_sectors_of geometry.members geometry.chunk geometry.stripes) (table_length version)
    (omega (arith, has_table_sectors geometry, table_short version))
    ∙ same_sectors zero_sector (table_length version)
    ∙ ap (λ (sector : Bytes). replicate (table_length version) sector) (sym (zeros_are_zero 512 refl))

-- they spell the empty table
spelled_there : (geometry : Geometry) (table : VolumeTable) → IsEmpty geometry.format table → Spell (zeros_of geometry) table
spelled_there geometry table empty =
    first_zeros geometry table.version ∙ ap (λ (v : ℕ). replicate (table_length v) (zeros 512)) empty.fresh
    ∙ sym (empty_is_zeros geometry.format table empty)

-- the sectors of its extents are zero
zero_in_extents : (geometry : Geometry) (extent block : ℕ) → extent < (extents_in geometry).count
    → get_or (zeros_of geometry) (sector_of_block (extents_in geometry) extent block) [] ≡ zero_block
zero_in_extents geometry extent block below =
    let sector : ℕ = sector_of_block (extents_in geometry) extent block in
    let within : sector < data_sectors_of geometry.members geometry.chunk geometry.stripes =
    omega (
      arith,
      sector_within (extents_in geometry) extent block (extents_in geometry).count below,
      room_for geometry (extents_in geometry).count
          (omega arith),
    ) in
    get_or-map-range_with_len (λ (k : ℕ). zero_sector) 0 (data_sectors_of geometry.members geometry.chunk geometry.stripes) sector sector [] within
    (omega arith) ∙ zero_is_zero

shown_by : (geometry : Geometry) → ((table : VolumeTable) × IsEmpty geometry.format table)
    → Shows (extents_in geometry) (zeros_of geometry) (no_volumes geometry.format)
shown_by geometry (table, empty) =
    subst (λ (format : Format). Shows (extents_in geometry) (zeros_of geometry) (no_volumes format)) (format_in geometry)
    (empty_is_shown (extents_in geometry) (zeros_of geometry) table (spelled_there geometry table empty)
    (subst (λ (format : Format). IsEmpty format table) (sym (format_in geometry)) empty)
    (zeros_clean (extents_in geometry) table.dirty table.records table.extents (zeros_of geometry) empty.no_record (zero_in_extents geometry)))

pub fresh_set_shows_none : FreshSetShowsNone
fresh_set_shows_none geometry = ∥∥₁_map (empty_exists geometry.format) (shown_by geometry)

no_map : (list : List Bytes) (lists : List (List Bytes)) → Contains [] list → ⊥
no_map list lists (k, below, is) = omega (arith, below)

only_zeros : (geometry : Geometry) (logical : List Bytes) → Shows (extents_in geometry) (zeros_of geometry) (no_volumes geometry.format)
    → Contains (zeros_of geometry ∷ []) logical → ShowsOneOf geometry (no_volumes geometry.format ∷ []) logical
only_zeros geometry logical shows among = elim (Contains-push_cases [] (zeros_of geometry) logical among) [
  | inl none ↦ absurd (no_map logical [] none)
  | inr is ↦ record {
    volumes = no_volumes geometry.format;
    among = Contains-push [] (no_volumes geometry.format);
    shown =
        subst (λ (list : List Bytes). Shows (extents_in geometry) list (no_volumes geometry.format)) is shows;
  }
]

pub fresh_set_stands_for_none : FreshSetStandsForNone
fresh_set_stands_for_none devices table image fresh = ∥∥₁_map (fresh_set_shows_none table.geometry) (λ shows. record {
  lists = zeros_of table.geometry ∷ [];
  holds = fresh_set.fresh_set_holds spellings (holds_from_core spellings) devices table image fresh;
  shown = λ logical among. only_zeros table.geometry logical shows among;
})
