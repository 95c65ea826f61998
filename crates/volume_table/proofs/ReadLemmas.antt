-- What a list says of the names, lengths and blocks of its volumes.
use Rattle.std.proofs.Common.{◌≡◌, ◌≢◌, ℕ, ◌+◌, ◌<◌, true, List, [], length, take, drop, get_or, Option, Some, None, refl, sym, ap, subst, ◌∙◌, arith}
use Rattle.extents.specs.TableLaw.{IsEmpty}
use Rattle.extents.specs.Versions.{IsVersion, fresh_version, is_version_of}
use Rattle.layout_map.specs.declared.format.Format.{Format}
use Rattle.layout_map.specs.declared.format.Format.TheVariants.{One, Two}
use Rattle.std.proofs.lemmas.List.{length-take, length-drop, get_or-take, get_or-drop}
use Rattle.std.specs.List.Sorted.{IsStrictlySortedBy}
use Rattle.std.proofs.lemmas.List.Elements.{All-nil}
use Rattle.std.proofs.lemmas.Option.{none-some, same_Some}
use Rattle.sector_model.specs.declared.refusal.Refusal.{Refusal}
use Rattle.extents.specs.declared.extent_layout.ExtentLayout.{ExtentLayout}
use Rattle.extents.specs.ExtentMaps.{place_of, sector_of_block}
use Rattle.extents.specs.declared.record.Record.{Record}
use Rattle.extents.specs.declared.volume_table.VolumeTable.{VolumeTable}
use Rattle.extents.specs.TableSpelling.{Spell}
use Rattle.extents.specs.Owners.{HasPlaces, IsAt}
use Rattle.extents.specs.VolumeTables.{HasRecord, extents_of, most_blocks, record_of}
use Rattle.volume_table.specs.Volumes.{Block, VolumeMap, no_volumes, blocks_of, IsVolume, AreVolumes}
use Rattle.volume_table.specs.VolumeStep.{Read, Reply, Blocks, or_refused, refusal_of, reply_to, answer, blocks_in}
use Rattle.volume_table.specs.Law.{HasLength}
use Rattle.volume_table.specs.Shows.{AreClean, IsOfVolume, Shows}
use Rattle.volume_table.proofs.StepLemmas.{IsWithin, is_within}

pub absent_is_shown : (extents : ExtentLayout) (sectors : List Block) (volumes : VolumeMap) (name : List ℕ) (shows : Shows extents sectors volumes)
    → ((number : ℕ) (entry : Record) → record_of shows.table.records number ≡ Some entry → entry.name.bytes.items ≢ name)
    → blocks_of name volumes.volumes ≡ None
absent_is_shown extents sectors volumes name shows none = by_case (blocks_of name volumes.volumes) refl
  where
    by_case : (o : Option (List Block)) → blocks_of name volumes.volumes ≡ o → o ≡ None
    by_case None e = refl
    by_case (Some blocks) e = let has : HasRecord shows.table.records name =
        shows.shown.all name blocks e in absurd (none has.number has.entry has.used has.named)

pub length_is_shown : (extents : ExtentLayout) (sectors : List Block) (volumes : VolumeMap) (number : ℕ) (entry : Record)
    (shows : Shows extents sectors volumes)
    → record_of shows.table.records number ≡ Some entry → HasLength entry.name.bytes.items entry.blocks volumes.volumes
length_is_shown extents sectors volumes number entry shows used =
    let was : IsOfVolume extents shows.table.extents sectors volumes.volumes number entry = shows.shown.used number entry used in
    record { blocks = was.blocks; found = was.named; as_long = was.as_long }

-- who answers blocks refused nothing
blocks_if_not_refused : (refusal : Option Refusal) (reply : Reply) (blocks : List Block) → or_refused refusal reply ≡ Blocks blocks → (refusal ≡ None)
    × (reply ≡ Blocks blocks)
blocks_if_not_refused None reply blocks e = (refl, e)
blocks_if_not_refused (Some refusal) reply blocks e = absurd (grind arith)

blocks_answered : Reply → List Block
blocks_answered (Blocks blocks) = blocks
blocks_answered reply = []

answered_blocks : (first second : List Block) → Blocks first ≡ Blocks second → first ≡ second
unfolding blocks_answered
answered_blocks first second e = ap blocks_answered e

pub read_is_shown : (extents : ExtentLayout) (sectors : List Block) (volumes : VolumeMap) (number : ℕ) (entry : Record) (at count : ℕ) (blocks : List Block)
    (shows : Shows extents sectors volumes)
    → record_of shows.table.records number ≡ Some entry → reply_to extents (Read entry.name.bytes.items at count) volumes ≡ Blocks blocks
    → (length blocks ≡ count)
    × ((j extent : ℕ) → j < count → IsAt shows.table.extents extent number (place_of extents (at + j))
    → get_or blocks j [] ≡ get_or sectors (sector_of_block extents extent (at + j)) [])
read_is_shown extents sectors volumes number entry at count blocks shows used replied =
    let name = entry.name.bytes.items in
    let told = blocks_if_not_refused (refusal_of extents (Read name at count) volumes) (answer (Read name at count) volumes.volumes) blocks replied in
    let within : IsWithin name at count volumes.volumes = is_within name at count volumes.volumes told.0 in
    let old = blocks_in name volumes.volumes in
    let are : take count (drop at old) ≡ blocks = answered_blocks (take count (drop at old)) blocks told.1 in
    let was : IsOfVolume extents shows.table.extents sectors volumes.volumes number entry = shows.shown.used number entry used in
    let same : was.blocks ≡ old = same_Some was.blocks old (sym was.named ∙ within.found) in (
      ap length (sym are) ∙ omega (arith, length-take count (drop at old), length-drop at old, within.fits),
      λ j extent less at_extent.
          ap (λ all. get_or all j []) (sym are) ∙ get_or-take count (drop at old) j [] less ∙ get_or-drop at old j []
          ∙ ap (λ all. get_or all (at + j) []) (sym same)
          ∙ sym (was.stand (at + j) extent (omega (arith, ap length same, within.fits, less)) at_extent),
    )

-- the version of a set that was just made is one of its format
pub fresh_is_version : (format : Format) → IsVersion (fresh_version format) × (is_version_of format (fresh_version format) ≡ true)
fresh_is_version One = ((omega arith, omega arith), refl)
fresh_is_version Two = ((omega arith, omega arith), refl)

-- no volume is within any limits
none_within : (extents : ExtentLayout) → AreVolumes extents (no_volumes extents.format)
unfolding IsStrictlySortedBy
none_within extents = record {
  is_version = fresh_is_version extents.format;
  few = omega arith;
  each = All-nil (IsVolume (most_blocks extents.blocks) (fresh_version extents.format));
  rising = tt;
  within = omega arith;
}

pub empty_is_shown : (extents : ExtentLayout) (sectors : List Block) (table : VolumeTable) → Spell sectors table → IsEmpty extents.format table
    → AreClean extents table.dirty table.records table.extents sectors → Shows extents sectors (no_volumes extents.format)
empty_is_shown extents sectors table spelled empty clean =
    record {
      limits = none_within extents;
      table = table;
      of_version = empty.fresh;
      spelled = spelled;
      of_set = record {
        version = ap (is_version_of extents.format) empty.fresh ∙ (fresh_is_version extents.format).1;
        free_beyond = λ extent above. empty.all_free extent;
        clean_beyond = λ tells extent above below. empty.all_clean tells extent (omega arith) below;
        placed = ∣ (λ volume. subst (λ n. HasPlaces table.extents volume n) (sym (ap (extents_of extents.blocks) (empty.no_record volume)))
            (none_there volume)) ∣₁;
      };
      shown = record {
        used = λ number entry used. absurd (none-some entry (sym (empty.no_record number) ∙ used));
        all = λ name blocks found. absurd (none-some blocks found);
      };
      clean = clean;
    }
  where
    none_there : (volume : ℕ) → HasPlaces table.extents volume 0
    none_there volume = record {
      extent_at = λ place within. absurd (omega (arith, within));
      below = λ extent place at. absurd (none-some _ (sym (empty.all_free extent) ∙ at));
      once = λ first second place one two. absurd (none-some _ (sym (empty.all_free first) ∙ one));
    }
