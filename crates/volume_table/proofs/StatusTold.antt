-- What a store tells of its set is true of it.
use Rattle.std.proofs.Common.{◌≡◌, ℕ, ◌+◌, ◌-◌, cond, List, ◌∷◌, length, take, Option, Some, None, Ok, refl, sym, ap, ◌∙◌, arith}
use Rattle.std.specs.Prelude.{count_by, is_some}
use Rattle.std.proofs.lemmas.List.Recursion.{is_count_by}
use Rattle.std.proofs.lemmas.Option.{none-some}
use Rattle.superblock.specs.Cases.{Lost}
use Rattle.array_io.specs.Believed.Holds.{row_count}
use Rattle.extents.specs.declared.extent_layout.ExtentLayout.{ExtentLayout}
use Rattle.extents.specs.declared.owned.Owned.{Owned}
use Rattle.extents.specs.declared.record.Record.{Record}
use Rattle.extents.specs.declared.volume_table.VolumeTable.{VolumeTable}
use Rattle.extents.specs.ExtentMaps.{free_of}
use Rattle.extents.proofs.TableLaws.{one_table}
use Rattle.volume_table.specs.Admission.{AreKept}
use Rattle.volume_table.specs.Volumes.{VolumeMap, need}
use Rattle.volume_table.specs.Shows.{used_records}
use Rattle.volume_table.specs.Stands.{IsSettledOn, StoreView}
use Rattle.volume_table.specs.StoreCalls.{extents_for_store}
use Rattle.volume_table.specs.StoreFunctions.{StatusView, TellsStatus}
use Rattle.volume_table.proofs.CountLemmas.{records_are_counted}
use Rattle.volume_table.proofs.FreeLemmas.{free_is_not_needed}

-- the used records are those that a test finds
pub used_are_counted : (records : List (Option Record)) → used_records records ≡ count_by is_some records
used_are_counted records = is_count_by used_records is_some refl one records
  where
    one : (entry : Option Record) (entries : List (Option Record))
        → used_records (entry ∷ entries) ≡ cond (is_some entry) (1 + used_records entries) (used_records entries)
    one None entries = refl
    one (Some used) entries = refl

-- what a store tells by its tables and the counts of what is in use
abbrev pub status_by : StoreView → (rows extent_blocks extents free volumes version : ℕ) → StatusView
status_by store rows extent_blocks extents free volumes version = record {
  id = store.array.table.id;
  format = store.array.table.geometry.format;
  members = store.array.table.geometry.members;
  chunk = store.array.table.geometry.chunk;
  stripes = store.array.table.geometry.stripes;
  rows = rows;
  generation = store.array.table.generation;
  position = store.array.table.position;
  extent_blocks = extent_blocks;
  extents = extents;
  free = free;
  volumes = volumes;
  version = version;
  states = store.array.table.states;
  incarnations = store.array.table.incarnations;
}

-- it is the status of a store that goes on, where the rows and the counts are right
pub counts_told : (store : StoreView) (rows extent_blocks extents free volumes version : ℕ) → store.ended ≡ None → rows ≡ row_count store.array.table
    → extent_blocks ≡ (extents_for_store store).blocks → extents ≡ (extents_for_store store).count
    → ((lost : Option Lost) (those : VolumeMap) → IsSettledOn store lost those
    → (free ≡ (extents_for_store store).count - need (extents_for_store store).blocks those.volumes)
    × (volumes ≡ length those.volumes) × (version ≡ those.version))
    → TellsStatus store (Ok (status_by store rows extent_blocks extents free volumes version))
counts_told store rows extent_blocks extents free volumes version goes of_rows of_blocks of_extents counted = record {
  ended = λ refusal is. absurd (none-some refusal (sym goes ∙ is));
  going = λ going. record {
    id = refl;
    format = refl;
    members = refl;
    chunk = refl;
    stripes = refl;
    rows = of_rows;
    generation = refl;
    position = refl;
    states = λ slot of_set. refl;
    incarnations = λ slot of_set. refl;
    extent_blocks = of_blocks;
    extents = of_extents;
    free = λ lost those rests. (counted lost those rests).0;
    volumes = λ lost those rests. (counted lost those rests).1;
    version = λ lost those rests. (counted lost those rests).2;
  };
}

-- so they are by the map of extents that it keeps
pub status_told : (store : StoreView) (owners : List (Option Owned)) (rows extent_blocks extents free volumes version : ℕ) → store.ended ≡ None
    → AreKept (extents_for_store store) store.keeps owners
    → rows ≡ row_count store.array.table → extent_blocks ≡ (extents_for_store store).blocks → extents ≡ (extents_for_store store).count
    → free ≡ free_of owners → volumes ≡ used_records store.keeps.records
    → version ≡ store.keeps.version
    → TellsStatus store (Ok (status_by store rows extent_blocks extents free volumes version))
status_told store owners rows extent_blocks extents free volumes version goes kept of_rows of_blocks of_extents of_free of_volumes of_version =
    counts_told store rows extent_blocks extents free volumes version goes of_rows of_blocks of_extents counted
  where
    its_table : (lost : Option Lost) (those : VolumeMap) (rests : IsSettledOn store lost those) → rests.shown.table ≡ store.keeps
    its_table lost those rests =
        one_table (extents_for_store store).format rests.logical rests.shown.table store.keeps rests.shown.of_set.version rests.of_format
        rests.shown.spelled rests.spelled

    counted : (lost : Option Lost) (those : VolumeMap) → IsSettledOn store lost those
        → (free ≡ (extents_for_store store).count - need (extents_for_store store).blocks those.volumes) × (volumes ≡ length those.volumes)
        × (version ≡ those.version)
    counted lost those rests =
        let its : ExtentLayout = extents_for_store store in
        let all : free_of (take its.count rests.shown.table.extents) + need its.blocks those.volumes ≡ its.count =
        free_is_not_needed its rests.logical those rests.shown in
        let same : free_of (take its.count rests.shown.table.extents) ≡ free =
        ap (λ (t : VolumeTable). free_of (take its.count t.extents)) (its_table lost those rests) ∙ sym (of_free ∙ ap free_of kept.same) in (
          omega (arith, all, same),
          of_volumes ∙ ap (λ (t : VolumeTable). used_records t.records) (sym (its_table lost those rests))
              ∙ sym (records_are_counted (extents_for_store store) rests.logical those rests.shown).0,
          of_version ∙ ap (λ (t : VolumeTable). t.version) (sym (its_table lost those rests)) ∙ rests.shown.of_version,
        )
