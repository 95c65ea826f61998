-- What a logical list shows after its table is changed.
use Rattle.std.proofs.Common.{◌≡◌, ◌≢◌, ⊎_elim, inl, inr, ℕ, ◌≤◌, Bool, true, false, List, [], ◌++◌, take, get_or, slice_set, Option, Some, None}
use Rattle.extents.specs.Checks.{AreCleanBeyond}
use Rattle.extents.specs.Versions.{is_version_of, tells_dirty, upgraded_version}
use Rattle.extents.proofs.Tables.{upgraded_of_format, upgraded_tells}
use Rattle.volume_table.proofs.CleanExtents.{WasUsed, clean_moved}
use Rattle.std.proofs.Common.{refl, sym}
use Rattle.std.proofs.Common.{ap, subst, ◌∙◌, arith}
use Rattle.std.proofs.Props.{props}
use Rattle.std.proofs.Math.Logic.{∥∥₁_elim}
use Rattle.std.proofs.lemmas.Bool.{cases_eq, true≢false}
use Rattle.std.specs.Prelude.{unwrap_or}
use Rattle.std.proofs.lemmas.List.{get_or-set_other, get_or-set_same}
use Rattle.std.proofs.lemmas.Option.{none-some, same_Some}
use Rattle.extents.specs.declared.extent_layout.ExtentLayout.{ExtentLayout}
use Rattle.extents.specs.ExtentMaps.{is_dirty, place_of, sector_of_block}
use Rattle.extents.specs.declared.owned.Owned.{Owned}
use Rattle.extents.specs.declared.record.Record.{Record}
use Rattle.extents.specs.declared.volume_table.VolumeTable.{VolumeTable}
use Rattle.extents.specs.Owners.{owner_of, HasPlaces, IsAt}
use Rattle.extents.specs.SetExtents.{IsOfSet}
use Rattle.extents.specs.TableSpelling.{Spell}
use Rattle.extents.specs.Versions.{table_length}
use Rattle.extents.specs.VolumeTables.{AreDistinct, HasRecord, HaveTheirPlaces, extents_for, extents_of, record_of}
use Rattle.extents.proofs.OwnerLemmas.{places_by_owner}
use Rattle.extents.proofs.Tables.{some_within}
use Rattle.volume_table.specs.Names.{is_same_name}
use Rattle.volume_table.specs.Volumes.{Block, Volume, VolumeList, VolumeMap, blocks_of, with_volume, without, AreVolumes}
use Rattle.volume_table.specs.VolumeStep.{Create, Extend, Remove, Rename, Upgrade, Done, zero_blocks, blocks_in, reply_to, refusal_of, volumes_after}
use Rattle.volume_table.specs.Shows.{AreBlocksIn, AreClean, IsOfVolume, AreShown, Shows, HaveSameBlocks, ChangesName, ChangesOneRecord, IsRecordOf}
use Rattle.volume_table.proofs.VolumeLemmas.{same_name_is, same_name_itself, found_with_volume, others_with_volume, gone_without, others_without}
use Rattle.volume_table.proofs.StepLemmas.{step_keeps, changed_if_done, done_if_not_refused, upgrade_keeps}
use Rattle.volume_table.proofs.ShowsLemmas.{distinct_names}
use Rattle.volume_table.proofs.TableSizes.{table_short}

-- a map with another list of volumes
abbrev with_list : VolumeList → VolumeMap → VolumeMap
with_list list volumes = record { version = volumes.version; volumes = list }

-- a volume whose blocks stay where they are
stands_still : {extents : ExtentLayout} (owners : List (Option Owned)) (before left : List Block) (volumes : VolumeList) (number : ℕ) (entry : Record)
    → HaveSameBlocks extents owners number entry before left → IsOfVolume extents owners before volumes number entry
    → IsOfVolume extents owners left volumes number entry
stands_still {extents} owners before left volumes number entry same was =
    record {
      blocks = was.blocks;
      named = was.named;
      as_long = was.as_long;
      stand = λ j extent within at_extent. same j extent (omega (arith, within, was.as_long)) at_extent ∙ was.stand j extent within at_extent;
    }

pub unused_may_change : (extents : ExtentLayout) (before left : List Block) (volumes : VolumeMap) (shows : Shows extents before volumes)
    → take (table_length volumes.version) left ≡ take (table_length volumes.version) before
    → ((number : ℕ) (entry : Record) → record_of shows.table.records number ≡ Some entry
    → HaveSameBlocks extents shows.table.extents number entry before left)
    → AreClean extents shows.table.dirty shows.table.records shows.table.extents left → Shows extents left volumes
unused_may_change extents before left volumes shows same_table same clean =
    let table = shows.table in
    record {
      limits = shows.limits;
      table = table;
      of_version = shows.of_version;
      spelled = subst (λ (v : ℕ). take (table_length v) left ≡ take (table_length v) before) (sym shows.of_version) same_table ∙ shows.spelled;
      of_set = shows.of_set;
      shown = record {
        used = λ number entry used. stands_still table.extents before left volumes.volumes number entry (same number entry used)
            (shows.shown.used number entry used);
        all = shows.shown.all;
      };
      clean = clean;
    }

-- the volume of another record, in the new table
other_record : {extents : ExtentLayout} (records new_records : List (Option Record)) (owners new_owners : List (Option Owned)) (before left : List Block)
    (volumes new_volumes : VolumeList) (number other : ℕ) (entry : Record)
    → AreShown extents records owners before volumes → ChangesOneRecord extents records new_records owners new_owners before left number
    → other ≢ number → record_of new_records other ≡ Some entry
    → blocks_of entry.name.bytes.items new_volumes ≡ blocks_of entry.name.bytes.items volumes
    → IsOfVolume extents new_owners left new_volumes other entry
other_record {extents} records new_records owners new_owners before left volumes new_volumes number other entry shown changes differ new_used same_found =
    let used : record_of records other ≡ Some entry = sym (changes.same_records other differ) ∙ new_used in
    let was : IsOfVolume extents owners before volumes other entry = shown.used other entry used in
    record {
      blocks = was.blocks;
      named = same_found ∙ was.named;
      as_long = was.as_long;
      stand = λ j extent within at_extent.
          let at_old : IsAt owners extent other (place_of extents j) = changes.same_extents other extent (place_of extents j) differ at_extent in
          changes.same_blocks other entry differ used j extent (omega (arith, within, was.as_long)) at_old ∙ was.stand j extent within at_old;
    }

-- the record of another volume, in the new table
other_volume : {extents : ExtentLayout} (records new_records : List (Option Record)) (owners new_owners : List (Option Owned)) (before left : List Block)
    (number : ℕ) (name : List ℕ)
    → ChangesOneRecord extents records new_records owners new_owners before left number
    → ((entry : Record) → record_of records number ≡ Some entry → entry.name.bytes.items ≡ name → ⊥) → HasRecord records name → HasRecord new_records name
other_volume {extents} records new_records owners new_owners before left number name changes not_this has =
    let differ : has.number ≢ number = λ same. not_this has.entry (ap (record_of records) (sym same) ∙ has.used) has.named in
    record { number = has.number; entry = has.entry; used = changes.same_records has.number differ ∙ has.used; named = has.named }

put_is_shown_by : {extents : ExtentLayout} (records new_records : List (Option Record)) (owners new_owners : List (Option Owned)) (before left : List Block)
    (volumes : VolumeList)
    (new : Volume) (number : ℕ)
    → AreShown extents records owners before volumes → AreDistinct new_records
    → ChangesOneRecord extents records new_records owners new_owners before left number
    → IsRecordOf extents new_records new_owners left number new
    → ((entry : Record) → record_of records number ≡ Some entry → entry.name.bytes.items ≡ new.name)
    → AreShown extents new_records new_owners left (with_volume new volumes)
put_is_shown_by {extents} records new_records owners new_owners before left volumes new number shown distinct changes is_of was_named =
    record {
      used = λ other entry used. ⊎_elim (this_record other entry used) (any_other other entry used) (cases_eq other number);
      all = λ name blocks found. by_name name blocks found (is_same_name name new.name) refl;
    }
  where
    this_record : (other : ℕ) (entry : Record) → record_of new_records other ≡ Some entry → other ≡ number
        → IsOfVolume extents new_owners left (with_volume new volumes) other entry
    this_record other entry used same =
        let one : entry ≡ is_of.entry = same_Some entry is_of.entry (sym used ∙ ap (record_of new_records) same ∙ is_of.used) in
        let named : entry.name.bytes.items ≡ new.name = ap (λ (r : Record). r.name.bytes.items) one ∙ is_of.named in
        record {
          blocks = new.blocks;
          named = ap (λ n. blocks_of n (with_volume new volumes)) named ∙ found_with_volume new volumes;
          as_long = is_of.as_long ∙ ap (λ (r : Record). r.blocks) (sym one);
          stand = subst (λ n. AreBlocksIn extents left new_owners n new.blocks) (sym same) is_of.stand;
        }

    any_other : (other : ℕ) (entry : Record) → record_of new_records other ≡ Some entry → (other ≡ number → ⊥)
        → IsOfVolume extents new_owners left (with_volume new volumes) other entry
    any_other other entry used differ =
        let apart : entry.name.bytes.items ≡ new.name → ⊥ = λ same. differ (distinct other number entry is_of.entry used is_of.used (same ∙ sym is_of.named)) in
        other_record records new_records owners new_owners before left volumes (with_volume new volumes) number other entry shown changes differ used
        (others_with_volume entry.name.bytes.items new volumes apart)

    by_name : (name : List ℕ) (blocks : List Block) → blocks_of name (with_volume new volumes) ≡ Some blocks → (b : Bool) → is_same_name name new.name ≡ b
        → HasRecord new_records name
    by_name name blocks found true e = record {
      number = number;
      entry = is_of.entry;
      used = is_of.used;
      named =
          is_of.named ∙ sym (same_name_is name new.name e);
    }
    by_name name blocks found false e =
        let apart : name ≡ new.name → ⊥ = λ same. true≢false (sym (same_name_itself new.name) ∙ ap (λ n. is_same_name n new.name) (sym same) ∙ e) in
        other_volume records new_records owners new_owners before left number name changes (λ entry used named. apart (sym named ∙ was_named entry used))
        (shown.all name blocks (sym (others_with_volume name new volumes apart) ∙ found))

pub put_is_shown : (extents : ExtentLayout) (before left : List Block) (volumes : VolumeMap) (new : Volume) (table : VolumeTable) (number : ℕ)
    (shows : Shows extents before volumes)
    → AreVolumes extents (with_list (with_volume new volumes.volumes) volumes)
    → Spell left table → table.version ≡ volumes.version → IsOfSet extents table
    → ChangesOneRecord extents shows.table.records table.records shows.table.extents table.extents before left number
    → IsRecordOf extents table.records table.extents left number new
    → ((entry : Record) → record_of shows.table.records number ≡ Some entry → entry.name.bytes.items ≡ new.name)
    → AreClean extents table.dirty table.records table.extents left
    → Shows extents left (with_list (with_volume new volumes.volumes) volumes)
put_is_shown extents before left volumes new table number shows limits spelled of_version of_set changes is_of was_named clean =
    record {
      limits = limits;
      table = table;
      of_version = of_version;
      spelled = spelled;
      of_set = of_set;
      shown = put_is_shown_by shows.table.records table.records shows.table.extents table.extents before left volumes.volumes new number shows.shown
          (distinct_names table.version table.records table.extents table.is_table) changes is_of was_named;
      clean = clean;
    }

removal_is_shown_by : {extents : ExtentLayout} (records new_records : List (Option Record)) (owners new_owners : List (Option Owned))
    (before left : List Block) (volumes : VolumeList)
    (number : ℕ) (entry : Record)
    → AreShown extents records owners before volumes → AreDistinct records
    → ChangesOneRecord extents records new_records owners new_owners before left number → record_of records number ≡ Some entry
    → record_of new_records number ≡ None
    → AreShown extents new_records new_owners left (without entry.name.bytes.items volumes)
removal_is_shown_by {extents} records new_records owners new_owners before left volumes number entry shown distinct changes used free =
    record {
      used = any_other;
      all = λ other blocks found. by_name other blocks found (is_same_name other name) refl;
    }
  where
    name : List ℕ
    name = entry.name.bytes.items

    any_other : (other : ℕ) (other_entry : Record) → record_of new_records other ≡ Some other_entry
        → IsOfVolume extents new_owners left (without name volumes) other other_entry
    any_other other other_entry new_used =
        let differ : other ≢ number = λ same. none-some other_entry (sym free ∙ ap (record_of new_records) (sym same) ∙ new_used) in
        let old_used : record_of records other ≡ Some other_entry = sym (changes.same_records other differ) ∙ new_used in
        let apart : other_entry.name.bytes.items ≡ name → ⊥ = λ same. differ (distinct other number other_entry entry old_used used same) in
        other_record records new_records owners new_owners before left volumes (without name volumes) number other other_entry shown changes differ new_used
        (others_without other_entry.name.bytes.items name volumes apart)

    by_name : (other : List ℕ) (blocks : List Block) → blocks_of other (without name volumes) ≡ Some blocks → (b : Bool) → is_same_name other name ≡ b
        → HasRecord new_records other
    by_name other blocks found true e = absurd (none-some blocks
        (sym (gone_without name volumes) ∙ ap (λ n. blocks_of n (without name volumes)) (sym (same_name_is other name e)) ∙ found))
    by_name other blocks found false e =
        let apart : other ≡ name → ⊥ = λ same. true≢false (sym (same_name_itself name) ∙ ap (λ n. is_same_name n name) (sym same) ∙ e) in
        other_volume records new_records owners new_owners before left number other changes
        (λ this this_used named. apart (sym named ∙ ap (λ (r : Record). r.name.bytes.items) (same_Some this entry (sym this_used ∙ used))))
        (shown.all other blocks (sym (others_without other name volumes apart) ∙ found))

pub removal_is_shown : (extents : ExtentLayout) (before left : List Block) (volumes : VolumeMap) (table : VolumeTable) (number : ℕ) (entry : Record)
    (shows : Shows extents before volumes)
    → AreVolumes extents (with_list (without entry.name.bytes.items volumes.volumes) volumes)
    → Spell left table → table.version ≡ volumes.version → IsOfSet extents table
    → ChangesOneRecord extents shows.table.records table.records shows.table.extents table.extents before left number
    → record_of shows.table.records number ≡ Some entry → record_of table.records number ≡ None
    → AreClean extents table.dirty table.records table.extents left
    → Shows extents left (with_list (without entry.name.bytes.items volumes.volumes) volumes)
removal_is_shown extents before left volumes table number entry shows limits spelled of_version of_set changes used free clean =
    record {
      limits = limits;
      table = table;
      of_version = of_version;
      spelled = spelled;
      of_set = of_set;
      shown = removal_is_shown_by shows.table.records table.records shows.table.extents table.extents before left volumes.volumes number entry shows.shown
          (distinct_names shows.table.version shows.table.records shows.table.extents shows.table.is_table) changes used free;
      clean = clean;
    }

-- the commands
pub create_is_shown : (extents : ExtentLayout) (before left : List Block) (volumes : VolumeMap) (name : List ℕ) (count : ℕ) (table : VolumeTable) (number : ℕ)
    (shows : Shows extents before volumes)
    → reply_to extents (Create name count) volumes ≡ Done
    → Spell left table → table.version ≡ volumes.version → IsOfSet extents table
    → ChangesOneRecord extents shows.table.records table.records shows.table.extents table.extents before left number
    → IsRecordOf extents table.records table.extents left number (record { name = name; blocks = zero_blocks count })
    → record_of shows.table.records number ≡ None → AreClean extents table.dirty table.records table.extents left
    → Shows extents left (volumes_after extents (Create name count) volumes)
create_is_shown extents before left volumes name count table number shows replied spelled of_version of_set changes is_of unused clean =
    let same = changed_if_done extents (Create name count) volumes (done_if_not_refused (refusal_of extents (Create name count) volumes) Done replied) in
    let limits = step_keeps extents (Create name count) volumes tt shows.limits in
    subst (Shows extents left) (sym same)
    (put_is_shown extents before left volumes (record { name = name; blocks = zero_blocks count }) table number shows (subst (AreVolumes extents) same limits)
    spelled of_version of_set changes is_of
    (λ entry used. absurd (none-some entry (sym unused ∙ used))) clean)

pub extend_is_shown : (extents : ExtentLayout) (before left : List Block) (volumes : VolumeMap) (growth : ℕ) (table : VolumeTable) (number : ℕ) (entry : Record)
    (shows : Shows extents before volumes)
    → record_of shows.table.records number ≡ Some entry
    → reply_to extents (Extend entry.name.bytes.items growth) volumes ≡ Done
    → Spell left table → table.version ≡ volumes.version → IsOfSet extents table
    → ChangesOneRecord extents shows.table.records table.records shows.table.extents table.extents before left number
    → IsRecordOf extents table.records table.extents left number
    (record { name = entry.name.bytes.items; blocks = blocks_in entry.name.bytes.items volumes.volumes ++ zero_blocks growth })
    → AreClean extents table.dirty table.records table.extents left
    → Shows extents left (volumes_after extents (Extend entry.name.bytes.items growth) volumes)
extend_is_shown extents before left volumes growth table number entry shows used replied spelled of_version of_set changes is_of clean =
    let name = entry.name.bytes.items in
    let same = changed_if_done extents (Extend name growth) volumes (done_if_not_refused (refusal_of extents (Extend name growth) volumes) Done replied) in
    let limits = step_keeps extents (Extend name growth) volumes tt shows.limits in
    subst (Shows extents left) (sym same)
    (put_is_shown extents before left volumes (record { name = name; blocks = blocks_in name volumes.volumes ++ zero_blocks growth }) table number shows
    (subst (AreVolumes extents) same limits) spelled of_version of_set changes is_of
    (λ other other_used. ap (λ (r : Record). r.name.bytes.items) (same_Some other entry (sym other_used ∙ used))) clean)

pub remove_is_shown : (extents : ExtentLayout) (before left : List Block) (volumes : VolumeMap) (table : VolumeTable) (number : ℕ) (entry : Record)
    (shows : Shows extents before volumes)
    → record_of shows.table.records number ≡ Some entry
    → reply_to extents (Remove entry.name.bytes.items) volumes ≡ Done
    → Spell left table → table.version ≡ volumes.version → IsOfSet extents table
    → ChangesOneRecord extents shows.table.records table.records shows.table.extents table.extents before left number
    → record_of table.records number ≡ None → AreClean extents table.dirty table.records table.extents left
    → Shows extents left (volumes_after extents (Remove entry.name.bytes.items) volumes)
remove_is_shown extents before left volumes table number entry shows used replied spelled of_version of_set changes free clean =
    let name = entry.name.bytes.items in
    let same = changed_if_done extents (Remove name) volumes (done_if_not_refused (refusal_of extents (Remove name) volumes) Done replied) in
    let limits = step_keeps extents (Remove name) volumes tt shows.limits in
    subst (Shows extents left) (sym same)
    (removal_is_shown extents before left volumes table number entry shows (subst (AreVolumes extents) same limits) spelled of_version of_set changes used
    free clean)

-- ---- a rename

-- the volume is taken away with its record, and put back with the record of its new name
renaming_is_shown_by : {extents : ExtentLayout} (records new_records : List (Option Record)) (owners new_owners : List (Option Owned))
    (before left : List Block) (volumes : VolumeList)
    (number : ℕ) (entry : Record) (name : List ℕ)
    → AreShown extents records owners before volumes → AreDistinct records → AreDistinct new_records → record_of records number ≡ Some entry
    → ChangesName records new_records number entry name
    → ((extent : ℕ) → owner_of new_owners extent ≡ owner_of owners extent)
    → ((extent j : ℕ) → get_or left (sector_of_block extents extent j) [] ≡ get_or before (sector_of_block extents extent j) [])
    → AreShown extents new_records new_owners left
    (with_volume (record { name = name; blocks = blocks_in entry.name.bytes.items volumes }) (without entry.name.bytes.items volumes))
renaming_is_shown_by {extents} records new_records owners new_owners before left volumes number entry name shown distinct new_distinct used changes same_owner
    same_sector =
    subst (λ (blocks : List Block). AreShown extents new_records new_owners left
    (with_volume (record { name = name; blocks = blocks }) (without old volumes)))
    (sym (ap (λ o. unwrap_or o []) its.named))
    (put_is_shown_by rest new_records owners new_owners before left (without old volumes) (record { name = name; blocks = its.blocks }) number without_it
    new_distinct back is_of
    (λ one one_used. absurd (none-some one (sym gone ∙ one_used))))
  where
    old : List ℕ
    old = entry.name.bytes.items

    rest : List (Option Record)
    rest = slice_set records number None

    rest_else : (other : ℕ) → other ≢ number → record_of rest other ≡ record_of records other
    rest_else other apart = get_or-set_other records number other None None apart

    gone : record_of rest number ≡ None
    gone = get_or-set_same records number None None (some_within records number entry used)

    its : IsOfVolume extents owners before volumes number entry
    its = shown.used number entry used

    away : ChangesOneRecord extents records rest owners owners before before number
    away = record {
      same_records = rest_else;
      same_extents = λ other extent place apart at. at;
      same_blocks = λ other one apart one_used j extent below at. refl;
    }

    without_it : AreShown extents rest owners before (without old volumes)
    without_it = removal_is_shown_by records rest owners owners before before volumes number entry shown distinct away used gone

    back : ChangesOneRecord extents rest new_records owners new_owners before left number
    back = record {
      same_records = λ other apart. changes.others other apart ∙ sym (rest_else other apart);
      same_extents = λ other extent place apart at. sym (same_owner extent) ∙ at;
      same_blocks = λ other one apart one_used j extent below at. same_sector extent j;
    }

    is_of : IsRecordOf extents new_records new_owners left number (record { name = name; blocks = its.blocks })
    is_of = record {
      entry = changes.entry;
      used = changes.used;
      named = changes.named;
      as_long = its.as_long ∙ sym changes.as_long;
      stand = λ j extent below at. same_sector extent j ∙ its.stand j extent below (sym (same_owner extent) ∙ at);
    }

-- a table that tells the same extents as dirty tells none that the set doesn't have
same_clean_beyond : (extents : ExtentLayout) (was table : VolumeTable) → table.dirty ≡ was.dirty → tells_dirty table.version ≡ tells_dirty was.version
    → IsOfSet extents was → AreCleanBeyond table.version table.dirty extents.count
same_clean_beyond extents was table same_dirty same_tells of_set tells extent beyond below =
    ap (λ (dirty : List Bool). is_dirty dirty extent) same_dirty ∙ of_set.clean_beyond (sym same_tells ∙ tells) extent beyond below

-- a table with the same owners, in which one record has another name, may be the set's too
renamed_of_set : (extents : ExtentLayout) (was table : VolumeTable) (number : ℕ) (entry : Record) (name : List ℕ) → record_of was.records number ≡ Some entry
    → ChangesName was.records table.records number entry name → ((extent : ℕ) → owner_of table.extents extent ≡ owner_of was.extents extent)
    → table.version ≡ was.version → table.dirty ≡ was.dirty → IsOfSet extents was → IsOfSet extents table
renamed_of_set extents was table number entry name used changes same_owner same_version same_dirty of_set = record {
  version = ap (is_version_of extents.format) same_version ∙ of_set.version;
  clean_beyond = same_clean_beyond extents was table same_dirty (ap tells_dirty same_version) of_set;
  free_beyond = λ extent above. same_owner extent ∙ of_set.free_beyond extent above;
  placed = ∥∥₁_elim of_set.placed (hlevel props) (λ placed. ∣ (λ volume.
      places_by_owner was.extents table.extents volume (extents_of extents.blocks (record_of table.records volume)) same_owner
      (subst (λ n. HasPlaces was.extents volume n) (sym (as_many volume)) (placed volume))) ∣₁);
}
  where
    as_many : (volume : ℕ) → extents_of extents.blocks (record_of table.records volume) ≡ extents_of extents.blocks (record_of was.records volume)
    as_many volume = elim (cases_eq volume number) [
      | inl same ↦ ap (λ v. extents_of extents.blocks (record_of table.records v)) same ∙ ap (extents_of extents.blocks) changes.used
          ∙ ap (extents_for extents.blocks) changes.as_long ∙ sym (ap (extents_of extents.blocks) used)
          ∙ sym (ap (λ v. extents_of extents.blocks (record_of was.records v)) same)
      | inr apart ↦ ap (extents_of extents.blocks) (changes.others volume apart)
    ]

-- and its clean extents stay so
renamed_clean : (extents : ExtentLayout) (was table : VolumeTable) (number : ℕ) (entry : Record) (name : List ℕ) (before left : List Block)
    → record_of was.records number ≡ Some entry
    → ChangesName was.records table.records number entry name → ((extent : ℕ) → owner_of table.extents extent ≡ owner_of was.extents extent)
    → table.dirty ≡ was.dirty
    → ((extent j : ℕ) → get_or left (sector_of_block extents extent j) [] ≡ get_or before (sector_of_block extents extent j) [])
    → AreClean extents was.dirty was.records was.extents before → AreClean extents table.dirty table.records table.extents left
renamed_clean extents was table number entry name before left used changes same_owner same_dirty same_sector =
    clean_moved extents was.dirty table.dirty was.records table.records was.extents table.extents before left
    (λ extent clean. ap (λ (dirty : List Bool). is_dirty dirty extent) (sym same_dirty) ∙ clean)
    (λ extent clean free. sym (same_owner extent) ∙ free)
    (λ extent other place at. sym (same_owner extent) ∙ at)
    (λ extent other place one at one_used. was_used other one one_used)
    same_sector
  where
    was_used : (other : ℕ) (one : Record) → record_of table.records other ≡ Some one → WasUsed was.records other one
    was_used other one one_used = elim (cases_eq other number) [
      | inl same ↦
          let is : one ≡ changes.entry = same_Some one changes.entry (sym one_used ∙ ap (record_of table.records) same ∙ changes.used) in
          record {
            before = entry;
            used = ap (record_of was.records) same ∙ used;
            fewer = omega (arith, changes.as_long, ap (λ (r : Record). r.blocks) is);
          }
      | inr apart ↦ record { before = one; used = sym (changes.others other apart) ∙ one_used; fewer = omega arith }
    ]

pub rename_is_shown : (extents : ExtentLayout) (before left : List Block) (volumes : VolumeMap) (name : List ℕ) (table : VolumeTable) (number : ℕ)
    (entry : Record)
    (shows : Shows extents before volumes)
    → record_of shows.table.records number ≡ Some entry
    → reply_to extents (Rename entry.name.bytes.items name) volumes ≡ Done
    → Spell left table → table.version ≡ volumes.version → ChangesName shows.table.records table.records number entry name
    → ((extent : ℕ) → owner_of table.extents extent ≡ owner_of shows.table.extents extent) → table.dirty ≡ shows.table.dirty
    → ((sector : ℕ) → table_length volumes.version ≤ sector → get_or left sector [] ≡ get_or before sector [])
    → Shows extents left (volumes_after extents (Rename entry.name.bytes.items name) volumes)
rename_is_shown extents before left volumes name table number entry shows used replied spelled of_version changes same_owner same_dirty beyond =
    let old = entry.name.bytes.items in
    let was = shows.table in
    let same = changed_if_done extents (Rename old name) volumes (done_if_not_refused (refusal_of extents (Rename old name) volumes) Done replied) in
    let limits = step_keeps extents (Rename old name) volumes tt shows.limits in
    let after : Shows extents left (with_list (with_volume (record { name = name; blocks = blocks_in old volumes.volumes }) (without old volumes.volumes))
    volumes) = record {
      limits = subst (AreVolumes extents) same limits;
      table = table;
      of_version = of_version;
      spelled = spelled;
      of_set = renamed_of_set extents was table number entry name used changes same_owner (of_version ∙ sym shows.of_version) same_dirty shows.of_set;
      shown = renaming_is_shown_by was.records table.records was.extents table.extents before left volumes.volumes number entry name shows.shown
          (distinct_names was.version was.records was.extents was.is_table) (distinct_names table.version table.records table.extents table.is_table) used
          changes same_owner
          (λ extent j. beyond (sector_of_block extents extent j) (omega (arith, table_short volumes.version, extents.limits.above)));
      clean = renamed_clean extents was table number entry name before left used changes same_owner same_dirty
          (λ extent j. beyond (sector_of_block extents extent j) (omega (arith, table_short volumes.version, extents.limits.above))) shows.clean;
    } in
    subst (Shows extents left) (sym same) after

-- ---- an upgrade

-- an upgraded table with the same records and owners may be the set's too
pub same_of_set : (extents : ExtentLayout) (was table : VolumeTable) → table.version ≡ upgraded_version was.version → table.records ≡ was.records
    → table.extents ≡ was.extents → table.dirty ≡ was.dirty → IsOfSet extents was → IsOfSet extents table
same_of_set extents was table upgraded same_records same_extents same_dirty of_set = record {
  version = ap (is_version_of extents.format) upgraded ∙ upgraded_of_format extents.format was.version of_set.version;
  free_beyond = λ extent above. ap (λ (its : List (Option Owned)). owner_of its extent) same_extents ∙ of_set.free_beyond extent above;
  clean_beyond = same_clean_beyond extents was table same_dirty (ap tells_dirty upgraded ∙ upgraded_tells was.version) of_set;
  placed = subst (λ (its : List (Option Record)). ∥ HaveTheirPlaces extents.blocks its table.extents ∥₁) (sym same_records)
      (subst (λ (its : List (Option Owned)). ∥ HaveTheirPlaces extents.blocks was.records its ∥₁) (sym same_extents) of_set.placed);
}

pub upgrade_is_shown : (extents : ExtentLayout) (before left : List Block) (volumes : VolumeMap) (table : VolumeTable) (shows : Shows extents before volumes)
    → Spell left table → table.version ≡ upgraded_version shows.table.version → table.records ≡ shows.table.records → table.extents ≡ shows.table.extents
    → table.dirty ≡ shows.table.dirty
    → ((sector : ℕ) → table_length table.version ≤ sector → get_or left sector [] ≡ get_or before sector [])
    → Shows extents left (volumes_after extents Upgrade volumes)
upgrade_is_shown extents before left volumes table shows spelled upgraded same_records same_extents same_dirty beyond =
    record {
      limits = upgrade_keeps extents volumes shows.limits;
      table = table;
      of_version = upgraded ∙ ap upgraded_version shows.of_version;
      spelled = spelled;
      of_set = same_of_set extents shows.table table upgraded same_records same_extents same_dirty shows.of_set;
      shown = subst (λ (records : List (Option Record)). AreShown extents records table.extents left volumes.volumes) (sym same_records)
          (subst (λ (owners : List (Option Owned)). AreShown extents shows.table.records owners left volumes.volumes) (sym same_extents) still_shown);
      clean = subst (λ (records : List (Option Record)). AreClean extents table.dirty records table.extents left) (sym same_records)
          (subst (λ (owners : List (Option Owned)). AreClean extents table.dirty shows.table.records owners left) (sym same_extents)
          (subst (λ (dirty : List Bool). AreClean extents dirty shows.table.records shows.table.extents left) (sym same_dirty) still_clean));
    }
  where
    still_shown : AreShown extents shows.table.records shows.table.extents left volumes.volumes
    still_shown = record {
      used = λ number entry used.
          stands_still shows.table.extents before left volumes.volumes number entry
          (λ j extent below at. beyond (sector_of_block extents extent j) (omega (arith, table_short table.version, extents.limits.above)))
          (shows.shown.used number entry used);
      all = shows.shown.all;
    }

    still_clean : AreClean extents shows.table.dirty shows.table.records shows.table.extents left
    still_clean =
        clean_moved extents shows.table.dirty shows.table.dirty shows.table.records shows.table.records shows.table.extents shows.table.extents before left
        (λ extent clean. clean) (λ extent clean free. free) (λ extent number place at. at)
        (λ extent number place entry at used. record { before = entry; used = used; fewer = omega arith })
        (λ extent j. beyond (sector_of_block extents extent j) (omega (arith, table_short table.version, extents.limits.above))) shows.clean
