-- A volume is removed, by what its calls of the array do.
use Rattle.std.proofs.Common.{◌≡◌, ◌⊎◌, inl, inr, ℕ, false, List, [], ◌∷◌, length, slice_set, Option, Some, None, Ok, Err, refl, sym, ◌∙◌, ap, subst, arith}
use Rattle.std.specs.Prelude.{Contains}
use Rattle.std.proofs.lemmas.Bool.{cases_eq, cases_lt}
use Rattle.std.proofs.lemmas.List.{get_or-set_other, get_or-set_same, get_or_past, length-set}
use Rattle.std.proofs.lemmas.List.Elements.{Contains-push}
use Rattle.std.proofs.lemmas.Option.{none-some}
use Rattle.sector_model.specs.declared.refusal.Refusal.{Refusal}
use Rattle.sector_model.specs.declared.refusal.Refusal.TheVariants.{NoVolume}
use Rattle.sector_model.specs.Bank.{IsTrueTo}
use Rattle.layout_map.specs.declared.geometry.Geometry.{Geometry}
use Rattle.array_io.specs.Believed.ArrayCalls.{Answer}
use Rattle.array_io.specs.Believed.Views.{EndsIt}
use Rattle.extents.specs.declared.extent_layout.ExtentLayout.{ExtentLayout}
use Rattle.extents.specs.ExtentMaps.{sector_of_block}
use Rattle.extents.specs.SetExtents.{extents_in}
use Rattle.extents.specs.declared.owned.Owned.{Owned}
use Rattle.extents.specs.declared.record.Record.{Record}
use Rattle.extents.specs.declared.volume_table.VolumeTable.{VolumeTable}
use Rattle.extents.specs.ExtentMaps.{IsGivenBack, is_dirty}
use Rattle.extents.proofs.OwnerLemmas.{free_or_owned}
use Rattle.volume_table.proofs.CleanExtents.{WasUsed, clean_moved}
use Rattle.std.proofs.lemmas.Bool.{true≢false}
use Rattle.extents.specs.Owners.{owner_of, IsAt}
use Rattle.extents.specs.TableSpelling.{Spell}
use Rattle.extents.proofs.Versions.{table_length_most}
use Rattle.extents.specs.VolumeTables.{IsMarked, record_of}
use Rattle.extents.proofs.Sectors.{table_all_records}
use Rattle.extents.proofs.TableLaws.{one_table}
use Rattle.volume_table.specs.Volumes.{Block, VolumeMap}
use Rattle.volume_table.specs.VolumeStep.{Done, Remove, done, or_refused, refusal_of, reply_to, volumes_after}
use Rattle.volume_table.specs.Shows.{AreClean, ChangesOneRecord, Shows}
use Rattle.volume_table.specs.Stands.{StoreView}
use Rattle.volume_table.specs.StoreCalls.{extents_for_store}
use Rattle.volume_table.specs.StoreChanges.{HasTable, MayPutTable, PutsTable}
use Rattle.volume_table.specs.StoreFunctions.{RemovesVolume}
use Rattle.volume_table.specs.Admission.{AreKept, HasRecordAt, ShowsBy}
use Rattle.volume_table.specs.ListChanges.{ChangesList}
use Rattle.volume_table.proofs.KeptMaps.{found_record, kept_owner}
use Rattle.volume_table.proofs.StepLemmas.{changed_if_done}
use Rattle.volume_table.proofs.StoreSteps.{done_with_volumes, ended_with_volumes, refused_at_once}
use Rattle.volume_table.proofs.TableLemmas.{remove_is_shown}

-- an extent that another volume has after one gave its own back was that volume's before
was_at : (owners left : List (Option Owned)) (number other extent place : ℕ) → IsGivenBack owners left number → IsAt left extent other place
    → IsAt owners extent other place
was_at owners left number other extent place given there = by_owner (owner_of owners extent) refl
  where
    by_owner : (one : Option Owned) → owner_of owners extent ≡ one → IsAt owners extent other place
    by_owner None none = absurd (none-some _ (sym (given.left extent none) ∙ there))
    by_owner (Some owned) is = elim (cases_eq owned.volume number) [
      | inl same ↦ absurd (none-some _ (sym (given.freed extent owned.place
          (is ∙ ap (λ (v : ℕ). Some (let o : Owned = record { volume = v; place = owned.place } in o)) same)) ∙ there))
      | inr apart ↦ is ∙ sym (given.kept extent owned.volume owned.place apart is) ∙ there
    ]

-- all other records stay, with the extents and the blocks of their volumes
others_stay : (extents : ExtentLayout) (old new : VolumeTable) (owners left : List (Option Owned)) (number : ℕ) (before now : List Block)
    → AreKept extents old owners
    → AreKept extents new left
    → new.records ≡ slice_set old.records number None → IsGivenBack owners left number → HasTable new before now
    → ChangesOneRecord extents old.records new.records old.extents new.extents before now number
others_stay extents old new owners left number before now kept kept_then records given has = record {
  same_records = λ other apart. ap (λ (those : List (Option Record)). record_of those other) records
      ∙ get_or-set_other old.records number other None None apart;
  same_extents = λ other extent place apart there.
      sym (kept_owner extents old owners kept extent) ∙ was_at owners left number other extent place given
      (kept_owner extents new left kept_then extent ∙ there);
  same_blocks = λ other entry apart used j extent below there. has.beyond (sector_of_block extents extent j)
      (omega (arith, table_length_most new.version));
}

-- the record is not used any more
removed_unused : (old new : VolumeTable) (number : ℕ) → new.records ≡ slice_set old.records number None → record_of new.records number ≡ None
removed_unused old new number records =
    ap (λ (those : List (Option Record)). record_of those number) records ∙ elim (cases_lt number (length old.records)) [
      | inl within ↦ get_or-set_same old.records number None None within
      | inr beyond ↦ get_or_past (slice_set old.records number None) number None (omega (arith, beyond, length-set old.records number None))
    ]

-- clean extents stay so: those that are given back are dirty
removed_clean : (extents : ExtentLayout) (old new : VolumeTable) (owners left : List (Option Owned)) (number : ℕ) (before now : List Block)
    → AreKept extents old owners → AreKept extents new left → new.records ≡ slice_set old.records number None
    → IsMarked old.extents number old.dirty new.dirty → IsGivenBack owners left number → HasTable new before now
    → AreClean extents old.dirty old.records old.extents before → AreClean extents new.dirty new.records new.extents now
removed_clean extents old new owners left number before now kept kept_then records marked given has clean =
    clean_moved extents old.dirty new.dirty old.records new.records old.extents new.extents before now flags frees ats used
    (λ extent block. has.beyond (sector_of_block extents extent block) (omega (arith, table_length_most new.version, extents.limits.above))) clean
  where
    -- one that is clean now is not the volume's
    not_its : (extent place : ℕ) → is_dirty new.dirty extent ≡ false → IsAt old.extents extent number place → ⊥
    not_its extent place is_clean at = true≢false (sym (marked.marked extent place at) ∙ is_clean)

    flags : (extent : ℕ) → is_dirty new.dirty extent ≡ false → is_dirty old.dirty extent ≡ false
    flags extent is_clean = sym (marked.others extent (λ place at. not_its extent place is_clean at)) ∙ is_clean

    ats : (extent other place : ℕ) → IsAt new.extents extent other place → IsAt old.extents extent other place
    ats extent other place at =
        sym (kept_owner extents old owners kept extent)
        ∙ was_at owners left number other extent place given (kept_owner extents new left kept_then extent ∙ at)

    frees : (extent : ℕ) → is_dirty new.dirty extent ≡ false → owner_of new.extents extent ≡ None → owner_of old.extents extent ≡ None
    frees extent is_clean is_free = elim (free_or_owned old.extents extent) [
      | inl free ↦ free
      | inr owned ↦ elim (cases_eq owned.volume number) [
        | inl same ↦ absurd (not_its extent owned.place is_clean (subst (λ (v : ℕ). IsAt old.extents extent v owned.place) same owned.at))
        | inr apart ↦ absurd (none-some _ (sym (kept_owner extents new left kept_then extent ∙ is_free)
            ∙ given.kept extent owned.volume owned.place apart (kept_owner extents old owners kept extent ∙ owned.at)))
      ]
    ]

    used : (extent other place : ℕ) (entry : Record) → IsAt new.extents extent other place → record_of new.records other ≡ Some entry
        → WasUsed old.records other entry
    used extent other place entry at entry_used = elim (cases_eq other number) [
      | inl same ↦ absurd (none-some entry (sym (removed_unused old new number records) ∙ ap (record_of new.records) (sym same) ∙ entry_used))
      | inr apart ↦ record {
        before = entry;
        used = sym (ap (λ (those : List (Option Record)). record_of those other) records ∙ get_or-set_other old.records number other None None apart)
            ∙ entry_used;
        fewer = omega arith;
      }
    ]

-- so the list with the new table shows the volumes but the one that is removed
removal_shows : (extents : ExtentLayout) (old new : VolumeTable) (owners left : List (Option Owned)) (name : List ℕ) (number : ℕ) (before now : List Block)
    (volumes : VolumeMap) → AreKept extents old owners
    → AreKept extents new left → new.version ≡ old.version → HasRecordAt old.records name number → new.records ≡ slice_set old.records number None
    → IsMarked old.extents number old.dirty new.dirty → IsGivenBack owners left number → ShowsBy extents old before volumes
    → None ≡ refusal_of extents (Remove name) volumes → HasTable new before now → ShowsBy extents new now (done (Remove name) volumes)
removal_shows extents old new owners left name number before now volumes kept kept_then version found records marked given shown admitted has = record {
  shows = after;
  by = one_table extents.format now after.table new after.of_set.version kept_then.of_set.version after.spelled has.spelled;
}
  where
    is_done : reply_to extents (Remove name) volumes ≡ Done
    is_done = ap (λ o. or_refused o Done) (sym admitted)

    gone : record_of new.records number ≡ None
    gone = ap (λ (those : List (Option Record)). record_of those number) records
        ∙ get_or-set_same old.records number None None (omega (arith, found.of_table, table_all_records old.records old.extents old.is_table))

    after : Shows extents now (done (Remove name) volumes)
    after =
        subst (λ (those : VolumeMap). Shows extents now those) (changed_if_done extents (Remove name) volumes (sym admitted))
        (subst (λ (n : List ℕ). Shows extents now (volumes_after extents (Remove n) volumes)) found.named
        (remove_is_shown extents before now volumes new number found.entry shown.shows
        (ap (λ (t : VolumeTable). record_of t.records number) shown.by ∙ found.used)
        (subst (λ (n : List ℕ). reply_to extents (Remove n) volumes ≡ Done) (sym found.named) is_done) has.spelled
        (version ∙ ap (λ (t : VolumeTable). t.version) (sym shown.by) ∙ shown.shows.of_version) kept_then.of_set
        (subst (λ (t : VolumeTable). ChangesOneRecord extents t.records new.records t.extents new.extents before now number) (sym shown.by)
        (others_stay extents old new owners left number before now kept kept_then records given has)) gone
        (removed_clean extents old new owners left number before now kept kept_then records marked given has
        (subst (λ (t : VolumeTable). AreClean extents t.dirty t.records t.extents before) shown.by shown.shows.clean))))

-- A removal that is admitted, by its one call.
pub remove_applies : (honest : Type 0) (name : List ℕ) (old new : StoreView) (owners left : List (Option Owned)) (number : ℕ) (result : Answer)
    → old.ended ≡ None
    → AreKept (extents_for_store old) old.keeps owners → AreKept (extents_for_store new) new.keeps left → new.keeps.version ≡ old.keeps.version
    → ∥ HasRecordAt old.keeps.records name number ∥₁
    → new.keeps.records ≡ slice_set old.keeps.records number None → IsMarked old.keeps.extents number old.keeps.dirty new.keeps.dirty
    → IsGivenBack owners left number
    → ((extents : ExtentLayout) (sectors : List Block) (volumes : VolumeMap) → ShowsBy extents old.keeps sectors volumes
    → None ≡ refusal_of extents (Remove name) volumes)
    → (honest → IsTrueTo new.array.panel new.array.history)
    → ChangesList honest 1 (MayPutTable old.keeps new.keeps) (PutsTable old.keeps new.keeps) old.array new.array result
    → (result ≡ Ok tt → new.ended ≡ None) → ((refusal : Refusal) → result ≡ Err refusal → new.ended ≡ Some refusal) → RemovesVolume honest name old new result
remove_applies honest name old new owners left number result going kept kept_then version found records marked given admitted true_to changes goes ends =
    by_result result changes goes ends
  where
    kept_there : AreKept (extents_for_store old) new.keeps left
    kept_there = subst (λ (its : Geometry). AreKept (extents_in its) new.keeps left) changes.goes_on.not_older.same_geometry kept_then

    shows : (V W : List Block) (volumes : VolumeMap) → ShowsBy (extents_for_store old) old.keeps V volumes → HasTable new.keeps V W
        → ShowsBy (extents_for_store old) new.keeps W (done (Remove name) volumes)
    shows V W volumes shown has =
        removal_shows (extents_for_store old) old.keeps new.keeps owners left name number V W volumes kept kept_there version
        (found_record old.keeps.records name number found) records marked given shown
        (admitted (extents_for_store old) V volumes shown) has

    -- the list begins with the old table's spelling
    begins : (V : List Block) (volumes : VolumeMap) → ShowsBy (extents_for_store old) old.keeps V volumes → Spell V old.keeps
    begins V volumes shown = subst (Spell V) shown.by shown.shows.spelled

    either : (V W : List Block) (volumes : VolumeMap) → ShowsBy (extents_for_store old) old.keeps V volumes → (W ≡ V) ⊎ HasTable new.keeps V W
        → Shows (extents_for_store old) W volumes ⊎ Shows (extents_for_store old) W (done (Remove name) volumes)
    either V W volumes shown (inl same) = inl (subst (λ (l : List Block). Shows (extents_for_store old) l volumes) (sym same) shown.shows)
    either V W volumes shown (inr has) = inr (shows V W volumes shown has).shows

    by_result : (result : Answer) → ChangesList honest 1 (MayPutTable old.keeps new.keeps) (PutsTable old.keeps new.keeps) old.array new.array result
        → (result ≡ Ok tt → new.ended ≡ None) → ((refusal : Refusal) → result ≡ Err refusal → new.ended ≡ Some refusal)
        → RemovesVolume honest name old new result
    by_result (Ok unit) changes goes ends =
        done_with_volumes honest (Remove name) 1 (MayPutTable old.keeps new.keeps) (PutsTable old.keeps new.keeps) old new Done tt (omega arith) going
        (goes refl)
        true_to changes refl (admitted (extents_for_store old)) (λ fair lost V volumes rests shown. refl)
        (λ V W volumes shown passed. either V W volumes shown (passed (begins V volumes shown)))
        (λ V W volumes shown put. shows V W volumes shown (put (begins V volumes shown)))
    by_result (Err refusal) changes goes ends =
        ended_with_volumes honest (Remove name) 1 (MayPutTable old.keeps new.keeps) (PutsTable old.keeps new.keeps) old new refusal tt (omega arith) going
        (ends refusal refl) true_to changes (admitted (extents_for_store old))
        (λ V W volumes shown passed. either V W volumes shown (passed (begins V volumes shown)))

-- What a removal is refused with at once does not end the store.
pub remove_is_refused : (honest : Type 0) (name : List ℕ) (store : StoreView) (refusal : Refusal) → store.ended ≡ None → refusal ≡ NoVolume
    → ((extents : ExtentLayout) (sectors : List Block) (volumes : VolumeMap) → ShowsBy extents store.keeps sectors volumes
    → Some refusal ≡ refusal_of extents (Remove name) volumes)
    → RemovesVolume honest name store store (Err refusal)
remove_is_refused honest name store refusal going is refuses =
    refused_at_once honest (Remove name) store refusal going (subst (Contains (NoVolume ∷ [])) (sym is) (Contains-push [] NoVolume))
    (λ ends. subst EndsIt is ends)
    (refuses (extents_for_store store))
