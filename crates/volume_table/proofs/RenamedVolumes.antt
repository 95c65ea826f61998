-- A volume gets another name, by what the calls of the array do.
use Rattle.std.proofs.Common.{◌≡◌, ◌≢◌, ◌⊎◌, inl, inr, ℕ, zero, suc, ◌+◌, ◌≤◌, List, [], ◌∷◌, slice_set, Option, Some, None, Ok, Err, OnOk, refl, sym, ◌∙◌, ap}
use Rattle.std.proofs.Common.{subst, arith}
use Rattle.std.specs.Prelude.{Contains}
use Rattle.sector_model.specs.declared.refusal.Refusal.{Refusal}
use Rattle.sector_model.specs.declared.refusal.Refusal.TheVariants.{BadName, Exists, NoVolume}
use Rattle.sector_model.specs.Bank.{IsTrueTo}
use Rattle.layout_map.specs.declared.geometry.Geometry.{Geometry}
use Rattle.array_io.specs.Believed.ArrayCalls.{Answer}
use Rattle.array_io.specs.Believed.Views.{EndsIt}
use Rattle.extents.specs.declared.extent_layout.ExtentLayout.{ExtentLayout}
use Rattle.extents.specs.SetExtents.{extents_in}
use Rattle.extents.specs.declared.owned.Owned.{Owned}
use Rattle.extents.specs.declared.record.Record.{Record}
use Rattle.extents.specs.declared.volume_table.VolumeTable.{VolumeTable}
use Rattle.extents.specs.Owners.{owner_of}
use Rattle.extents.specs.TableSpelling.{Spell}
use Rattle.extents.specs.Versions.{table_length}
use Rattle.extents.specs.VolumeTables.{record_of}
use Rattle.extents.proofs.Sectors.{table_all_records}
use Rattle.extents.proofs.TableLaws.{one_table}
use Rattle.volume_table.specs.Volumes.{Block, VolumeMap}
use Rattle.volume_table.specs.VolumeStep.{Done, Rename, done, or_refused, refusal_of, reply_to, volumes_after}
use Rattle.volume_table.specs.Shows.{ChangesName, Shows}
use Rattle.volume_table.specs.Stands.{StoreView}
use Rattle.volume_table.specs.StoreCalls.{extents_for_store}
use Rattle.volume_table.specs.StoreChanges.{HasTable, MayPutTable, PutsTable}
use Rattle.volume_table.specs.StoreFunctions.{RenamesVolume}
use Rattle.volume_table.specs.Admission.{AreKept, HasRecordAt, IsRenamedFrom, MayRename, ShowsBy}
use Rattle.volume_table.specs.KeptTables.{RenamesKept}
use Rattle.volume_table.specs.ListChanges.{ChangesList}
use Rattle.volume_table.proofs.GrownTables.{record_here, renamed_below}
use Rattle.volume_table.proofs.KeptMaps.{found_record, kept_owner}
use Rattle.volume_table.proofs.StepLemmas.{changed_if_done}
use Rattle.volume_table.proofs.StoreSteps.{done_with_volumes, ended_with_volumes, refused_at_once}
use Rattle.volume_table.proofs.TableLemmas.{rename_is_shown}
use Rattle.std.proofs.lemmas.List.{get_or-set_other}

-- a table in which the record of a name has another, with the map of extents that it had
pub record IsRenamed (extents : ExtentLayout) (old new : VolumeTable) (owners : List (Option Owned)) (name name_after : List ℕ) (number : ℕ)
    (entry : Record) : Type 0
  where
    pub kept : AreKept extents old owners
    pub kept_then : AreKept extents new owners
    pub version : new.version ≡ old.version
    pub dirty : new.dirty ≡ old.dirty
    pub found : HasRecordAt old.records name number
    pub may : MayRename old.version old.records number entry
    pub named : entry.name.bytes.items ≡ name_after
    pub records : new.records ≡ slice_set old.records number (Some entry)

-- one record has another name, and all else is as it was
changes_name : (extents : ExtentLayout) (old new : VolumeTable) (owners : List (Option Owned)) (name name_after : List ℕ) (number : ℕ) (entry : Record)
    (is : IsRenamed extents old new owners name name_after number entry)
    → ChangesName old.records new.records number is.found.entry name_after
changes_name extents old new owners name name_after number entry is = record {
  entry = entry;
  used = ap (λ (those : List (Option Record)). record_of those number) is.records
      ∙ record_here old.records number (Some entry) (table_all_records old.records old.extents old.is_table)
      (renamed_below old.version old.records number entry is.may);
  named = is.named;
  as_long = subst (λ o. IsRenamedFrom o entry) is.found.used is.may.from;
  others = λ other apart. ap (λ (those : List (Option Record)). record_of those other) is.records
      ∙ get_or-set_other old.records number other (Some entry) None apart;
}

-- so the list with the new table shows the volume by its new name
renaming_shows : (extents : ExtentLayout) (old new : VolumeTable) (owners : List (Option Owned)) (name name_after : List ℕ) (number : ℕ) (entry : Record)
    (before now : List Block) (volumes : VolumeMap)
    → IsRenamed extents old new owners name name_after number entry → ShowsBy extents old before volumes
    → None ≡ refusal_of extents (Rename name name_after) volumes → HasTable new before now
    → ShowsBy extents new now (done (Rename name name_after) volumes)
renaming_shows extents old new owners name name_after number entry before now volumes is shown admitted has = record {
  shows = after;
  by = one_table extents.format now after.table new after.of_set.version is.kept_then.of_set.version after.spelled has.spelled;
}
  where
    is_done : reply_to extents (Rename name name_after) volumes ≡ Done
    is_done = ap (λ o. or_refused o Done) (sym admitted)

    version : new.version ≡ volumes.version
    version = is.version ∙ ap (λ (t : VolumeTable). t.version) (sym shown.by) ∙ shown.shows.of_version

    changes : ChangesName shown.shows.table.records new.records number is.found.entry name_after
    changes = subst (λ (t : VolumeTable). ChangesName t.records new.records number is.found.entry name_after) (sym shown.by)
        (changes_name extents old new owners name name_after number entry is)

    same_owner : (extent : ℕ) → owner_of new.extents extent ≡ owner_of shown.shows.table.extents extent
    same_owner extent = sym (kept_owner extents new owners is.kept_then extent) ∙ kept_owner extents old owners is.kept extent
        ∙ ap (λ (t : VolumeTable). owner_of t.extents extent) (sym shown.by)

    after : Shows extents now (done (Rename name name_after) volumes)
    after =
        subst (λ (those : VolumeMap). Shows extents now those) (changed_if_done extents (Rename name name_after) volumes (sym admitted))
        (subst (λ (n : List ℕ). Shows extents now (volumes_after extents (Rename n name_after) volumes)) is.found.named
        (rename_is_shown extents before now volumes name_after new number is.found.entry shown.shows
        (ap (λ (t : VolumeTable). record_of t.records number) shown.by ∙ is.found.used)
        (subst (λ (n : List ℕ). reply_to extents (Rename n name_after) volumes ≡ Done) (sym is.found.named) is_done) has.spelled version changes same_owner
        (is.dirty ∙ ap (λ (t : VolumeTable). t.dirty) (sym shown.by))
        (λ sector past. has.beyond sector (subst (λ (v : ℕ). table_length v ≤ sector) (sym version) past))))

-- A rename that is admitted, by its one call.
pub rename_applies : (honest : Type 0) (name name_after : List ℕ) (old new : StoreView) (owners : List (Option Owned)) (number : ℕ) (entry : Record)
    (result : Answer) → old.ended ≡ None
    → AreKept (extents_for_store old) old.keeps owners → AreKept (extents_for_store new) new.keeps owners → new.keeps.version ≡ old.keeps.version
    → new.keeps.dirty ≡ old.keeps.dirty
    → ∥ HasRecordAt old.keeps.records name number ∥₁
    → MayRename old.keeps.version old.keeps.records number entry → entry.name.bytes.items ≡ name_after
    → new.keeps.records ≡ slice_set old.keeps.records number (Some entry)
    → ((extents : ExtentLayout) (sectors : List Block) (volumes : VolumeMap) → ShowsBy extents old.keeps sectors volumes
    → None ≡ refusal_of extents (Rename name name_after) volumes)
    → (honest → IsTrueTo new.array.panel new.array.history)
    → ChangesList honest 1 (MayPutTable old.keeps new.keeps) (PutsTable old.keeps new.keeps) old.array new.array result
    → (result ≡ Ok tt → new.ended ≡ None) → ((refusal : Refusal) → result ≡ Err refusal → new.ended ≡ Some refusal)
    → RenamesVolume honest name name_after old new result
rename_applies honest name name_after old new owners number entry result going kept kept_then version dirty found may named records admitted true_to changes
    goes
    ends = by_result result changes goes ends
  where
    is : IsRenamed (extents_for_store old) old.keeps new.keeps owners name name_after number entry
    is = record {
      kept = kept;
      kept_then = subst (λ (its : Geometry). AreKept (extents_in its) new.keeps owners) changes.goes_on.not_older.same_geometry kept_then;
      version = version;
      dirty = dirty;
      found = found_record old.keeps.records name number found;
      may = may;
      named = named;
      records = records;
    }

    shows : (V W : List Block) (volumes : VolumeMap) → ShowsBy (extents_for_store old) old.keeps V volumes → HasTable new.keeps V W
        → ShowsBy (extents_for_store old) new.keeps W (done (Rename name name_after) volumes)
    shows V W volumes shown has =
        renaming_shows (extents_for_store old) old.keeps new.keeps owners name name_after number entry V W volumes is shown
        (admitted (extents_for_store old) V volumes shown) has

    -- the list begins with the old table's spelling
    begins : (V : List Block) (volumes : VolumeMap) → ShowsBy (extents_for_store old) old.keeps V volumes → Spell V old.keeps
    begins V volumes shown = subst (Spell V) shown.by shown.shows.spelled

    either : (V W : List Block) (volumes : VolumeMap) → ShowsBy (extents_for_store old) old.keeps V volumes → (W ≡ V) ⊎ HasTable new.keeps V W
        → Shows (extents_for_store old) W volumes ⊎ Shows (extents_for_store old) W (done (Rename name name_after) volumes)
    either V W volumes shown (inl same) = inl (subst (λ (l : List Block). Shows (extents_for_store old) l volumes) (sym same) shown.shows)
    either V W volumes shown (inr has) = inr (shows V W volumes shown has).shows

    by_result : (result : Answer) → ChangesList honest 1 (MayPutTable old.keeps new.keeps) (PutsTable old.keeps new.keeps) old.array new.array result
        → (result ≡ Ok tt → new.ended ≡ None) → ((refusal : Refusal) → result ≡ Err refusal → new.ended ≡ Some refusal)
        → RenamesVolume honest name name_after old new result
    by_result (Ok unit) changes goes ends =
        done_with_volumes honest (Rename name name_after) 1 (MayPutTable old.keeps new.keeps) (PutsTable old.keeps new.keeps) old new Done tt (omega arith)
        going (goes refl)
        true_to changes refl (admitted (extents_for_store old)) (λ fair lost V volumes rests shown. refl)
        (λ V W volumes shown passed. either V W volumes shown (passed (begins V volumes shown)))
        (λ V W volumes shown put. shows V W volumes shown (put (begins V volumes shown)))
    by_result (Err refusal) changes goes ends =
        ended_with_volumes honest (Rename name name_after) 1 (MayPutTable old.keeps new.keeps) (PutsTable old.keeps new.keeps) old new refusal tt (omega arith)
        going
        (ends refusal refl) true_to changes (admitted (extents_for_store old))
        (λ V W volumes shown passed. either V W volumes shown (passed (begins V volumes shown)))

-- the table with the new name is another
pub rename_differs : (old new : VolumeTable) (number : ℕ) (entry : Record) → MayRename old.version old.records number entry
    → new.records ≡ slice_set old.records number (Some entry) → old ≢ new
rename_differs old new number entry may records same =
    may.absent number entry
    (ap (λ (t : VolumeTable). record_of t.records number) same ∙ ap (λ (those : List (Option Record)). record_of those number) records
    ∙ record_here old.records number (Some entry) (table_all_records old.records old.extents old.is_table)
    (renamed_below old.version old.records number entry may))
    refl

-- A rename that was done changed the one name, by one entry.
pub rename_kept : (name name_after : List ℕ) (old new : StoreView) (owners : List (Option Owned)) (number : ℕ) (entry : Record) (result : Answer)
    → new.array.table.geometry ≡ old.array.table.geometry
    → AreKept (extents_for_store old) old.keeps owners → AreKept (extents_for_store new) new.keeps owners → new.keeps.version ≡ old.keeps.version
    → new.keeps.dirty ≡ old.keeps.dirty
    → ∥ HasRecordAt old.keeps.records name number ∥₁
    → MayRename old.keeps.version old.keeps.records number entry → entry.name.bytes.items ≡ name_after
    → new.keeps.records ≡ slice_set old.keeps.records number (Some entry)
    → (result ≡ Ok tt → new.array.number ≡ old.array.number + 1) → OnOk result (RenamesKept name name_after old new)
rename_kept name name_after old new owners number entry (Ok unit) same kept kept_then version dirty found may named records one_entry =
    let its = found_record old.keeps.records name number found in
    let then : AreKept (extents_for_store old) new.keeps owners = subst (λ (its : Geometry). AreKept (extents_in its) new.keeps owners) same kept_then in
    record {
      version = version;
      number = number;
      before = its.entry;
      used = its.used;
      named = its.named;
      changes = changes_name (extents_for_store old) old.keeps new.keeps owners name name_after number entry
          record { kept = kept; kept_then = then; version = version; dirty = dirty; found = its; may = may; named = named; records = records };
      extents = λ extent. sym (kept_owner (extents_for_store old) new.keeps owners then extent)
          ∙ kept_owner (extents_for_store old) old.keeps owners kept extent;
      dirty = dirty;
      one_entry = one_entry refl;
    }
rename_kept name name_after old new owners number entry (Err refusal) same kept kept_then version dirty found may named records one_entry = tt

-- What a rename is refused with at once does not end the store.
not_ended : (refusal : Refusal) → Contains (NoVolume ∷ BadName ∷ Exists ∷ []) refusal → ¬ EndsIt refusal
not_ended refusal (zero, below, is) ends = subst EndsIt (sym is) ends
not_ended refusal (suc zero, below, is) ends = subst EndsIt (sym is) ends
not_ended refusal (suc (suc zero), below, is) ends = subst EndsIt (sym is) ends
not_ended refusal (suc (suc (suc k)), below, is) ends = absurd (omega (arith, below))

pub rename_is_refused : (honest : Type 0) (name name_after : List ℕ) (store : StoreView) (refusal : Refusal) → store.ended ≡ None
    → Contains (NoVolume ∷ BadName ∷ Exists ∷ []) refusal
    → ((extents : ExtentLayout) (sectors : List Block) (volumes : VolumeMap) → ShowsBy extents store.keeps sectors volumes
    → Some refusal ≡ refusal_of extents (Rename name name_after) volumes)
    → RenamesVolume honest name name_after store store (Err refusal)
rename_is_refused honest name name_after store refusal going among refuses =
    refused_at_once honest (Rename name name_after) store refusal going among (not_ended refusal among) (refuses (extents_for_store store))
