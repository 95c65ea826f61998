-- The table of volumes gets version 2, by what the calls of the array do.
use Rattle.std.proofs.Common.{◌≡◌, ◌≢◌, ◌⊎◌, inl, inr, ◌+◌, List, take, Option, None, Some, Ok, Err, OnOk, refl, sym, ◌∙◌, ap, subst, arith}
use Rattle.sector_model.specs.declared.refusal.Refusal.{Refusal}
use Rattle.sector_model.specs.Bank.{IsTrueTo}
use Rattle.array_io.specs.Believed.ArrayCalls.{Answer}
use Rattle.layout_map.specs.declared.geometry.Geometry.{Geometry}
use Rattle.extents.specs.declared.extent_layout.ExtentLayout.{ExtentLayout}
use Rattle.extents.specs.SetExtents.{extents_in}
use Rattle.extents.specs.declared.owned.Owned.{Owned}
use Rattle.extents.specs.declared.volume_table.VolumeTable.{VolumeTable}
use Rattle.extents.specs.TableSpelling.{Spell}
use Rattle.extents.specs.Versions.{upgraded_version}
use Rattle.extents.proofs.TableLaws.{one_table}
use Rattle.volume_table.specs.Volumes.{Block, VolumeMap}
use Rattle.volume_table.specs.VolumeStep.{Done, Upgrade, done}
use Rattle.volume_table.specs.Shows.{Shows}
use Rattle.volume_table.specs.Stands.{StoreView}
use Rattle.volume_table.specs.StoreCalls.{extents_for_store}
use Rattle.volume_table.specs.StoreChanges.{HasTable, MayPutTable, PutsTable}
use Rattle.volume_table.specs.StoreFunctions.{UpgradesTable}
use Rattle.volume_table.specs.Admission.{AreKept, ShowsBy}
use Rattle.volume_table.specs.KeptTables.{UpgradesKept}
use Rattle.volume_table.specs.ListChanges.{ChangesList, IsSame}
use Rattle.volume_table.proofs.ListChanges.{changes_none}
use Rattle.volume_table.proofs.StoreSteps.{done_with_volumes, ended_with_volumes}
use Rattle.volume_table.proofs.TableLemmas.{same_of_set, upgrade_is_shown}

-- an upgraded table with the same records and extents
pub record IsUpgraded (old new : VolumeTable) : Type 0 where
  pub version : new.version ≡ upgraded_version old.version
  pub dirty : new.dirty ≡ old.dirty
  pub records : new.records ≡ old.records
  pub extents : new.extents ≡ old.extents

-- a map of extents is that of the new table too
pub kept_upgraded : (geometry now : Geometry) (old new : VolumeTable) (owners : List (Option Owned)) → now ≡ geometry → IsUpgraded old new
    → AreKept (extents_in geometry) old owners
    → AreKept (extents_in now) new owners
kept_upgraded geometry now old new owners same is kept = subst (λ (g : Geometry). AreKept (extents_in g) new owners) (sym same) record {
  same = kept.same ∙ ap (λ (those : List (Option Owned)). take (extents_in geometry).count those) (sym is.extents);
  of_set = same_of_set (extents_in geometry) old new is.version is.records is.extents is.dirty kept.of_set;
}

-- the list that has it shows the same volumes, with the new version
upgraded_is_shown : (extents : ExtentLayout) (old new : VolumeTable) (V W : List Block) (volumes : VolumeMap) → IsUpgraded old new
    → (by : ShowsBy extents old V volumes)
    → HasTable new V W
    → ShowsBy extents new W (done Upgrade volumes)
upgraded_is_shown extents old new V W volumes is by has =
    let of_set = same_of_set extents by.shows.table new (is.version ∙ ap (λ (t : VolumeTable). upgraded_version t.version) (sym by.by))
    (is.records ∙ ap (λ (t : VolumeTable). t.records) (sym by.by)) (is.extents ∙ ap (λ (t : VolumeTable). t.extents) (sym by.by))
    (is.dirty ∙ ap (λ (t : VolumeTable). t.dirty) (sym by.by)) by.shows.of_set in
    let after : Shows extents W (done Upgrade volumes) =
    upgrade_is_shown extents V W volumes new by.shows has.spelled (is.version ∙ ap (λ (t : VolumeTable). upgraded_version t.version) (sym by.by))
    (is.records ∙ ap (λ (t : VolumeTable). t.records) (sym by.by))
    (is.extents ∙ ap (λ (t : VolumeTable). t.extents) (sym by.by)) (is.dirty ∙ ap (λ (t : VolumeTable). t.dirty) (sym by.by)) has.beyond in
    record { shows = after; by = one_table extents.format W after.table new after.of_set.version of_set.version after.spelled has.spelled }

-- An upgrade, by its one call.
pub upgrade_applies : (honest : Type 0) (old new : StoreView) (result : Answer) → old.ended ≡ None → IsUpgraded old.keeps new.keeps
    → (honest → IsTrueTo new.array.panel new.array.history)
    → ChangesList honest 1 (MayPutTable old.keeps new.keeps) (PutsTable old.keeps new.keeps) old.array new.array result
    → (result ≡ Ok tt → new.ended ≡ None) → ((refusal : Refusal) → result ≡ Err refusal → new.ended ≡ Some refusal) → UpgradesTable honest old new result
upgrade_applies honest old new result going is true_to changes goes ends = by_result result changes goes ends
  where
    begins : (V : List Block) (volumes : VolumeMap) → ShowsBy (extents_for_store old) old.keeps V volumes → Spell V old.keeps
    begins V volumes shown = subst (Spell V) shown.by shown.shows.spelled

    shows : (V W : List Block) (volumes : VolumeMap) → ShowsBy (extents_for_store old) old.keeps V volumes → HasTable new.keeps V W
        → ShowsBy (extents_for_store old) new.keeps W (done Upgrade volumes)
    shows V W volumes shown has = upgraded_is_shown (extents_for_store old) old.keeps new.keeps V W volumes is shown has

    either : (V W : List Block) (volumes : VolumeMap) → ShowsBy (extents_for_store old) old.keeps V volumes → (W ≡ V) ⊎ HasTable new.keeps V W
        → Shows (extents_for_store old) W volumes ⊎ Shows (extents_for_store old) W (done Upgrade volumes)
    either V W volumes shown (inl same) = inl (subst (λ (l : List Block). Shows (extents_for_store old) l volumes) (sym same) shown.shows)
    either V W volumes shown (inr has) = inr (shows V W volumes shown has).shows

    by_result : (result : Answer) → ChangesList honest 1 (MayPutTable old.keeps new.keeps) (PutsTable old.keeps new.keeps) old.array new.array result
        → (result ≡ Ok tt → new.ended ≡ None) → ((refusal : Refusal) → result ≡ Err refusal → new.ended ≡ Some refusal) → UpgradesTable honest old new result
    by_result (Ok unit) changes goes ends =
        done_with_volumes honest Upgrade 1 (MayPutTable old.keeps new.keeps) (PutsTable old.keeps new.keeps) old new Done tt (omega arith) going (goes refl)
        true_to changes refl (λ sectors volumes shown. refl) (λ fair lost V volumes rests shown. refl)
        (λ V W volumes shown passed. either V W volumes shown (passed (begins V volumes shown)))
        (λ V W volumes shown put. shows V W volumes shown (put (begins V volumes shown)))
    by_result (Err refusal) changes goes ends =
        ended_with_volumes honest Upgrade 1 (MayPutTable old.keeps new.keeps) (PutsTable old.keeps new.keeps) old new refusal tt (omega arith) going
        (ends refusal refl) true_to changes (λ sectors volumes shown. refl)
        (λ V W volumes shown passed. either V W volumes shown (passed (begins V volumes shown)))

-- An upgrade that was done changed the version alone, by one entry.
pub upgrade_kept : (old new : StoreView) (result : Answer) → upgraded_version old.keeps.version ≢ old.keeps.version → IsUpgraded old.keeps new.keeps
    → (result ≡ Ok tt → new.array.number ≡ old.array.number + 1) → OnOk result (UpgradesKept old new)
upgrade_kept old new (Ok unit) differs is one_entry = record {
  version = is.version;
  records = is.records;
  extents = is.extents;
  dirty = is.dirty;
  one_entry = λ apart. one_entry refl;
  nothing = λ same. absurd (differs same);
}
upgrade_kept old new (Err refusal) differs is one_entry = tt

-- a map of such a version is as it was
nothing_changes : (extents : ExtentLayout) (table : VolumeTable) (V : List Block) (volumes : VolumeMap) → upgraded_version table.version ≡ table.version
    → ShowsBy extents table V volumes
    → volumes ≡ done Upgrade volumes
nothing_changes extents table V volumes is shown =
    let same : volumes.version ≡ table.version = sym shown.shows.of_version ∙ ap (λ (t : VolumeTable). t.version) shown.by in
    let version : volumes.version ≡ upgraded_version volumes.version = same ∙ sym is ∙ ap upgraded_version (sym same) in
    λ i. record { version = version i; volumes = volumes.volumes }

-- An upgrade of a table of such a version does nothing.
pub upgraded_already : (honest : Type 0) (store : StoreView) → store.ended ≡ None → upgraded_version store.keeps.version ≡ store.keeps.version
    → (honest → IsTrueTo store.array.panel store.array.history)
    → UpgradesTable honest store store (Ok tt)
upgraded_already honest store going is true_to =
    done_with_volumes honest Upgrade 0 IsSame IsSame store store Done tt (omega arith) going going true_to
    (changes_none honest 0 IsSame IsSame store.array (λ V. refl) (λ V. refl)) refl (λ sectors volumes shown. refl) (λ fair lost V volumes rests shown. refl)
    (λ V W volumes shown same. inl (subst (λ (l : List Block). Shows (extents_for_store store) l volumes) (sym same) shown.shows))
    (λ V W volumes shown same. subst (ShowsBy (extents_for_store store) store.keeps W)
    (nothing_changes (extents_for_store store) store.keeps V volumes is shown)
    (subst (λ (l : List Block). ShowsBy (extents_for_store store) store.keeps l volumes) (sym same) shown))
