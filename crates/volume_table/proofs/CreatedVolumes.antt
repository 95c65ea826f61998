-- A create, by what its calls of the array do.
use Rattle.std.proofs.Common.{◌≡◌, ◌⊎◌, inl, inr, ℕ, zero, suc, ◌+◌, ◌-◌, ◌<◌, List, [], ◌∷◌, slice_set, Option, Some, None, Ok, Err, OnOk, refl, sym, ◌∙◌}
use Rattle.std.proofs.Common.{ap, subst, arith}
use Rattle.std.specs.Prelude.{Contains}
use Rattle.sector_model.specs.declared.refusal.Refusal.{Refusal}
use Rattle.sector_model.specs.declared.refusal.Refusal.TheVariants.{BadName, BadSize, Exists, NoSpace, TooManyVolumes}
use Rattle.sector_model.specs.Bank.{IsTrueTo}
use Rattle.layout_map.specs.declared.geometry.Geometry.{Geometry}
use Rattle.array_io.specs.Believed.ArrayCalls.{Answer}
use Rattle.array_io.specs.Believed.Views.{EndsIt}
use Rattle.extents.specs.declared.extent_layout.ExtentLayout.{ExtentLayout}
use Rattle.extents.specs.SetExtents.{extents_in}
use Rattle.extents.specs.declared.owned.Owned.{Owned}
use Rattle.extents.specs.declared.record.Record.{Record}
use Rattle.extents.specs.declared.volume_table.VolumeTable.{VolumeTable}
use Rattle.extents.specs.ExtentMaps.{IsTaken}
use Rattle.extents.specs.TableSpelling.{Spell}
use Rattle.extents.proofs.Versions.{most_volumes_most}
use Rattle.extents.specs.VolumeTables.{extents_for, record_of}
use Rattle.extents.proofs.Sectors.{table_all_records}
use Rattle.volume_table.specs.Admission.{AreKept, IsFirstUnused, IsGrownFrom, MayGrowTo, ShowsBy, TakesLowest}
use Rattle.volume_table.specs.Volumes.{Block, VolumeMap}
use Rattle.volume_table.specs.VolumeStep.{Command, Create, Done, HasBlocks, OnVolumes, answer, done, refusal_of}
use Rattle.volume_table.specs.Shows.{Shows}
use Rattle.volume_table.specs.Stands.{StoreView}
use Rattle.volume_table.specs.StoreCalls.{Applies, IsOfItsKind, extents_for_store}
use Rattle.volume_table.specs.StoreChanges.{Grows, IsGrown, MayGrow}
use Rattle.volume_table.specs.StoreFunctions.{CreatesVolume, done_reply}
use Rattle.volume_table.specs.ListChanges.{ChangesList}
use Rattle.volume_table.proofs.GrownTables.{record_here}
use Rattle.volume_table.proofs.GrownVolumes.{IsGrowth, created_is_shown, is_growth, shown_on_the_way}
use Rattle.volume_table.proofs.StoreSteps.{done_with_volumes, ended_with_volumes, refused_at_once}
use Rattle.extents.specs.declared.volume_table.TheConstants.{MOST_VOLUMES}

-- a list that shows volumes by a table begins with its spelling
pub begins_with : (extents : ExtentLayout) (table : VolumeTable) (V : List Block) (volumes : VolumeMap) (by : ShowsBy extents table V volumes) → Spell V table
begins_with extents table V volumes by = subst (Spell V) by.by by.shows.spelled

-- What `grow` did, with the store before and after it.
pub record HasGrown (honest : Type 0) (old new : StoreView) (owners owners' : List (Option Owned)) (number first : ℕ) (entry : Record) (result : Answer) : Type
    0 where
  pub kept : AreKept (extents_for_store old) old.keeps owners
  pub kept_then : AreKept (extents_for_store new) new.keeps owners'
  pub version : new.keeps.version ≡ old.keeps.version
  pub dirty : new.keeps.dirty ≡ old.keeps.dirty
  pub may : MayGrowTo (extents_for_store old) old.keeps.version old.keeps.records owners number first entry
  pub records : new.keeps.records ≡ slice_set old.keeps.records number (Some entry)
  pub taken : IsTaken old.keeps.dirty owners owners' number (extents_for (extents_for_store old).blocks entry.blocks - extents_for
      (extents_for_store old).blocks first)
  pub changes : ChangesList honest (entry.blocks - first + 1) (MayGrow (extents_for_store old) old.keeps new.keeps number first entry.blocks)
      (Grows (extents_for_store old) old.keeps new.keeps number first entry.blocks) old.array new.array result
  pub going : old.ended ≡ None
  pub goes : result ≡ Ok tt → new.ended ≡ None
  pub ends : (refusal : Refusal) → result ≡ Err refusal → new.ended ≡ Some refusal
  pub true_to : honest → IsTrueTo new.array.panel new.array.history

module _ (honest : Type 0) (old new : StoreView) (owners owners' : List (Option Owned)) (number first : ℕ) (entry : Record) (result : Answer)
    (grown : HasGrown honest old new owners owners' number first entry result) where
  pub growth : IsGrowth (extents_for_store old) old.keeps new.keeps number first entry
  growth = is_growth (extents_for_store old) old.keeps new.keeps owners owners' number first
      (extents_for (extents_for_store old).blocks entry.blocks - extents_for (extents_for_store old).blocks first) entry grown.version grown.dirty
      (omega (arith, grown.may.more))
      (omega (arith, table_all_records old.keeps.records old.keeps.extents old.keeps.is_table, grown.may.of_table, most_volumes_most old.keeps.version))
      grown.kept
      (subst (λ (geometry : Geometry). AreKept (extents_in geometry) new.keeps owners') grown.changes.goes_on.not_older.same_geometry grown.kept_then)
      grown.records grown.taken grown.may.from

-- A command that is admitted and grows a volume, where the grown volume shows what the command changes.
pub growing_applies : (honest : Type 0) (command : Command) (old new : StoreView) (owners owners' : List (Option Owned)) (number first : ℕ) (entry : Record)
    (result : Answer)
    → HasGrown honest old new owners owners' number first entry result → HasBlocks command → IsOfItsKind command Done
    → ((volumes : VolumeMap) → Done ≡ answer command volumes.volumes)
    → ((sectors : List Block) (volumes : VolumeMap) → ShowsBy (extents_for_store old) old.keeps sectors volumes
    → None ≡ refusal_of (extents_for_store old) command volumes)
    → ((V W : List Block) (volumes : VolumeMap) → ShowsBy (extents_for_store old) old.keeps V volumes
    → IsGrown (extents_for_store old) new.keeps number first entry.blocks V W
    → ShowsBy (extents_for_store old) new.keeps W (done command volumes))
    → Applies honest (OnVolumes command) old new (done_reply result)
growing_applies honest command old new owners owners' number first entry result grown whole kind answers admitted shows = by_result result grown
  where
    on_the_way : (V W : List Block) (volumes : VolumeMap) → ShowsBy (extents_for_store old) old.keeps V volumes
        → MayGrow (extents_for_store old) old.keeps new.keeps number first entry.blocks V W
        → Shows (extents_for_store old) W volumes ⊎ Shows (extents_for_store old) W (done command volumes)
    on_the_way V W volumes by may = elim (may (begins_with (extents_for_store old) old.keeps V volumes by)) [
      | inl partly ↦ inl (shown_on_the_way (extents_for_store old) old.keeps new.keeps number first entry.blocks entry V W volumes
          (growth honest old new owners owners' number first entry result grown) by partly)
      | inr is ↦ inr (shows V W volumes by is).shows
    ]

    by_result : (result : Answer) → HasGrown honest old new owners owners' number first entry result
        → Applies honest (OnVolumes command) old new (done_reply result)
    by_result (Ok unit) is =
        done_with_volumes honest command (entry.blocks - first + 1) (MayGrow (extents_for_store old) old.keeps new.keeps number first entry.blocks)
        (Grows (extents_for_store old) old.keeps new.keeps number first entry.blocks) old new Done whole (omega (arith, is.may.most)) is.going (is.goes refl)
        is.true_to is.changes kind
        admitted
        (λ fair lost V volumes rests by. answers volumes) on_the_way
        (λ V W volumes by leaves. shows V W volumes by (leaves (begins_with (extents_for_store old) old.keeps V volumes by)))
    by_result (Err refusal) is =
        ended_with_volumes honest command (entry.blocks - first + 1) (MayGrow (extents_for_store old) old.keeps new.keeps number first entry.blocks)
        (Grows (extents_for_store old) old.keeps new.keeps number first entry.blocks) old new refusal whole (omega (arith, is.may.most)) is.going
        (is.ends refusal refl) is.true_to is.changes
        admitted on_the_way

-- A create that is admitted.
pub create_applies : (honest : Type 0) (name : List ℕ) (count : ℕ) (old new : StoreView) (owners owners' : List (Option Owned)) (number first : ℕ)
    (entry : Record) (result : Answer)
    → HasGrown honest old new owners owners' number first entry result → record_of old.keeps.records number ≡ None → entry.name.bytes.items ≡ name
    → entry.blocks ≡ count
    → ((sectors : List Block) (volumes : VolumeMap) → ShowsBy (extents_for_store old) old.keeps sectors volumes
    → None ≡ refusal_of (extents_for_store old) (Create name count) volumes)
    → CreatesVolume honest name count old new result
create_applies honest name count old new owners owners' number first entry result grown unused named same_count admitted =
    growing_applies honest (Create name count) old new owners owners' number first entry result grown tt refl (λ volumes. refl) admitted shows
  where
    none_first : first ≡ 0
    none_first = subst (λ (r : Option Record). IsGrownFrom r first entry) unused grown.may.from

    shows : (V W : List Block) (volumes : VolumeMap) → ShowsBy (extents_for_store old) old.keeps V volumes
        → IsGrown (extents_for_store old) new.keeps number first entry.blocks V W
        → ShowsBy (extents_for_store old) new.keeps W (done (Create name count) volumes)
    shows V W volumes by is =
        subst (λ (n : ℕ). ShowsBy (extents_for_store old) new.keeps W (done (Create name n) volumes)) same_count
        (created_is_shown (extents_for_store old) old.keeps new.keeps name number entry V W volumes
        (subst (λ (n : ℕ). IsGrowth (extents_for_store old) old.keeps new.keeps number n entry) none_first
        (growth honest old new owners owners' number first entry result grown)) unused named by
        (subst (λ (n : ℕ). None ≡ refusal_of (extents_for_store old) (Create name n) volumes) (sym same_count) (admitted V volumes by))
        (subst (λ (n : ℕ). IsGrown (extents_for_store old) new.keeps number n entry.blocks V W) none_first is))

-- What a create is refused with at once does not end the store.
not_ended : (refusal : Refusal) → Contains (BadName ∷ BadSize ∷ Exists ∷ TooManyVolumes ∷ NoSpace ∷ []) refusal → ¬ EndsIt refusal
not_ended refusal (zero, below, is) ends = subst EndsIt (sym is) ends
not_ended refusal (suc zero, below, is) ends = subst EndsIt (sym is) ends
not_ended refusal (suc (suc zero), below, is) ends = subst EndsIt (sym is) ends
not_ended refusal (suc (suc (suc zero)), below, is) ends = subst EndsIt (sym is) ends
not_ended refusal (suc (suc (suc (suc zero))), below, is) ends = subst EndsIt (sym is) ends
not_ended refusal (suc (suc (suc (suc (suc k)))), below, is) ends = absurd (omega (arith, below))

pub create_is_refused : (honest : Type 0) (name : List ℕ) (count : ℕ) (store : StoreView) (refusal : Refusal) → store.ended ≡ None
    → Contains (BadName ∷ BadSize ∷ Exists ∷ TooManyVolumes ∷ NoSpace ∷ []) refusal
    → ((sectors : List Block) (volumes : VolumeMap) → ShowsBy (extents_for_store store) store.keeps sectors volumes
    → Some refusal ≡ refusal_of (extents_for_store store) (Create name count) volumes)
    → CreatesVolume honest name count store store (Err refusal)
create_is_refused honest name count store refusal going among refuses =
    refused_at_once honest (Create name count) store refusal going among (not_ended refusal among) refuses

-- the new volume's record is the lowest one that was not used
pub takes_lowest : (before : VolumeTable) (after : List (Option Record)) (name : List ℕ) (number : ℕ) (entry : Record) (result : Answer)
    → IsFirstUnused before.version before.records number
    → entry.name.bytes.items ≡ name → after ≡ slice_set before.records number (Some entry)
    → OnOk result ∥ TakesLowest before.version before.records after name ∥₁
takes_lowest before after name number entry (Err refusal) lowest named is = tt
takes_lowest before after name number entry (Ok unit) lowest named is =
    let long = table_all_records before.records before.extents before.is_table in
    let within : number < MOST_VOLUMES = omega (arith, lowest.of_table, most_volumes_most before.version) in
    let here : record_of after number ≡ Some entry =
    ap (λ (records : List (Option Record)). record_of records number) is ∙ record_here before.records number (Some entry) long within in
    ∣ record { number = number; lowest = lowest; taken = record { of_table = within; entry = entry; used = here; named = named } } ∣₁
