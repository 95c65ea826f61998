-- A write of blocks, by what its calls of the array do.
use Rattle.std.proofs.Common.{◌≡◌, ◌⊎◌, inl, inr, ℕ, zero, suc, ◌<◌, List, [], ◌∷◌, length, take, get_or, All, Option, Some, None, Ok, Err, refl, sym, ◌∙◌, ap}
use Rattle.std.proofs.Common.{ap₂, subst, arith}
use Rattle.std.specs.Prelude.{Contains}
use Rattle.sector_model.specs.declared.refusal.Refusal.{Refusal}
use Rattle.sector_model.specs.declared.refusal.Refusal.TheVariants.{BadCount, NoVolume, OutOfRange}
use Rattle.sector_model.specs.Bank.{IsTrueTo}
use Rattle.array_io.specs.Believed.ArrayCalls.{Answer}
use Rattle.array_io.specs.Believed.Views.{EndsIt}
use Rattle.extents.specs.declared.extent_layout.ExtentLayout.{ExtentLayout}
use Rattle.extents.specs.declared.owned.Owned.{Owned}
use Rattle.extents.specs.declared.volume_table.VolumeTable.{VolumeTable}
use Rattle.extents.specs.TableSpelling.{Spell}
use Rattle.extents.specs.Versions.{table_length}
use Rattle.extents.proofs.Versions.{table_length_most}
use Rattle.extents.specs.VolumeTables.{record_of}
use Rattle.extents.proofs.TableLaws.{one_table}
use Rattle.volume_table.specs.Volumes.{Block, IsBlock, VolumeMap}
use Rattle.volume_table.specs.VolumeStep.{Done, Write, done, or_refused, refusal_of, reply_to, volumes_after}
use Rattle.volume_table.specs.Shows.{HasWritten, Shows}
use Rattle.volume_table.specs.Stands.{StoreView}
use Rattle.volume_table.specs.StoreCalls.{extents_for_store}
use Rattle.volume_table.specs.StoreChanges.{IsWrittenAt}
use Rattle.volume_table.specs.StoreFunctions.{WritesBlocks}
use Rattle.volume_table.specs.Admission.{AreKept, HasRecordAt, IsWithinVolume, ShowsBy}
use Rattle.volume_table.specs.ListChanges.{ChangesList, IsSameOr}
use Rattle.volume_table.proofs.KeptMaps.{kept_owner, within_record}
use Rattle.volume_table.proofs.ShowsLemmas.{write_is_shown}
use Rattle.volume_table.proofs.StepLemmas.{changed_if_done}
use Rattle.volume_table.proofs.StoreSteps.{done_with_volumes, ended_with_volumes, refused_at_once}

-- the first sectors are the same where each of them is
pub first_same : (n : ℕ) (before left : List Block) → length left ≡ length before
    → ((sector : ℕ) → sector < n → get_or left sector [] ≡ get_or before sector []) → take n left ≡ take n before
first_same zero before left long each = refl
first_same (suc n) [] [] long each = refl
first_same (suc n) [] (block ∷ left) long each = absurd (omega (arith, long))
first_same (suc n) (block ∷ before) [] long each = absurd (omega (arith, long))
first_same (suc n) (block ∷ before) (new ∷ left) long each =
    ap₂ (λ b bs. b ∷ bs) (each 0 (omega arith)) (first_same n before left (omega (arith, long)) (λ sector below. each (suc sector) (omega (arith, below))))

-- what is written by the map that a store keeps is written by its table
written_by_table : (extents : ExtentLayout) (table : VolumeTable) (owners : List (Option Owned)) (number at : ℕ) (blocks before left : List Block)
    → AreKept extents table owners
    → HasWritten extents owners number at blocks before left → HasWritten extents table.extents number at blocks before left
written_by_table extents table owners number at blocks before left kept has = record {
  inside = λ j extent below there. has.inside j extent below (kept_owner extents table owners kept extent ∙ there);
  outside = λ sector apart. has.outside sector (λ j extent below there. apart j extent below (sym (kept_owner extents table owners kept extent) ∙ there));
}

-- the table stands below all blocks
table_stays : {extents : ExtentLayout} (version : ℕ) (owners : List (Option Owned)) (number at : ℕ) (blocks before left : List Block)
    → IsWrittenAt extents owners number at blocks before left
    → take (table_length version) left ≡ take (table_length version) before
table_stays {extents} version owners number at blocks before left is =
    first_same (table_length version) before left is.as_long
    (λ sector below. is.written.outside sector (λ j extent within there same. absurd
    (omega (arith, below, same, table_length_most version, extents.limits.above))))

-- a list with blocks written shows the volumes after the write, by the same table
pub write_shows : (extents : ExtentLayout) (table : VolumeTable) (owners : List (Option Owned)) (name : List ℕ) (number at : ℕ)
    (blocks before left : List Block)
    (volumes : VolumeMap)
    → AreKept extents table owners → HasRecordAt table.records name number → All IsBlock blocks → ShowsBy extents table before volumes
    → None ≡ refusal_of extents (Write name at blocks) volumes → IsWrittenAt extents owners number at blocks before left
    → ShowsBy extents table left (done (Write name at blocks) volumes)
write_shows extents table owners name number at blocks before left volumes kept found whole shown admitted is = record {
  shows = after;
  by = one_table extents.format left after.table table after.of_set.version kept.of_set.version after.spelled
      (table_stays table.version owners number at blocks before left is
      ∙ subst (Spell before) shown.by shown.shows.spelled);
}
  where
    is_done : reply_to extents (Write name at blocks) volumes ≡ Done
    is_done = ap (λ o. or_refused o Done) (sym admitted)

    after : Shows extents left (done (Write name at blocks) volumes)
    after =
        subst (λ (those : VolumeMap). Shows extents left those) (changed_if_done extents (Write name at blocks) volumes (sym admitted))
        (subst (λ (n : List ℕ). Shows extents left (volumes_after extents (Write n at blocks) volumes)) found.named
        (write_is_shown extents before left volumes number found.entry at blocks shown.shows
        (ap (λ (t : VolumeTable). record_of t.records number) shown.by ∙ found.used) whole
        (subst (λ (n : List ℕ). reply_to extents (Write n at blocks) volumes ≡ Done) (sym found.named) is_done) is.as_long
        (subst (λ (t : VolumeTable). HasWritten extents t.extents number at blocks before left) (sym shown.by)
        (written_by_table extents table owners number at blocks before left kept is.written))))

-- A write that is admitted, by its one call.
pub write_applies : (honest : Type 0) (name : List ℕ) (at : ℕ) (blocks : List Block) (old new : StoreView) (owners : List (Option Owned)) (number : ℕ)
    (result : Answer)
    → old.ended ≡ None → AreKept (extents_for_store old) old.keeps owners → ∥ IsWithinVolume old.keeps.records name number at (length blocks) ∥₁
    → All IsBlock blocks
    → ((extents : ExtentLayout) (sectors : List Block) (volumes : VolumeMap) → ShowsBy extents old.keeps sectors volumes
    → None ≡ refusal_of extents (Write name at blocks) volumes)
    → (honest → IsTrueTo new.array.panel new.array.history)
    → ChangesList honest 1 (IsSameOr (IsWrittenAt (extents_for_store old) owners number at blocks))
    (IsWrittenAt (extents_for_store old) owners number at blocks) old.array
    new.array result
    → new.keeps ≡ old.keeps → (result ≡ Ok tt → new.ended ≡ None) → ((refusal : Refusal) → result ≡ Err refusal → new.ended ≡ Some refusal)
    → WritesBlocks honest name at blocks old new result
write_applies honest name at blocks old new owners number result going kept within whole admitted true_to changes keeps goes ends =
    by_result result changes goes ends
  where
    shows : (V W : List Block) (volumes : VolumeMap) → ShowsBy (extents_for_store old) old.keeps V volumes
        → IsWrittenAt (extents_for_store old) owners number at blocks V W
        → ShowsBy (extents_for_store old) old.keeps W (done (Write name at blocks) volumes)
    shows V W volumes shown is =
        write_shows (extents_for_store old) old.keeps owners name number at blocks V W volumes kept
        (within_record old.keeps.records name number at (length blocks) within) whole shown
        (admitted (extents_for_store old) V volumes shown) is

    on_the_way : (V W : List Block) (volumes : VolumeMap) → ShowsBy (extents_for_store old) old.keeps V volumes
        → IsSameOr (IsWrittenAt (extents_for_store old) owners number at blocks) V W
        → Shows (extents_for_store old) W volumes ⊎ Shows (extents_for_store old) W (done (Write name at blocks) volumes)
    on_the_way V W volumes shown (inl same) = inl (subst (λ (l : List Block). Shows (extents_for_store old) l volumes) (sym same) shown.shows)
    on_the_way V W volumes shown (inr is) = inr (shows V W volumes shown is).shows

    by_result : (result : Answer) → ChangesList honest 1 (IsSameOr (IsWrittenAt (extents_for_store old) owners number at blocks))
        (IsWrittenAt (extents_for_store old) owners number at blocks) old.array new.array result
        → (result ≡ Ok tt → new.ended ≡ None) → ((refusal : Refusal) → result ≡ Err refusal → new.ended ≡ Some refusal)
        → WritesBlocks honest name at blocks old new result
    by_result (Ok unit) changes goes ends =
        done_with_volumes honest (Write name at blocks) 1 (IsSameOr (IsWrittenAt (extents_for_store old) owners number at blocks))
        (IsWrittenAt (extents_for_store old) owners number at blocks) old new Done whole (omega arith) going (goes refl)
        true_to changes refl (admitted (extents_for_store old)) (λ fair lost V volumes rests shown. refl) on_the_way
        (λ V W volumes shown is. subst (λ (t : VolumeTable). ShowsBy (extents_for_store old) t W (done (Write name at blocks) volumes)) (sym keeps)
        (shows V W volumes shown is))
    by_result (Err refusal) changes goes ends =
        ended_with_volumes honest (Write name at blocks) 1 (IsSameOr (IsWrittenAt (extents_for_store old) owners number at blocks))
        (IsWrittenAt (extents_for_store old) owners number at blocks) old new refusal whole (omega arith) going (ends refusal refl)
        true_to changes (admitted (extents_for_store old)) on_the_way

-- What a write is refused with at once does not end the store.
not_ended : (refusal : Refusal) → Contains (NoVolume ∷ BadCount ∷ OutOfRange ∷ []) refusal → ¬ EndsIt refusal
not_ended refusal (zero, below, is) ends = subst EndsIt (sym is) ends
not_ended refusal (suc zero, below, is) ends = subst EndsIt (sym is) ends
not_ended refusal (suc (suc zero), below, is) ends = subst EndsIt (sym is) ends
not_ended refusal (suc (suc (suc k)), below, is) ends = absurd (omega (arith, below))

pub write_is_refused : (honest : Type 0) (name : List ℕ) (at : ℕ) (blocks : List Block) (store : StoreView) (refusal : Refusal) → store.ended ≡ None
    → Contains (NoVolume ∷ BadCount ∷ OutOfRange ∷ []) refusal
    → ((extents : ExtentLayout) (sectors : List Block) (volumes : VolumeMap) → ShowsBy extents store.keeps sectors volumes
    → Some refusal ≡ refusal_of extents (Write name at blocks) volumes)
    → WritesBlocks honest name at blocks store store (Err refusal)
write_is_refused honest name at blocks store refusal going among refuses =
    refused_at_once honest (Write name at blocks) store refusal going among (not_ended refusal among) (refuses (extents_for_store store))
