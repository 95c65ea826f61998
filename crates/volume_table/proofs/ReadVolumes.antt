-- A read of a volume's blocks, by what its calls of the array do.
use Rattle.std.proofs.Common.{◌≡◌, ◌⊎◌, inl, ℕ, zero, suc, ◌+◌, ◌<◌, List, [], ◌∷◌, length, take, drop, get_or, Option, None, Some, Ok, Err}
use Rattle.std.proofs.Common.{refl, sym, ap, subst, ◌∙◌, arith}
use Rattle.std.specs.Prelude.{Contains, OnOk}
use Rattle.std.proofs.lemmas.List.{ext_get_or}
use Rattle.sector_model.specs.declared.refusal.Refusal.{Refusal}
use Rattle.sector_model.specs.declared.refusal.Refusal.TheVariants.{BadCount, NoVolume, OutOfRange}
use Rattle.sector_model.specs.Bank.{IsTrueTo}
use Rattle.superblock.specs.Cases.{Lost}
use Rattle.array_io.specs.Believed.ArrayCalls.{Answer}
use Rattle.array_io.specs.Believed.Views.{EndsIt, RestsOn}
use Rattle.extents.specs.declared.extent_layout.ExtentLayout.{ExtentLayout}
use Rattle.extents.specs.declared.owned.Owned.{Owned}
use Rattle.extents.specs.declared.volume_table.VolumeTable.{VolumeTable}
use Rattle.extents.specs.ExtentMaps.{place_of, sector_of_block}
use Rattle.extents.specs.Owners.{IsAt}
use Rattle.extents.specs.VolumeTables.{record_of}
use Rattle.volume_table.specs.Admission.{AreKept, HasRecordAt, IsWithinVolume, ShowsBy}
use Rattle.volume_table.specs.ListChanges.{ChangesList, IsSame}
use Rattle.volume_table.specs.Shows.{Shows}
use Rattle.volume_table.specs.Stands.{StoreView}
use Rattle.volume_table.specs.StoreCalls.{extents_for_store}
use Rattle.volume_table.specs.StoreChanges.{AllPlaced, AreReadFrom}
use Rattle.volume_table.specs.StoreFunctions.{ReadsBlocks}
use Rattle.volume_table.specs.Volumes.{Block, VolumeMap}
use Rattle.volume_table.specs.VolumeStep.{Blocks, Read, blocks_in, or_refused, refusal_of, reply_to}
use Rattle.volume_table.proofs.KeptMaps.{kept_owner, within_is_placed, within_record}
use Rattle.volume_table.proofs.ReadLemmas.{read_is_shown}
use Rattle.volume_table.proofs.StoreSteps.{done_with_volumes, ended_with_volumes, refused_at_once}

-- the blocks that were read are the volume's
read_is_answered : (extents : ExtentLayout) (table : VolumeTable) (owners : List (Option Owned)) (name : List ℕ) (number at count : ℕ) (blocks V : List Block)
    (volumes : VolumeMap) → AreKept extents table owners
    → HasRecordAt table.records name number → AllPlaced extents owners number at (at + count) → length blocks ≡ count → ShowsBy extents table V volumes
    → None ≡ refusal_of extents (Read name at count) volumes → AreReadFrom extents owners number at blocks V
    → blocks ≡ take count (drop at (blocks_in name volumes.volumes))
read_is_answered extents table owners name number at count blocks V volumes kept found placed long shown admitted read =
    ext_get_or [] blocks wanted (long ∙ sym told.0) each
  where
    wanted : List Block
    wanted = take count (drop at (blocks_in name volumes.volumes))

    replied : reply_to extents (Read name at count) volumes ≡ Blocks wanted
    replied = ap (λ o. or_refused o (Blocks wanted)) (sym admitted)

    told : (length wanted ≡ count)
        × ((j extent : ℕ) → j < count → IsAt shown.shows.table.extents extent number (place_of extents (at + j))
        → get_or wanted j [] ≡ get_or V (sector_of_block extents extent (at + j)) [])
    told =
        read_is_shown extents V volumes number found.entry at count wanted shown.shows
        (ap (λ (t : VolumeTable). record_of t.records number) shown.by ∙ found.used)
        (subst (λ (n : List ℕ). reply_to extents (Read n at count) volumes ≡ Blocks wanted) (sym found.named) replied)

    each : (j : ℕ) → j < length blocks → get_or blocks j [] ≡ get_or wanted j []
    each j within =
        let below : j < count = omega (arith, within, long) in
        let place = placed (at + j) (omega arith) (omega (arith, below)) in
        let in_table : IsAt table.extents place.0 number (place_of extents (at + j)) = sym (kept_owner extents table owners kept place.0) ∙ place.1 in
        read j place.0 within place.1 ∙ sym (told.1 j place.0 below
        (subst (λ (t : VolumeTable). IsAt t.extents place.0 number (place_of extents (at + j))) (sym shown.by) in_table))

-- A read that is admitted, by its calls.
pub read_applies : (honest : Type 0) (name : List ℕ) (at : ℕ) (before blocks : List Block) (old new : StoreView) (owners : List (Option Owned)) (number : ℕ)
    (result : Answer)
    → old.ended ≡ None → AreKept (extents_for_store old) old.keeps owners → ∥ IsWithinVolume old.keeps.records name number at (length before) ∥₁
    → ((extents : ExtentLayout) (sectors : List Block) (volumes : VolumeMap) → ShowsBy extents old.keeps sectors volumes
    → None ≡ refusal_of extents (Read name at (length before)) volumes)
    → (honest → IsTrueTo new.array.panel new.array.history) → ChangesList honest 0 IsSame IsSame old.array new.array result → length blocks ≡ length before
    → (honest → OnOk result ((lost : Option Lost) (V : List Block) → RestsOn old.array lost V → AreReadFrom (extents_for_store old) owners number at blocks V))
    → new.keeps ≡ old.keeps → (result ≡ Ok tt → new.ended ≡ None) → ((refusal : Refusal) → result ≡ Err refusal → new.ended ≡ Some refusal)
    → ReadsBlocks honest name at before blocks old new result
read_applies honest name at before blocks old new owners number result going kept within admitted true_to changes long gives keeps goes ends =
    by_result result changes gives goes ends
  where
    count : ℕ
    count = length before

    on_the_way : (V W : List Block) (volumes : VolumeMap) → ShowsBy (extents_for_store old) old.keeps V volumes → IsSame V W
        → Shows (extents_for_store old) W volumes ⊎ Shows (extents_for_store old) W volumes
    on_the_way V W volumes shown same = inl (subst (λ (l : List Block). Shows (extents_for_store old) l volumes) (sym same) shown.shows)

    left : (V W : List Block) (volumes : VolumeMap) → ShowsBy (extents_for_store old) old.keeps V volumes → IsSame V W
        → ShowsBy (extents_for_store old) new.keeps W volumes
    left V W volumes shown same = rw (keeps, same) shown

    by_result : (result : Answer) → ChangesList honest 0 IsSame IsSame old.array new.array result
        → (honest → OnOk result ((lost : Option Lost) (V : List Block) → RestsOn old.array lost V
        → AreReadFrom (extents_for_store old) owners number at blocks V))
        → (result ≡ Ok tt → new.ended ≡ None) → ((refusal : Refusal) → result ≡ Err refusal → new.ended ≡ Some refusal)
        → ReadsBlocks honest name at before blocks old new result
    by_result (Ok done) changes gives goes ends =
        done_with_volumes honest (Read name at count) 0 IsSame IsSame old new (Blocks blocks) tt (omega arith) going (goes refl) true_to changes
        (blocks, refl, long) (admitted (extents_for_store old))
        (λ fair lost V volumes rests shown. ap Blocks (read_is_answered (extents_for_store old) old.keeps owners name number at count blocks V volumes kept
        (within_record old.keeps.records name number at count within)
        (within_is_placed (extents_for_store old) old.keeps owners name number at count kept within) long shown
        (admitted (extents_for_store old) V volumes shown) (gives fair lost V rests)))
        on_the_way left
    by_result (Err refusal) changes gives goes ends =
        ended_with_volumes honest (Read name at count) 0 IsSame IsSame old new refusal tt (omega arith) going (ends refusal refl) true_to changes
        (admitted (extents_for_store old)) on_the_way

-- What a read is refused with at once does not end the store.
not_ended : (refusal : Refusal) → Contains (NoVolume ∷ BadCount ∷ OutOfRange ∷ []) refusal → ¬ EndsIt refusal
not_ended refusal (zero, below, is) ends = subst EndsIt (sym is) ends
not_ended refusal (suc zero, below, is) ends = subst EndsIt (sym is) ends
not_ended refusal (suc (suc zero), below, is) ends = subst EndsIt (sym is) ends
not_ended refusal (suc (suc (suc k)), below, is) ends = absurd (omega (arith, below))

pub read_is_refused : (honest : Type 0) (name : List ℕ) (at : ℕ) (before blocks : List Block) (store : StoreView) (refusal : Refusal) → store.ended ≡ None
    → Contains (NoVolume ∷ BadCount ∷ OutOfRange ∷ []) refusal
    → ((extents : ExtentLayout) (sectors : List Block) (volumes : VolumeMap) → ShowsBy extents store.keeps sectors volumes
    → Some refusal ≡ refusal_of extents (Read name at (length before)) volumes)
    → ReadsBlocks honest name at before blocks store store (Err refusal)
read_is_refused honest name at before blocks store refusal going among refuses =
    refused_at_once honest (Read name at (length before)) store refusal going among (not_ended refusal among) (refuses (extents_for_store store))
