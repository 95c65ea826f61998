-- From an array that is safe: opening a store, the events of a run, and what a crash leaves.
use Rattle.std.proofs.Common.{◌≡◌, inl, inr, ℕ, List, [], ◌∷◌, Option, Some, refl, sym, subst, arith}
use Rattle.std.specs.Prelude.{Contains}
use Rattle.std.proofs.lemmas.List.Elements.{Contains-push, Contains-push_cases}
use Rattle.sector_model.specs.History.{Bytes, History}
use Rattle.sector_model.specs.Readable.{readable}
use Rattle.sector_model.proofs.Readable.{readable_left}
use Rattle.superblock.specs.declared.table.Table.{Table}
use Rattle.superblock.specs.Cases.{Lost}
use Rattle.superblock.specs.Losses.{IsLostAt, IsSingleFailure}
use Rattle.superblock.specs.NextTables.{IsNotOlder, slots_of}
use Rattle.superblock.proofs.LaterTables.{not_older_both}
use Rattle.superblock.proofs.Losing.{lost_after_is_one}
use Rattle.array_io.specs.Laws.Law.{AreReplacedStale}
use Rattle.array_io.specs.Believed.Holds.{Holds}
use Rattle.array_io.specs.Believed.Settled.{IsSettled}
use Rattle.array_io.specs.Believed.Views.{ArrayView, RestsOn}
use Rattle.array_io.proofs.Laws.Beginning.{holds_at_rest}
use Rattle.volume_table.specs.Volumes.{VolumeMap}
use Rattle.volume_table.specs.Shows.{Shows}
use Rattle.volume_table.specs.Stands.{IsSettledAfter, IsSettledOn, StandsNow}
use Rattle.volume_table.specs.Runs.{Fate, GoesOver, Serving}
use Rattle.volume_table.proofs.SafeWorlds.{IsOver, goes_over, same_slots}
use Rattle.extents.specs.SetExtents.{extents_in}

-- the slot that was lost is still lost at the end
still_lost : (slots : ℕ) (during : Option Lost) (h : History) (l : Lost) → during ≡ Some l → IsSingleFailure slots during h → IsLostAt slots (Some l) h (Some l)
still_lost slots during h l is one = by_lost (subst (λ (o : Option Lost). IsSingleFailure slots o h) is one)
  where
    by_lost : IsSingleFailure slots (Some l) h → IsLostAt slots (Some l) h (Some l)
    by_lost (after, (of_set, same, up)) = (of_set, refl, up)

-- by what stands at the end, what reads give holds with that slot lost
pub holds_readable : (slots devices : ℕ) (base : Table) (during : Option Lost) (maps : List VolumeMap) (h : History) → slots_of base ≡ slots
    → StandsNow base devices during maps h → IsSingleFailure slots during h
    → (l : Lost) → during ≡ Some l → (X : List (List Bytes)) × Holds base devices record { image = readable h; lost = Some l } X
holds_readable slots devices base during maps h same now one l is =
    let stands = now (Some l) (readable h)
    (subst (λ (o : Option Lost). IsLostAt (slots_of base) o h (Some l)) (sym is)
    (subst (λ (n : ℕ). IsLostAt n (Some l) h (Some l)) (sym same) (still_lost slots during h l is one))) (readable_left h) in
    (stands.lists, stands.holds)

-- An open array that is safe: it is settled on a list that shows these volumes, and what was replaced is stale.
pub record IsSafeArray (made : Table) (devices : ℕ) (array : ArrayView) (fate : Fate) (volumes : VolumeMap) : Type 0 where
  pub of_bank : array.panel.devices ≡ devices
  pub not_older : IsNotOlder made array.table
  pub logical : List Bytes
  pub over : IsOver devices array.table array.number array.history fate logical
  pub shown : Shows (extents_in array.table.geometry) logical volumes

-- An open store that is safe.
pub record IsSafeStore (made : Table) (devices : ℕ) (serving : Serving) (volumes : VolumeMap) : Type 0 where
  pub of_bank : serving.store.array.panel.devices ≡ devices
  pub not_older : IsNotOlder made serving.store.array.table
  pub settled : IsSettledOn serving.store serving.fate.lost volumes
  pub replaced : AreReplacedStale devices serving.store.array.table serving.fate.replaced

pub rests_on : (made : Table) (devices : ℕ) (array : ArrayView) (fate : Fate) (volumes : VolumeMap) (safe : IsSafeArray made devices array fate volumes)
    → RestsOn array fate.lost safe.logical
rests_on made devices array fate volumes safe =
    subst (λ (d : ℕ). IsSettled d array.table array.number array.history fate.lost safe.logical) (sym safe.of_bank) safe.over.settled

-- Where an array is settled on a list, each case stands for the volumes that it shows.
pub stands_at_rest : (devices : ℕ) (table : Table) (number : ℕ) (h : History) (lost : Option Lost) (V : List Bytes) (volumes : VolumeMap)
    → IsSettled devices table number h lost V → Shows (extents_in table.geometry) V volumes → StandsNow table devices lost (volumes ∷ []) h
stands_at_rest devices table number h lost V volumes settled shown after image is may = record {
  lists = V ∷ [];
  holds = holds_at_rest devices table number h lost V settled after image is may;
  shown = λ logical among. elim (Contains-push_cases [] V logical among) [
    | inl none ↦ absurd (no_list logical none)
    | inr is ↦ record {
      volumes = volumes;
      among = Contains-push [] volumes;
      shown =
          subst (λ (l : List Bytes). Shows (extents_in table.geometry) l volumes) is shown;
    }
  ];
}
  where
    no_list : (logical : List Bytes) → Contains [] logical → ⊥
    no_list logical (k, below, is) = omega (arith, below)

-- A store after a call: by what the call promises, and what reads give at the end.
pub store_after : (made : Table) (devices : ℕ) (base : Table) (during : Option Lost) (maps : List VolumeMap) (old : Fate) (new : Serving) (volumes : VolumeMap)
    → IsNotOlder made base → IsNotOlder base new.store.array.table → new.store.array.panel.devices ≡ devices → AreReplacedStale devices base old.replaced
    → GoesOver (slots_of made) during old new.store.array.table new.store.array.history new.fate
    → StandsNow base devices during maps new.store.array.history → IsSettledAfter during new.store volumes → IsSafeStore made devices new volumes
store_after made devices base during maps old new volumes older later of_bank stale over now after = record {
  of_bank = of_bank;
  not_older = not_older_both made base new.store.array.table older later;
  settled = subst (λ (l : Option Lost). IsSettledOn new.store l volumes)
      (lost_after_is_one during new.store.array.table after.lost new.fate.lost after.is_lost over.lost) after.settled;
  replaced = (goes_over (slots_of made) devices base new.store.array.table new.store.array.number new.store.array.history during after.lost old new.fate
      after.settled.logical
      later stale over after.is_lost
      (subst (λ (d : ℕ). IsSettled d new.store.array.table new.store.array.number new.store.array.history after.lost after.settled.logical) of_bank
      after.settled.rests)
      (holds_readable (slots_of made) devices base during maps new.store.array.history (same_slots made base older) now over.single_failure)).replaced;
}
