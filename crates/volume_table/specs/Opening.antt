-- What opening a store promises.
use Rattle.std.specs.Prelude.{◌≡◌, List, [], ◌∷◌, Option, None}
use Rattle.sector_model.specs.declared.refusal.Refusal.{Refusal}
use Rattle.sector_model.specs.declared.refusal.Refusal.TheVariants.{BadTable, TwoLost, Worn}
use Rattle.sector_model.specs.Bank.{IsLater, Panel}
use Rattle.sector_model.specs.History.{Bytes, History}
use Rattle.superblock.specs.Cases.{Lost}
use Rattle.array_io.specs.Believed.Views.{ArrayView, GoesOn, IsEndOf, RestsOn, StaysButForFailures}
use Rattle.extents.specs.SetExtents.{extents_in, IsOfSet}
use Rattle.extents.specs.declared.volume_table.VolumeTable.{VolumeTable}
use Rattle.extents.specs.TableSpelling.{Spell}
use Rattle.array_io.specs.Believed.ReadWhole.{NoDeviceFailed, list_read}
use Rattle.recovery.specs.Making.{BankView}
use Rattle.volume_table.specs.Volumes.{VolumeMap}
use Rattle.volume_table.specs.Shows.{Shows}
use Rattle.volume_table.specs.Stands.{IsSettledAfter, StandsThroughout, StoreView}

-- how opening ends: with a store, or with the bank back and a refusal
pub data Outcome : Type 0 where
  Opened : StoreView → Outcome
  Returned : BankView → Refusal → Outcome

abbrev pub opened : StoreView → Outcome
opened store = Opened store

abbrev pub given_back : Panel → History → Refusal → Outcome
given_back panel history refusal = Returned (record { panel = panel; history = history }) refusal

-- the bank as it stands then
abbrev pub bank_after : Outcome → BankView
bank_after (Opened store) = record { panel = store.array.panel; history = store.array.history }
bank_after (Returned bank refusal) = bank

-- no map of volumes is shown by a list on which the array is settled
abbrev pub ShowsNothing : ArrayView → Type 0
ShowsNothing array = (lost : Option Lost) (V : List Bytes) (volumes : VolumeMap) → RestsOn array lost V → ¬ Shows (extents_in array.table.geometry) V volumes

-- no table of volumes that may be the set's is spelled there
abbrev pub SpellsNoTable : ArrayView → Type 0
SpellsNoTable array = (table : VolumeTable) → Spell (list_read array) table → ¬ IsOfSet (extents_in array.table.geometry) table

-- the array was given up, as it stood then, for 15 or 16
pub record WasGivenUp (honest : Type 0) (old : ArrayView) (bank : BankView) (refusal : Refusal) : Type 0 where
  pub array : ArrayView
  pub panel : array.panel ≡ bank.panel
  pub history : array.history ≡ bank.history
  pub goes_on : GoesOn old array
  pub stays : StaysButForFailures honest old array (Unit {0})
  pub ends : IsEndOf old array ⊥ refusal

-- why opening was refused
abbrev pub IsNoOpening : Type 0 → ArrayView → BankView → Refusal → Type 0
IsNoOpening honest old bank BadTable = (honest → ShowsNothing old) × (honest → NoDeviceFailed old.panel bank.panel → SpellsNoTable old)
IsNoOpening honest old bank TwoLost = WasGivenUp honest old bank TwoLost
IsNoOpening honest old bank Worn = WasGivenUp honest old bank Worn
IsNoOpening honest old bank refusal = ⊥

-- `open(array)`: a store that is settled on the volumes that the array's list shows. 18, 15, 16.
pub record Opens (honest : Type 0) (old : ArrayView) (outcome : Outcome) : Type 0 where
  pub later : IsLater old.panel (bank_after outcome).panel
  pub going : (store : StoreView) → outcome ≡ Opened store → store.ended ≡ None
  pub goes_on : (store : StoreView) → outcome ≡ Opened store → GoesOn old store.array
  pub stays : (store : StoreView) → outcome ≡ Opened store → StaysButForFailures honest old store.array ⊥
  pub moments : honest → (lost : Option Lost) (V : List Bytes) (volumes : VolumeMap) → RestsOn old lost V → Shows (extents_in old.table.geometry) V volumes
      → StandsThroughout old.table old.panel.devices lost (volumes ∷ []) old.history (bank_after outcome).history
  pub settled : honest → (lost : Option Lost) (V : List Bytes) (volumes : VolumeMap) → RestsOn old lost V → Shows (extents_in old.table.geometry) V volumes
      → (store : StoreView) → outcome ≡ Opened store → IsSettledAfter lost store volumes
  pub of_set : (store : StoreView) → outcome ≡ Opened store → IsOfSet (extents_in old.table.geometry) store.keeps
  pub spelled : honest → (lost : Option Lost) (V : List Bytes) → RestsOn old lost V → (store : StoreView) → outcome ≡ Opened store → Spell V store.keeps
  pub cause : (bank : BankView) (refusal : Refusal) → outcome ≡ Returned bank refusal → IsNoOpening honest old bank refusal
