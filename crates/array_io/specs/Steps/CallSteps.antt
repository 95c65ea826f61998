-- The steps of which a call of an open array consists.
use Rattle.std.specs.Prelude.{◌≡◌, ◌≢◌, ◌⊎◌, ℕ, ◌<◌, ◌≤◌, true, false, List, Result, Ok, Err}
use Rattle.sector_model.specs.declared.calls.TheConstants.{GREATEST_COUNT}
use Rattle.sector_model.specs.declared.refusal.Refusal.{Refusal}
use Rattle.sector_model.specs.declared.refusal.Refusal.TheVariants.{TwoLost, Worn}
use Rattle.sector_model.specs.declared.sector.Stop.{Stop}
use Rattle.sector_model.specs.declared.sector.Stop.TheVariants as stop
use Rattle.sector_model.specs.Bank.{IsCauseOf, IsLater, Panel}
use Rattle.sector_model.specs.History.{Bytes, History, is_down, sector_of, seen}
use Rattle.sector_model.specs.Moments.{Throughout}
use Rattle.layout_map.specs.declared.sizes.TheConstants.{SUPERBLOCK_PLACES}
use Rattle.superblock.specs.declared.state.State.TheVariants.{Missing}
use Rattle.superblock.specs.declared.table.Table.{Table}
use Rattle.superblock.specs.NextTables.{slots_of}
use Rattle.superblock.specs.Publishing.{StandsAt, place_of}
use Rattle.superblock.specs.Tables.{state_at}
use Rattle.stripe_journal.specs.OneEntry.{StaysOff}
use Rattle.array_io.specs.Believed.ArrayCalls.{Answer}
use Rattle.array_io.specs.Believed.Views.{ArrayView, GoesOn, HasEnded, IsTwoLost, StaysButForFailures}

-- what was down is down
abbrev pub StaysDown : History → History → Type 0
StaysDown old h = (device : ℕ) → is_down old device ≡ true → is_down h device ≡ true

-- reads of the superblocks' places give what they gave
abbrev pub KeepsFront : History → History → Type 0
KeepsFront old h = (device at : ℕ) → at < SUPERBLOCK_PLACES → sector_of (seen h device) at ≡ sector_of (seen old device) at

-- calls of one device, none of which writes a superblock, up to the first that is not answered
pub record CallsOne (honest : Type 0) (device : ℕ) (old_panel new_panel : Panel) (old new : History) (result : Result (Unit {0}) Stop) : Type 0 where
  pub later : IsLater old_panel new_panel
  pub cause : (stop : Stop) → result ≡ Err stop → IsCauseOf new_panel stop
  pub named : (other : ℕ) → result ≡ Err (stop.Down other) → other ≡ device
  pub off : honest → StaysOff (λ d. d ≡ device) old new
  pub none_failed : honest → result ≡ Ok tt → (other : ℕ) → is_down new other ≡ is_down old other
  pub runs : honest → Throughout (StaysDown old) old new
  pub front : honest → result ≡ Ok tt → KeepsFront old new

-- Why steps were refused: two slots are out; or no further call can be counted; or the table, which stays and calls no slot missing, can have no further
-- generation.
abbrev pub IsStepEnd : (old new : ArrayView) → Refusal → Type 0
IsStepEnd old new refusal = ((refusal ≡ TwoLost) × IsTwoLost new)
    ⊎ ((refusal ≡ Worn) × (GREATEST_COUNT ≤ new.panel.calls))
    ⊎ ((refusal ≡ Worn) × (GREATEST_COUNT ≤ old.table.generation) × (new.table ≡ old.table)
    × ((slot : ℕ) → slot < slots_of old.table → state_at old.table.states slot ≢ Missing))

-- a superblock of the table stands on a device that is up, in the slot of its own
pub record IsPublishedOn (id : List ℕ) (devices : ℕ) (table : Table) (h : History) : Type 0 where
  pub slot : ℕ
  pub sector : Bytes
  pub same_id : table.id ≡ id
  pub room : slots_of table ≤ devices
  pub stands : StandsAt table slot sector
  pub up : is_down h slot ≡ false
  pub is_there : sector_of (seen h slot) (place_of table) ≡ sector

-- the table stayed, the superblocks are as they were, and no device failed
pub record IsCarriedOn (old new : ArrayView) : Type 0 where
  pub table : new.table ≡ old.table
  pub front : KeepsFront old.history new.history
  pub down : (device : ℕ) → is_down new.history device ≡ is_down old.history device

-- a slot was marked missing, and a superblock says so
pub record IsPublishedAnew (old new : ArrayView) : Type 0 where
  pub slot : ℕ
  pub of_set : slot < slots_of new.table
  pub missing : state_at new.table.states slot ≡ Missing
  pub published : IsPublishedOn old.table.id old.panel.devices new.table new.history

-- What steps promise, for whatever the call began with (`from`): where the run is as `before` says, `holds` is so at each moment, and at Ok the run is as
-- `after` says.
pub record StepsOf (honest : Type 0) {From : Type 0} (holds : From → History → Type 0) (before after : From → Table → History → Type 0) (old new : ArrayView)
    (answer : Answer) : Type 0 where
  pub goes_on : GoesOn old new
  pub stays : StaysButForFailures honest old new (HasEnded answer)
  pub number : new.number ≡ old.number
  pub moments : honest → (from : From) → before from old.table old.history → Throughout (holds from) old.history new.history
  pub reached : honest → answer ≡ Ok tt → (from : From) → before from old.table old.history → after from new.table new.history
  pub runs : honest → Throughout (StaysDown old.history) old.history new.history
  pub carried : honest → answer ≡ Ok tt → IsCarriedOn old new ⊎ IsPublishedAnew old new
  pub cause : (refusal : Refusal) → answer ≡ Err refusal → IsStepEnd old new refusal
