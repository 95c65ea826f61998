-- What calls of an array, one after another, do to the logical list on which it is settled.
use Rattle.std.specs.Prelude.{◌≡◌, ◌⊎◌, ℕ, ◌+◌, ◌≤◌, List, Contains, Option, Ok, Err}
use Rattle.sector_model.specs.declared.refusal.Refusal.{Refusal}
use Rattle.sector_model.specs.History.{Bytes, History, MayLeave, Slots}
use Rattle.sector_model.specs.Moments.{Throughout}
use Rattle.superblock.specs.declared.table.Table.{Table}
use Rattle.superblock.specs.Cases.{Case, Lost}
use Rattle.superblock.specs.Losses.{IsLostAt}
use Rattle.superblock.specs.NextTables.{slots_of}
use Rattle.array_io.specs.Believed.ArrayCalls.{Answer}
use Rattle.array_io.specs.Believed.Holds.{Holds}
use Rattle.array_io.specs.Believed.Views.{ArrayView, GoesOn, HasEnded, IsEndOf, RestsAfter, RestsOn, StaysButForFailures}
use Rattle.sector_model.specs.declared.calls.TheConstants.{GREATEST_COUNT}

-- a kind of logical lists
abbrev pub Kind : Type 1
Kind = List Bytes → Type 0

-- how a list may differ from the one before
abbrev pub Change : Type 1
Change = (before now : List Bytes) → Type 0

-- a case holds for some logical lists, all of one kind
pub record HoldsForSome (base : Table) (devices : ℕ) (case : Case) (kind : Kind) : Type 0 where
  pub lists : List (List Bytes)
  pub holds : Holds base devices case lists
  pub each : (logical : List Bytes) → Contains lists logical → kind logical

-- every case that a crash now may leave does
abbrev pub HoldsForSomeNow : (base : Table) (devices : ℕ) (before : Option Lost) → Kind → History → Type 0
HoldsForSomeNow base devices before kind h = (after : Option Lost) (image : Slots) → IsLostAt (slots_of base) before h after
    → MayLeave h image → HoldsForSome base devices record { image = image; lost = after } kind

-- after a call the array is settled on a list of this kind
pub record RestsOnSome (before : Option Lost) (array : ArrayView) (kind : Kind) : Type 0 where
  pub logical : List Bytes
  pub is : kind logical
  pub rests : RestsAfter before array logical

-- the number of the last entry stands at 2^62, and with this many entries it may
abbrev pub IsNumberFull : (entries : ℕ) (old new : ArrayView) → Type 0
IsNumberFull entries old new = (GREATEST_COUNT ≤ old.number + entries) × (GREATEST_COUNT ≤ new.number)

-- Calls that write so many entries at most. From settled on some list, each case holds at each moment for lists that differ from it as `passes` says; at Ok the
-- array is settled
-- on one that differs as `leaves` says. 15, 16.
pub record ChangesList (honest : Type 0) (entries : ℕ) (passes leaves : Change) (old new : ArrayView) (answer : Answer) : Type 0 where
  pub goes_on : GoesOn old new
  pub stays : StaysButForFailures honest old new (HasEnded answer)
  pub number : answer ≡ Ok tt → new.number ≤ old.number + entries
  pub moments : honest → (lost : Option Lost) (V : List Bytes) → RestsOn old lost V
      → Throughout (HoldsForSomeNow old.table old.panel.devices lost (passes V)) old.history new.history
  pub rests : honest → answer ≡ Ok tt → (lost : Option Lost) (V : List Bytes) → RestsOn old lost V → RestsOnSome lost new (leaves V)
  pub cause : (refusal : Refusal) → answer ≡ Err refusal → IsEndOf old new (IsNumberFull entries old new) refusal

-- the list is as it was
abbrev pub IsSame : Change
IsSame before now = now ≡ before

-- the list is as it was, or differs so
abbrev pub IsSameOr : Change → Change
IsSameOr change before now = IsSame before now ⊎ change before now
