-- What publishing a table promises whose one changed slot is written last.
use Rattle.std.specs.Prelude.{◌≡◌, ◌≢◌, ◌⊎◌, ℕ, ◌+◌, ◌<◌, Bool, true, false, List, [], ◌∷◌, Option, Result, Ok, Err}
use Rattle.sector_model.specs.declared.refusal.Refusal.{Refusal}
use Rattle.sector_model.specs.History.{Bytes, History, sector_of, seen}
use Rattle.sector_model.specs.Readable.{readable}
use Rattle.layout_map.specs.declared.sizes.TheConstants.{FIRST_ROW}
use Rattle.superblock.specs.declared.state.State.TheVariants.{Missing}
use Rattle.superblock.specs.declared.table.Table.{Table}
use Rattle.superblock.specs.Cases.{Lost}
use Rattle.superblock.specs.NextTables.{IsMarked}
use Rattle.superblock.specs.Tables.{incarnation_at, state_at}
use Rattle.degraded.specs.RowValue.{value}
use Rattle.array_io.specs.Believed.Holds.{row_count}
use Rattle.array_io.specs.Believed.Settled.{rows_by, trusts}
use Rattle.array_io.specs.Believed.Views.{ArrayView, GoesOn, HasEnded, IsEndOf, RestsAfter, RestsOn}
use Rattle.array_io.specs.Believed.Moments.{HoldsThroughout}
use Rattle.rebuild.specs.Preparing.{IsPrepared}

-- The next table speaks of what the slot's device holds: a newly joined device is prepared, and one whose incarnation stays is the slot's still; and
-- each of a member's own sectors that the next table trusts is the member's value, those among them that the table trusts.
pub record MayJoin (devices : ℕ) (table next : Table) (slot : ℕ) (h : History) : Type 0 where
  pub device : (incarnation_at next.incarnations slot ≡ incarnation_at table.incarnations slot × (state_at table.states slot ≢ Missing))
      ⊎ ((incarnation_at next.incarnations slot ≡ incarnation_at table.incarnations slot + 1) × (state_at table.states slot ≡ Missing)
      × IsPrepared devices table slot h)
  pub more : (row : ℕ) → trusts (state_at table.states slot) row table.position ≡ true → trusts (state_at next.states slot) row next.position ≡ true
  pub own : (row : ℕ) → slot < table.geometry.members → row < row_count table → trusts (state_at next.states slot) row next.position ≡ true
      → sector_of (seen h slot) (FIRST_ROW + row) ≡ value (rows_by table (readable h)) row slot

-- which table the array then has: the one that was, the next one, or that with the slot missing, whose device is down
abbrev pub IsTableAfter : (old next : Table) → ℕ → ArrayView → Type 0
IsTableAfter old next slot new = (new.table ≡ old) ⊎ (new.table ≡ next) ⊎ (IsMarked next slot new.table × (new.panel.down slot ≡ true))

-- `publish_last(bank, table, next, slot)`: the next table differs in the slot alone, whose device is up; at each moment the list stays; at Ok
-- `true` the next table is published, and at `false` the slot's device is down, and the slot missing.
pub record PublishesLast (honest : Type 0) (next : Table) (slot : ℕ) (old new : ArrayView) (result : Result Bool Refusal) : Type 0 where
  pub goes_on : GoesOn old new
  pub number : new.number ≡ old.number
  pub taken : result ≡ Ok true → (new.table ≡ next) × (new.panel.down slot ≡ false)
  pub failed : result ≡ Ok false → IsMarked next slot new.table × (new.panel.down slot ≡ true)
  pub table : IsTableAfter old.table next slot new
  pub others : honest → ¬ HasEnded result → (other : ℕ) → other ≢ slot → new.panel.down other ≡ old.panel.down other
  pub moments : honest → (lost : Option Lost) (V : List Bytes) → RestsOn old lost V → MayJoin old.panel.devices old.table next slot old.history
      → HoldsThroughout old.table old.panel.devices lost (V ∷ []) old.history new.history
  pub rests : honest → ¬ HasEnded result → (lost : Option Lost) (V : List Bytes) → RestsOn old lost V
      → MayJoin old.panel.devices old.table next slot old.history → RestsAfter lost new V
  pub cause : (refusal : Refusal) → result ≡ Err refusal → IsEndOf old new ⊥ refusal
