-- What the parts of writing the rebuilding member's rows promise of a bank and the table that it carries.
use Rattle.std.specs.Prelude.{◌≡◌, ◌≢◌, ◌⊎◌, ℕ, ◌+◌, ◌<◌, ◌≤◌, Bool, true, false, Result, Ok, Err}
use Rattle.sector_model.specs.declared.refusal.Refusal.{Refusal}
use Rattle.sector_model.specs.declared.refusal.Refusal.TheVariants.{Worn}
use Rattle.sector_model.specs.declared.sector.Stop.{Stop}
use Rattle.sector_model.specs.declared.sector.Stop.TheVariants as stop
use Rattle.sector_model.specs.declared.calls.TheConstants.{GREATEST_COUNT}
use Rattle.sector_model.specs.Bank.{IsLater, IsTrueTo, Panel}
use Rattle.sector_model.specs.History.{Bytes, History, MayHold, is_down, sector_of, seen}
use Rattle.sector_model.specs.Moments.{Contents, Throughout}
use Rattle.sector_model.specs.Readable.{readable}
use Rattle.layout_map.specs.declared.sizes.TheConstants.{FIRST_ROW}
use Rattle.superblock.specs.declared.state.State.TheVariants.{Rebuilding}
use Rattle.superblock.specs.declared.table.Table.{Table}
use Rattle.superblock.specs.Tables.{state_at}
use Rattle.stripe_journal.specs.OneEntry.{StaysOff}
use Rattle.degraded.specs.RowValue.{value}
use Rattle.array_io.specs.Believed.ArrayCalls.{Answer}
use Rattle.array_io.specs.Steps.Bringing.{CountsOn}
use Rattle.array_io.specs.Believed.Holds.{row_count}
use Rattle.array_io.specs.Steps.MarkingOn.{MarksOn}
use Rattle.array_io.specs.Steps.PuttingSteps.{IsUntouched}
use Rattle.array_io.specs.Believed.Settled.{rows_by}
use Rattle.array_io.specs.Believed.Views.{HasItsSlots}
use Rattle.array_io.specs.Steps.Writing.{IsWriting}

-- whatever stands in the rows of this member that don't count so far
abbrev pub OwnRows : Table → (member : ℕ) → Contents
OwnRows table member device at value = (device ≡ member) × (FIRST_ROW + table.position ≤ at)

-- The conditions: the set's slots are slots of the bank, and these rows are rows of the set at or after the rebuilding
-- member's position.
pub record CanFill (table : Table) (member from end : ℕ) (panel : Panel) : Type 0 where
  pub its_slots : HasItsSlots table panel
  pub of_members : member < table.geometry.members
  pub rebuilding : state_at table.states member ≡ Rebuilding
  pub least : table.position ≤ from
  pub ordered : from ≤ end
  pub most : end ≤ row_count table

-- These rows were written on the member, each by what reads of the others gave; nothing else was, and no device failed.
pub record FillsRows (honest : Type 0) (table : Table) (member from end : ℕ) (old_panel new_panel : Panel)
    (old new : History) : Type 0 where
  pub later : IsLater old_panel new_panel
  pub moments : honest → Throughout (IsWriting table (OwnRows table member) old) old new
  pub off : honest → StaysOff (λ d. d ≡ member) old new
  pub stays : honest → (device : ℕ) → is_down new device ≡ is_down old device
  pub own : honest → (row : ℕ) → from ≤ row → row < end → sector_of (seen new member)
      (FIRST_ROW + row) ≡ value (rows_by table (readable old)) row member
  pub beside : honest → (at : ℕ) → (at < FIRST_ROW + from) ⊎ (FIRST_ROW + end ≤ at)
      → sector_of (seen new member) at ≡ sector_of (seen old member) at

-- A device failed that the table counts on, after some of this, and its slot was marked missing, or that was refused.
pub record IsFillMarked (honest : Type 0) (table new_table : Table) (member : ℕ) (old_panel new_panel : Panel)
    (old new : History) (answer : Answer) : Type 0 where
  pub slot : ℕ
  pub counted : CountsOn table slot
  pub mid_panel : Panel
  pub mid : History
  pub later : IsLater old_panel mid_panel
  pub down : mid_panel.down slot ≡ true
  pub moments : honest → Throughout (IsWriting table (OwnRows table member) old) old mid
  pub off : honest → slot ≡ member → StaysOff (λ d. d ≡ member) old mid
  pub true_mid : honest → IsTrueTo mid_panel mid
  pub marks : MarksOn honest slot mid_panel new_panel table new_table mid new answer

-- After some of this no further call could be counted.
pub record IsFillWorn (honest : Type 0) (table : Table) (member : ℕ) (old_panel new_panel : Panel)
    (old new : History) : Type 0 where
  pub later : IsLater old_panel new_panel
  pub worn : GREATEST_COUNT ≤ new_panel.calls
  pub moments : honest → Throughout (IsWriting table (OwnRows table member) old) old new
  pub off : honest → StaysOff (λ d. d ≡ member) old new

-- what marking a slot answered, by what is then answered
abbrev pub mark_answer : Result Bool Refusal → Answer
mark_answer (Ok is_done) = Ok tt
mark_answer (Err refusal) = Err refusal

-- It is done (`true`), or a device failed and its slot is marked missing (`false`), or that is refused, or no further
-- call can be counted.
abbrev pub DoneOrFailsSlot : (done honest : Type 0) (table new_table : Table) (member : ℕ) (old_panel new_panel : Panel)
    (old new : History)
    → Result Bool Refusal → Type 0
DoneOrFailsSlot done honest table new_table member old_panel new_panel old new result =
    ((result ≡ Ok true) × (new_table ≡ table) × done)
    ⊎ ((result ≢ Ok true) × IsFillMarked honest table new_table member old_panel new_panel old new (mark_answer result))
    ⊎ ((result ≡ Err Worn) × (new_table ≡ table) × IsFillWorn honest table member old_panel new_panel old new)

-- so are these rows written
abbrev pub FillsOrFailsSlot : (honest : Type 0) (table new_table : Table) (member from end : ℕ)
    (old_panel new_panel : Panel) (old new : History)
    → Result Bool Refusal → Type 0
FillsOrFailsSlot honest table new_table member from end old_panel new_panel old new result =
    DoneOrFailsSlot (FillsRows honest table member from end old_panel new_panel old new) honest table new_table member
    old_panel new_panel old new result

-- The rows are written, and safe on the member.
pub record IsFlushed (honest : Type 0) (table : Table) (member from end : ℕ) (old_panel new_panel : Panel)
    (old new : History) : Type 0 where
  pub rows : FillsRows honest table member from end old_panel new_panel old new
  pub up : new_panel.down member ≡ false
  pub flushed : honest → (at : ℕ) (value : Bytes) → MayHold new member at value → value ≡ sector_of (seen new member) at

-- Calls of the member's device that ended so are taken over: as answered, or as the end of the count, or its slot is
-- marked missing, or that is refused.
abbrev pub EndsOrFails : (honest : Type 0) (slot : ℕ) (old_panel new_panel : Panel) (old_table new_table : Table)
    (old new : History)
    → Result (Unit {0}) Stop → Result Bool Refusal → Type 0
EndsOrFails honest slot old_panel new_panel old_table new_table old new (Ok done) result =
    (result ≡ Ok true) × IsUntouched old_panel new_panel old_table new_table old new
EndsOrFails honest slot old_panel new_panel old_table new_table old new (Err stop.Worn) result =
    (result ≡ Err Worn) × IsUntouched old_panel new_panel old_table new_table old new
EndsOrFails honest slot old_panel new_panel old_table new_table old new (Err (stop.Down device)) result =
    (result ≢ Ok true) × MarksOn honest slot old_panel new_panel old_table new_table old new (mark_answer result)
