-- What reading a member's value promises of a bank and the table that it carries.
use Rattle.std.specs.Prelude.{◌≡◌, ◌⊎◌, ◌≤◌, ℕ, Bool, true, false, List, [], ◌∷◌, Option, Result, Ok, Err}
use Rattle.sector_model.specs.declared.calls.TheConstants.{GREATEST_COUNT}
use Rattle.sector_model.specs.declared.refusal.Refusal.{Refusal}
use Rattle.sector_model.specs.declared.refusal.Refusal.TheVariants.{Worn}
use Rattle.sector_model.specs.declared.sector.Stop.TheVariants as stop
use Rattle.sector_model.specs.Bank.{IsLater, IsTrueTo, Panel}
use Rattle.sector_model.specs.History.{Bytes, History, is_down}
use Rattle.sector_model.specs.Readable.{readable}
use Rattle.sector_model.specs.Reads.{HasRead}
use Rattle.superblock.specs.declared.table.Table.{Table}
use Rattle.superblock.specs.Cases.{Lost}
use Rattle.degraded.specs.RowValue.{value}
use Rattle.array_io.specs.Believed.ArrayCalls.{Answer}
use Rattle.array_io.specs.Steps.Bringing.{CountsOn}
use Rattle.array_io.specs.Steps.CallSteps.{CallsOne, StepsOf}
use Rattle.array_io.specs.Steps.MarkingOn.{MarksOn}
use Rattle.array_io.specs.Believed.Moments.{HoldsNow}
use Rattle.array_io.specs.Believed.Settled.{rows_by}
use Rattle.array_io.specs.Believed.Views.{view_of}
use Rattle.array_io.specs.Steps.Writable.{IsWritable}

-- the value of a member in a row was read, by the table, and no device failed
pub record IsValueRead (honest : Type 0) (table : Table) (member row : ℕ) (old_panel new_panel : Panel) (old new : History) (to : Bytes) : Type 0 where
  pub later : IsLater old_panel new_panel
  pub reads : honest → HasRead old new
  pub stays : honest → (device : ℕ) → is_down new device ≡ is_down old device
  pub gives : honest → to ≡ value (rows_by table (readable old)) row member

-- a device failed that the table counts on, in reads of which nothing came, and its slot was marked missing, or that was refused
pub record IsFailureMarked (honest : Type 0) (table new_table : Table) (old_panel new_panel : Panel) (old new : History) (answer : Answer) : Type 0 where
  pub slot : ℕ
  pub counted : CountsOn table slot
  pub mid_panel : Panel
  pub mid : History
  pub calls : CallsOne honest slot old_panel mid_panel old mid (Err (stop.Down slot))
  pub reads : honest → HasRead old mid
  pub true_mid : honest → IsTrueTo mid_panel mid
  pub marks : MarksOn honest slot mid_panel new_panel table new_table mid new answer

-- no further call could be counted
pub record IsReadWorn (honest : Type 0) (old_panel new_panel : Panel) (old new : History) : Type 0 where
  pub later : IsLater old_panel new_panel
  pub worn : GREATEST_COUNT ≤ new_panel.calls
  pub reads : honest → HasRead old new
  pub stays : honest → (device : ℕ) → is_down new device ≡ is_down old device

-- The value is read (`true`), or a device failed and its slot is marked missing (`false`), or that is refused, or no further call can be counted.
abbrev pub ReadsOrFailsSlot : (honest : Type 0) (table new_table : Table) (member row : ℕ) (old_panel new_panel : Panel) (old new : History) (to : Bytes)
    → Result Bool Refusal → Type 0
ReadsOrFailsSlot honest table new_table member row old_panel new_panel old new to result =
    ((result ≡ Ok true) × (new_table ≡ table) × IsValueRead honest table member row old_panel new_panel old new to)
    ⊎ ((result ≡ Ok false) × IsFailureMarked honest table new_table old_panel new_panel old new (Ok tt))
    ⊎ ((refusal : Refusal) × (result ≡ Err refusal) × IsFailureMarked honest table new_table old_panel new_panel old new (Err refusal))
    ⊎ ((result ≡ Err Worn) × (new_table ≡ table) × IsReadWorn honest old_panel new_panel old new)

-- where a call began that keeps the list: the table and what was lost then, and the list
pub record KeepsFrom : Type 0 where
  pub base : Table
  pub lost : Option Lost
  pub logical : List Bytes

-- at each moment every case holds for the list
abbrev pub KeepsList : (devices : ℕ) → KeepsFrom → History → Type 0
KeepsList devices from h = HoldsNow from.base devices from.lost (from.logical ∷ []) h

-- between its steps
abbrev pub Between : (devices number : ℕ) → KeepsFrom → Table → History → Type 0
Between devices number from table h = IsWritable devices number from.base table from.lost from.logical h

-- steps that keep the list, for every number of the last entry
abbrev pub KeepsOn : (honest : Type 0) (table new_table : Table) (old_panel new_panel : Panel) (old new : History) → Answer → Type 0
KeepsOn honest table new_table old_panel new_panel old new answer = (devices number : ℕ)
    → StepsOf honest (KeepsList devices) (Between devices number) (Between devices number) (view_of old_panel old table number)
    (view_of new_panel new new_table number) answer
