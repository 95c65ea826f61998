-- What reading many sectors, one after another, promises of a bank and the table that it carries.
use Rattle.std.specs.Prelude.{◌≡◌, ◌⊎◌, ℕ, Bool, true, false, Result, Ok, Err}
use Rattle.sector_model.specs.declared.refusal.Refusal.{Refusal}
use Rattle.sector_model.specs.declared.refusal.Refusal.TheVariants.{Worn}
use Rattle.sector_model.specs.Bank.{IsLater, Panel}
use Rattle.sector_model.specs.History.{History, is_down}
use Rattle.sector_model.specs.Reads.{HasRead}
use Rattle.superblock.specs.declared.table.Table.{Table}
use Rattle.array_io.specs.Steps.ReadingOn.{IsFailureMarked, IsReadWorn}

-- devices were read, and none failed
pub record HasScanned (honest : Type 0) (old_panel new_panel : Panel) (old new : History) : Type 0 where
  pub later : IsLater old_panel new_panel
  pub reads : honest → HasRead old new
  pub stays : honest → (device : ℕ) → is_down new device ≡ is_down old device

-- All was read (`true`), or a device failed and its slot is marked missing (`false`), or that is refused, or no further
-- call can be counted.
abbrev pub ScansOrFailsSlot : (honest : Type 0) (table new_table : Table) (old_panel new_panel : Panel) (old new : History)
    → Result Bool Refusal → Type 0
ScansOrFailsSlot honest table new_table old_panel new_panel old new result =
    ((result ≡ Ok true) × (new_table ≡ table) × HasScanned honest old_panel new_panel old new)
    ⊎ ((result ≡ Ok false) × IsFailureMarked honest table new_table old_panel new_panel old new (Ok tt))
    ⊎ ((refusal : Refusal) × (result ≡ Err refusal) × IsFailureMarked honest table new_table old_panel new_panel old new
    (Err refusal))
    ⊎ ((result ≡ Err Worn) × (new_table ≡ table) × IsReadWorn honest old_panel new_panel old new)
