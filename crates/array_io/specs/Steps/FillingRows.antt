-- What forming the parity of one row of an entry promises.
use Rattle.std.specs.Prelude.{◌≡◌, ℕ, zero, suc, ◌+◌, ◌-◌, ◌<◌, Bool, if◌then◌else◌, OnOk, List}
use Rattle.sector_model.specs.Bank.{Panel}
use Rattle.sector_model.specs.History.{Bytes, History}
use Rattle.layout_map.specs.declared.sizes.TheConstants.{MOST_MEMBERS}
use Rattle.parity.specs.Xor.{xor_of_all}
use Rattle.superblock.specs.declared.table.Table.{Table}
use Rattle.superblock.specs.Tables.{state_at}
use Rattle.stripe_journal.specs.declared.entry.Entry.{Entry}
use Rattle.stripe_journal.specs.Entries.{form_of, numbers_of, sector_at}
use Rattle.array_io.specs.Believed.ArrayCalls.{Answer}
use Rattle.array_io.specs.Believed.Settled.{trusts}
use Rattle.array_io.specs.Steps.FormingRows.{HasParityOn, HasSoundRow, IsListedRow, row_with}
use Rattle.array_io.specs.Steps.ReadingOn.{Between, KeepsFrom, KeepsOn}

-- how many sectors are read for the value of a member in a row: its own where that counts by the table, else those of all other members
abbrev pub reads_of : Table → (row member : ℕ) → ℕ
reads_of table row member = if trusts (state_at table.states member) row table.position then 1 else table.geometry.members - 1

-- the same for those of the members below one that are chosen
abbrev pub reads_below : Table → (row : ℕ) → (chosen : ℕ → Bool) → (member : ℕ) → ℕ
reads_below table row chosen zero = 0
reads_below table row chosen (suc member) = reads_below table row chosen member + (if chosen member then reads_of table row member else 0)

-- A sum is the XOR of the i-th row with what the entry holds of it, and the list's sectors elsewhere.
abbrev pub IsSumOf : (table : Table) → (logical : List Bytes) → Entry → (i row : ℕ) → Bytes → Type 0
IsSumOf table logical entry i row sum = (values : List Bytes) → IsListedRow table.geometry logical row values
    → sum ≡ xor_of_all (row_with table.geometry.members entry i values)

-- The sum is read, in steps that keep the list.
pub record SumsRow (honest : Type 0) (entry : Entry) (i row : ℕ) (old_table new_table : Table) (old_panel new_panel : Panel) (old new : History) (sum : Bytes)
    (answer : Answer) : Type 0 where
  pub steps : KeepsOn honest old_table new_table old_panel new_panel old new answer
  pub is_sum : (number : ℕ) (from : KeepsFrom) → honest → Between old_panel.devices number from old_table old
      → OnOk answer (IsSumOf old_table from.logical entry i row sum)

-- The parity of the i-th row is put where the entry had zeros, so that the row is sound with what it holds, and nothing else of the entry changes.
pub record FormsRow (honest : Type 0) (i row : ℕ) (old_entry new_entry : Entry) (old_table new_table : Table) (old_panel new_panel : Panel) (old new : History)
    (answer : Answer) : Type 0 where
  pub steps : KeepsOn honest old_table new_table old_panel new_panel old new answer
  pub numbers : numbers_of new_entry ≡ numbers_of old_entry
  pub form : form_of new_entry ≡ form_of old_entry
  pub sound : (number : ℕ) (from : KeepsFrom) → honest → Between old_panel.devices number from old_table old
      → OnOk answer (HasSoundRow old_table.geometry from.logical new_entry i row)
  pub others : (other member : ℕ) → member < MOST_MEMBERS → (other ≡ i → ¬ HasParityOn old_table.geometry row member)
      → sector_at new_entry other member ≡ sector_at old_entry other member
