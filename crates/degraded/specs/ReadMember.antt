-- What reading a member's row promises, also without its device.
use Rattle.std.specs.Prelude.{◌≡◌, ◌≢◌, ℕ, ◌+◌, ◌<◌, Bool, true, ◌&&◌, ◌||◌, not, ◌==◌, nat_lt, Option, Some, None, Result, Ok, Err}
use Rattle.sector_model.specs.declared.sector.Stop.{Stop}
use Rattle.sector_model.specs.declared.sector.Stop.TheVariants.{Down}
use Rattle.sector_model.specs.Bank.{IsCauseOf, IsLater, Panel}
use Rattle.sector_model.specs.History.{Bytes, History, Slots, disk_of, is_down, sector_of}
use Rattle.sector_model.specs.Readable.{readable}
use Rattle.sector_model.specs.Reads.{HasRead}
use Rattle.layout_map.specs.declared.sizes.TheConstants.{FIRST_ROW}
use Rattle.degraded.specs.RowValue.{Rows, value}

-- a member that is rebuilding, and how many of its rows count
pub record RebuildingMember : Type 0 where
  pub member : ℕ
  pub position : ℕ

-- which devices are live, and which member is rebuilding below which row
pub record LiveSlots : Type 0 where
  pub members : ℕ
  pub live : ℕ → Bool
  pub rebuilding : Option RebuildingMember

-- the member is not the rebuilding one, or the row is below the position
abbrev pub is_below : Option RebuildingMember → (row member : ℕ) → Bool
is_below None row member = true
is_below (Some rebuilding) row member = not (rebuilding.member == member) || nat_lt row rebuilding.position

-- the member's own sector counts in this row
abbrev pub is_read : LiveSlots → (row member : ℕ) → Bool
is_read slots row member = slots.live member && is_below slots.rebuilding row member

-- the rows by which code reads: the members' own sectors where they count, and no entry
abbrev pub rows_of : LiveSlots → Slots → Rows
rows_of slots image = record {
  members = slots.members;
  entry = λ row member. None;
  trusted = λ row member. is_read slots row member;
  own = λ row member. sector_of (disk_of (image member)) (FIRST_ROW + row);
}

-- only the device that an error names may have gone down
abbrev pub OnlyNamedFailed : Result (Unit {0}) Stop → (old new : History) → Type 0
OnlyNamedFailed result old new = (device : ℕ) → result ≢ Err (Down device) → is_down new device ≡ is_down old device

-- `read_member(bank, live, member, row, to)`: the member's own sector where it counts, else the XOR of the others, by reads alone.
-- Only a device that `Down` names may have gone down: a member whose sector counts and whose device is down; `Worn` where no further call can be counted.
pub record ReadsMember (honest : Type 0) (slots : LiveSlots) (member row : ℕ) (old_panel new_panel : Panel) (old new : History) (to : Bytes)
    (result : Result (Unit {0}) Stop) : Type 0 where
  pub later : IsLater old_panel new_panel
  pub reads : honest → HasRead old new
  pub gives : honest → result ≡ Ok tt → to ≡ value (rows_of slots (readable old)) row member
  pub cause : (stop : Stop) → result ≡ Err stop → IsCauseOf new_panel stop
  pub stays : honest → OnlyNamedFailed result old new
  pub named : (device : ℕ) → result ≡ Err (Down device) → (device < slots.members) × (is_read slots row device ≡ true)
