-- What putting the rows of an entry on a member promises.
use Rattle.std.specs.Prelude.{◌≡◌, ◌≢◌, ℕ, zero, suc, ◌+◌, ◌<◌, ◌≤◌, ◌&&◌, Bool, cond, true, false, List, [], ◌∷◌, ◌++◌, length, Result, Ok, Err, is_ok}
use Rattle.std.specs.List.Sorted.{IsStrictlyIncreasing}
use Rattle.sector_model.specs.declared.sector.Stop.{Stop}
use Rattle.sector_model.specs.declared.sector.Stop.TheVariants.{Down}
use Rattle.sector_model.specs.Bank.{IsCauseOf, IsLater, Panel}
use Rattle.sector_model.specs.Calls.{Call, Made, Write}
use Rattle.sector_model.specs.History.{Bytes, History, MayHold, is_down, sector_of, seen}
use Rattle.sector_model.specs.Moments.{Throughout}
use Rattle.layout_map.specs.declared.sizes.TheConstants.{FIRST_ROW}
use Rattle.superblock.specs.declared.state.State.TheVariants.{Missing}
use Rattle.superblock.specs.declared.table.Table.{Table}
use Rattle.superblock.specs.NextTables.{slots_of}
use Rattle.superblock.specs.Tables.{state_at}
use Rattle.stripe_journal.specs.OneEntry.{StaysOff}
use Rattle.stripe_journal.specs.Seals.{row_at}
use Rattle.array_io.specs.Believed.Holds.{row_count}
use Rattle.array_io.specs.Believed.Settled.{trusts}
use Rattle.array_io.specs.Steps.Writing.{IsWriting}

-- a member that the table doesn't call missing
pub record IsMemberOn (table : Table) (device : ℕ) : Type 0 where
  pub of_members : device < table.geometry.members
  pub there : state_at table.states device ≢ Missing

-- some rows, which of their sectors are held, and these
pub record HeldRows : Type 0 where
  pub rows : List ℕ
  pub held : (i member : ℕ) → Bool
  pub values : (i member : ℕ) → Bytes

-- the i-th of the rows is put on a member: its sector is held, and the member's own sector counts there by the table
abbrev pub is_put : Table → HeldRows → (member i : ℕ) → Bool
is_put table of member i = of.held i member && trusts (state_at table.states member) (row_at of.rows i) table.position

-- the sector of one of these rows that is put on this member
pub record IsRowOn (table : Table) (of : HeldRows) (member device at : ℕ) (value : Bytes) : Type 0 where
  pub here : device ≡ member
  pub i : ℕ
  pub below : i < length of.rows
  pub put : is_put table of member i ≡ true
  pub place : at ≡ FIRST_ROW + row_at of.rows i
  pub is : value ≡ of.values i member

-- The conditions: the set's slots are slots of the bank, each member that is up, and that the table doesn't call missing, has a sector for each row;
-- and the rows rise, and are rows of the set.
pub record CanPutRows (table : Table) (rows : List ℕ) (panel : Panel) : Type 0 where
  pub of_bank : slots_of table ≤ panel.devices
  pub fit : (member : ℕ) → member < table.geometry.members → state_at table.states member ≢ Missing → panel.down member ≡ false
      → FIRST_ROW + row_count table ≤ panel.sectors member
  pub below : (i : ℕ) → i < length rows → row_at rows i < row_count table
  pub rising : IsStrictlyIncreasing rows

-- the write of the i-th of these rows to this member, if it is put there
abbrev pub row_call : Table → HeldRows → (member i : ℕ) → List Call
row_call table of member i = cond (is_put table of member i) (Write member (FIRST_ROW + row_at of.rows i) (of.values i member) ∷ []) []

-- the same of the rows before the i-th
abbrev pub row_calls : Table → HeldRows → (member i : ℕ) → List Call
row_calls table of member zero = []
row_calls table of member (suc i) = row_calls table of member i ++ row_call table of member i

-- The rows are written to this member, up to one of the writes that wasn't answered, or wasn't made.
pub record WritesRows (table : Table) (of : HeldRows) (member : ℕ) (old new : History) (result : Result (Unit {0}) Stop) : Type 0 where
  pub count : ℕ
  pub most : count ≤ length of.rows
  pub made : Made (row_calls table of member count) (is_ok result) old new
  pub all : result ≡ Ok tt → count ≡ length of.rows

-- a crash leaves on the device what reads give
abbrev pub LeavesSeen : History → (device : ℕ) → Type 0
LeavesSeen h device = (at : ℕ) (value : Bytes) → MayHold h device at value → value ≡ sector_of (seen h device) at

-- What `put_member` promises of the rows of an entry.
pub record PutsMember (honest : Type 0) (table : Table) (of : HeldRows) (member : ℕ) (old_panel new_panel : Panel) (old new : History)
    (result : Result (Unit {0}) Stop) : Type 0 where
  pub later : IsLater old_panel new_panel
  -- an error says that the member is down, and names it, or that no further call can be counted
  pub cause : (stop : Stop) → result ≡ Err stop → IsCauseOf new_panel stop
  pub named : (device : ℕ) → result ≡ Err (Down device) → device ≡ member
  -- nothing else is put, no other device is called, and reads give what they gave, where none of these rows stands
  pub moments : honest → Throughout (IsWriting table (IsRowOn table of member) old) old new
  pub off : honest → StaysOff (λ d. d ≡ member) old new
  pub elsewhere : honest → (at : ℕ) → ((value : Bytes) → ¬ IsRowOn table of member member at value)
      → sector_of (seen new member) at ≡ sector_of (seen old member) at
  -- at Ok no device failed, reads give the rows that are put on it, and a crash leaves on it what reads give, if it did so before
  pub none_failed : honest → result ≡ Ok tt → (device : ℕ) → is_down new device ≡ is_down old device
  pub written : honest → result ≡ Ok tt → (i : ℕ) → i < length of.rows → is_put table of member i ≡ true
      → sector_of (seen new member) (FIRST_ROW + row_at of.rows i) ≡ of.values i member
  pub flushed : honest → result ≡ Ok tt → LeavesSeen old member → LeavesSeen new member
