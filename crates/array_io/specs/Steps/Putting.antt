-- An entry comes onto a set: which part of it stands on which journal, and on which members its rows stand.
use Rattle.std.specs.Prelude.{◌≡◌, ℕ, ◌+◌, ◌<◌, ◌≤◌, ◌==◌, if◌then◌else◌, true, false, List, [], Contains, length, Option, None, replicate, slice_index_or}
use Rattle.sector_model.specs.History.{Bytes, History, seen, sector_of}
use Rattle.sector_model.specs.Readable.{readable}
use Rattle.layout_map.specs.declared.sizes.TheConstants.{FIRST_ROW}
use Rattle.superblock.specs.declared.table.Table.{Table}
use Rattle.superblock.specs.Tables.{state_at}
use Rattle.superblock.specs.Cases.{Lost}
use Rattle.superblock.specs.Losses.{IsSingleFailure}
use Rattle.superblock.specs.NextTables.{slots_of}
use Rattle.stripe_journal.specs.declared.seal.Seal.{Seal}
use Rattle.stripe_journal.specs.Body.{place_by_seal, zero_by_seal}
use Rattle.stripe_journal.specs.Entries.{body_start}
use Rattle.stripe_journal.specs.Forms.{has_zeros, held_before, holds, rank, rows_in}
use Rattle.stripe_journal.specs.OneEntry.{HasThisEntry, IsNextOn}
use Rattle.stripe_journal.specs.Seals.{row_at}
use Rattle.degraded.specs.RowValue.{AreSound, Rows, logical_list, value}
use Rattle.array_io.specs.Believed.ArrayCalls.{written}
use Rattle.array_io.specs.Believed.Holds.{row_count}
use Rattle.array_io.specs.Believed.Moments.{HoldsNow}
use Rattle.array_io.specs.Believed.Settled.{trusts}
use Rattle.array_io.specs.Steps.Bringing.{CountsOn}
use Rattle.array_io.specs.Steps.EntryAtRest.{HasEntryAtRest}
use Rattle.array_io.specs.Steps.Forming.{IsFormed}
use Rattle.array_io.specs.Steps.Writing.{WritesFrom}

-- where it began: a table that the set had, what was lost then, and the lists for which all cases hold
pub record PutsFrom : Type 0 where
  pub devices : ℕ
  pub base : Table
  pub lost : Option Lost
  pub lists : List (List Bytes)

-- at each moment every case holds for the lists
abbrev pub HoldsAll : PutsFrom → History → Type 0
HoldsAll from h = HoldsNow from.base from.devices from.lost from.lists h

-- it is so if one slot is lost at most
abbrev pub IfSingleFailure : (PutsFrom → Table → History → Type 0) → PutsFrom → Table → History → Type 0
IfSingleFailure state from table h = IsSingleFailure (slots_of from.base) from.lost h → state from table h

-- the set may be written
abbrev pub MayWrite : PutsFrom → Table → History → Type 0
MayWrite from table h = WritesFrom from.devices from.base table from.lost from.lists h

-- how far an entry is on a journal: nothing of it counts yet, its body is safe, its seal is
pub data Progress : Type 0 where
  Awaited : Progress
  HasBody : Progress
  HasSeal : Progress

-- the same, with this progress on one journal
abbrev pub reached : (ℕ → Progress) → ℕ → Progress → ℕ → Progress
reached journals journal progress = λ k. if k == journal then progress else journals k

-- the body of the entry stands on a journal
pub record StandsBody (h : History) (journal : ℕ) (seal : Seal) (body : List Bytes) : Type 0 where
  pub stands : (k : ℕ) → k < length body → sector_of (seen h journal) (body_start seal + k) ≡ slice_index_or body k []

-- how far the entry is there
abbrev pub IsAt : Progress → Table → History → (journal : ℕ) → Seal → List Bytes → Type 0
IsAt Awaited table h journal seal body = IsNextOn table.id table.geometry (seen h journal) seal
IsAt HasBody table h journal seal body = IsNextOn table.id table.geometry (seen h journal) seal × StandsBody h journal seal body
IsAt HasSeal table h journal seal body = HasThisEntry table.id table.geometry (seen h journal) seal body

-- an entry of a seal has as many sectors as its rows hold, in a set with so many members
abbrev pub IsBodyLong : (members : ℕ) → Seal → (body : List Bytes) → Type 0
IsBodyLong members seal body = length body ≡ held_before members seal.form (length (rows_in seal.form))

-- the sector that an entry with this body has for a member in the i-th row, where it holds that: a zero one of a row of zeros, else that of the body
abbrev pub held_sector : (members : ℕ) → Seal → (body : List Bytes) → (i member : ℕ) → Bytes
held_sector members seal body i member = if has_zeros seal.form i then replicate 512 0 else slice_index_or body (rank members seal.form i member) []

-- the entry of a seal holds no sector of a member in a row
pub record LacksSector (members : ℕ) (seal : Seal) (row member : ℕ) : Type 0 where
  pub no_place : place_by_seal members seal row member ≡ None
  pub no_zero : zero_by_seal members seal row member ≡ false

-- The entry is formed: from sound rows in which no entry counts, and which the members have but where the entry holds a sector, with sectors that make of their
-- list this one of
-- the lists. Of each of its rows the new sectors of all members are given; those that it holds are in its body, and the others are as they were.
pub record IsFormedOn (list_then : List Bytes) (seal : Seal) (body : List Bytes) (from : PutsFrom) (table : Table) (h : History) : Type 0 where
  pub rows : Rows
  pub sectors : List (ℕ × Bytes)
  pub values : List (List Bytes)
  pub gives : written (logical_list table.geometry rows) sectors ≡ list_then
  pub among : Contains from.lists list_then
  pub formed : IsFormed table.geometry rows sectors (rows_in seal.form) values
  pub held : (i member : ℕ) → i < length (rows_in seal.form) → member < table.geometry.members → holds table.geometry.members seal.form i member ≡ true
      → held_sector table.geometry.members seal body i member ≡ slice_index_or (slice_index_or values i []) member []
  pub kept : (i member : ℕ) → i < length (rows_in seal.form) → member < table.geometry.members → holds table.geometry.members seal.form i member ≡ false
      → slice_index_or (slice_index_or values i []) member [] ≡ value rows (row_at (rows_in seal.form) i) member
  pub width : rows.members ≡ table.geometry.members
  pub bare : (row member : ℕ) → rows.entry row member ≡ None
  pub sound : AreSound rows (row_count table)
  pub trust : (row member : ℕ) → row < row_count table → member < table.geometry.members → trusts (state_at table.states member) row table.position ≡ true
      → rows.trusted row member ≡ true
  pub own : (row member : ℕ) → row < row_count table → member < table.geometry.members → trusts (state_at table.states member) row table.position ≡ true
      → LacksSector table.geometry.members seal row member → sector_of (seen h member) (FIRST_ROW + row) ≡ rows.own row member
  pub whole_sectors : (row member : ℕ) → row < row_count table → member < table.geometry.members → rows.trusted row member ≡ true
      → length (rows.own row member) ≡ 512

-- a journal on which the table counts has it
pub record HasSource (journals : ℕ → Progress) (table : Table) : Type 0 where
  pub source : ℕ
  pub beyond : table.geometry.members ≤ source
  pub counted : CountsOn table source
  pub sealed : journals source ≡ HasSeal

-- why the entry may stand on the journals: it is formed, and gives this list, or one of them has it
pub data Origin : Type 0 where
  Formed : List Bytes → Origin
  Copied : Origin

abbrev pub HasOrigin : Origin → Seal → List Bytes → (ℕ → Progress) → PutsFrom → Table → History → Type 0
HasOrigin (Formed list_then) seal body journals from table h = IsFormedOn list_then seal body from table h
HasOrigin Copied seal body journals from table h = HasSource journals table

-- The entry comes onto the journals, and is so far on each on which the table counts.
pub record IsComing (origin : Origin) (seal : Seal) (body : List Bytes) (journals : ℕ → Progress) (from : PutsFrom) (table : Table) (h : History) : Type 0 where
  pub writes : MayWrite from table h
  pub long : IsBodyLong table.geometry.members seal body
  pub on_journals : (journal : ℕ) → table.geometry.members ≤ journal → CountsOn table journal → IsAt (journals journal) table h journal seal body
  pub may_stand : HasOrigin origin seal body journals from table h

-- The entry is safe on each journal on which the table counts, and what it holds stands on the members before the n-th, where their own sectors count by the
-- table.
pub record IsPutBefore (n : ℕ) (seal : Seal) (body : List Bytes) (from : PutsFrom) (table : Table) (h : History) : Type 0 where
  pub writes : MayWrite from table h
  pub long : IsBodyLong table.geometry.members seal body
  pub on_journals : (journal : ℕ) → table.geometry.members ≤ journal → CountsOn table journal → HasThisEntry table.id table.geometry (seen h journal) seal body
  pub on_members : (member i : ℕ) → member < n → member < table.geometry.members → i < length (rows_in seal.form)
      → holds table.geometry.members seal.form i member ≡ true
      → trusts (state_at table.states member) (row_at (rows_in seal.form) i) table.position ≡ true
      → sector_of (seen h member) (FIRST_ROW + row_at (rows_in seal.form) i) ≡ held_sector table.geometry.members seal body i member

-- The last entry, whose number this is (0 for none), says what the members hold.
pub record IsPut (number : ℕ) (from : PutsFrom) (table : Table) (h : History) : Type 0 where
  pub writes : MayWrite from table h
  pub entry : HasEntryAtRest from.devices table number (readable h)
