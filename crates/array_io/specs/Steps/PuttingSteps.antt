-- What putting a part of an entry on one slot promises: calls of one device, and a step.
use Rattle.std.specs.Prelude.{◌≡◌, ℕ, ◌+◌, ◌<◌, ◌≤◌, List, [], ◌∷◌, ◌++◌, length, Result, Ok, Err, is_ok}
use Rattle.sector_model.specs.declared.refusal.Refusal.TheVariants.{Worn}
use Rattle.sector_model.specs.declared.sector.Stop.{Stop}
use Rattle.sector_model.specs.declared.sector.Stop.TheVariants as stop
use Rattle.sector_model.specs.Bank.{Panel}
use Rattle.sector_model.specs.Calls.{Call, Flush, Made, Write, writes_from}
use Rattle.sector_model.specs.History.{Bytes, History}
use Rattle.layout_map.specs.Formats.{body_sectors}
use Rattle.superblock.specs.declared.table.Table.{Table}
use Rattle.stripe_journal.specs.declared.entry.Entry.{Entry}
use Rattle.stripe_journal.specs.declared.seal.Seal.{Seal}
use Rattle.stripe_journal.specs.Body.{seal_place}
use Rattle.stripe_journal.specs.Entries.{IsEntryOf, body_of, half_start, holds_sector, numbers_of, sector_in_row}
use Rattle.stripe_journal.specs.Forms.{rows_in}
use Rattle.stripe_journal.specs.Seals.{row_at}
use Rattle.stripe_journal.specs.Spelling.{seal_sector}
use Rattle.array_io.specs.declared.array.put.Part.{Part}
use Rattle.array_io.specs.declared.array.put.Part.TheVariants as part
use Rattle.array_io.specs.Believed.ArrayCalls.{Answer}
use Rattle.array_io.specs.Believed.Holds.{row_count}
use Rattle.array_io.specs.Believed.Views.{ArrayView}
use Rattle.array_io.specs.Steps.CallSteps.{CallsOne, StepsOf}
use Rattle.array_io.specs.Steps.MarkingOn.{MarksOn}
use Rattle.array_io.specs.Steps.PuttingRows.{HeldRows, PutsMember}
use Rattle.array_io.specs.Steps.Putting.{Awaited, HasBody, HasSeal, HoldsAll, IfSingleFailure, IsComing, IsPut, IsPutBefore, Origin, Progress, PutsFrom}
use Rattle.array_io.specs.Steps.Putting.{reached}

-- these calls of one device were made, up to the first that is not answered
pub record PutsCalls (honest : Type 0) (device : ℕ) (calls : List Call) (old_panel new_panel : Panel) (old new : History)
    (result : Result (Unit {0}) Stop) : Type 0 where
  pub calls_one : CallsOne honest device old_panel new_panel old new result
  pub made : honest → Made calls (is_ok result) old new

-- nothing was done
pub record IsUntouched (old_panel new_panel : Panel) (old_table new_table : Table) (old new : History) : Type 0 where
  pub same_panel : new_panel ≡ old_panel
  pub same_table : new_table ≡ old_table
  pub same_history : new ≡ old

-- Calls of one device that ended so are taken over: as answered, or as the end of the count, or the slot whose device failed is marked missing, or that is
-- refused.
abbrev pub EndsOrFailsSlot : (honest : Type 0) (slot : ℕ) (old_panel new_panel : Panel) (old_table new_table : Table) (old new : History)
    → Result (Unit {0}) Stop → Answer → Type 0
EndsOrFailsSlot honest slot old_panel new_panel old_table new_table old new (Ok done) answer = (answer ≡ Ok tt)
    × IsUntouched old_panel new_panel old_table new_table old new
EndsOrFailsSlot honest slot old_panel new_panel old_table new_table old new (Err stop.Worn) answer = (answer ≡ Err Worn)
    × IsUntouched old_panel new_panel old_table new_table old new
EndsOrFailsSlot honest slot old_panel new_panel old_table new_table old new (Err (stop.Down device)) answer =
    MarksOn honest slot old_panel new_panel old_table new_table old new answer

-- the rows of an entry, and the sectors of them that it holds: of a row of zeros those of all members
abbrev pub rows_held : Entry → HeldRows
rows_held entry = record { rows = numbers_of entry; held = holds_sector entry; values = sector_in_row entry }

-- the entry has the rows of the seal, and of them what the seal says, and they are rows of the set
pub record HasItsRows (table : Table) (seal : Seal) (entry : Entry) : Type 0 where
  pub of_seal : IsEntryOf table.geometry.members seal.form entry
  pub below : (i : ℕ) → i < length (rows_in seal.form) → row_at (rows_in seal.form) i < row_count table

-- the body of an entry fits a half of the set's journals
abbrev pub FitsAHalf : Table → Entry → Type 0
FitsAHalf table entry = length (body_of table.geometry.members entry) ≤ body_sectors table.geometry.format

-- what the slot is: a journal, for a body one that it fits, or for the rows a member
abbrev pub FitsPart : Part → Table → Seal → Entry → (slot : ℕ) → Type 0
FitsPart part.Body table seal entry slot = (table.geometry.members ≤ slot) × FitsAHalf table entry
FitsPart part.Seal table seal entry slot = table.geometry.members ≤ slot
FitsPart part.Rows table seal entry slot = (slot < table.geometry.members) × HasItsRows table seal entry

-- The calls of one device by which a part is put there, the last of them a flush.
abbrev pub PutsPart : (honest : Type 0) → Part → Table → Seal → Entry → (slot : ℕ) (old_panel new_panel : Panel) (old new : History) → Result (Unit {0}) Stop
    → Type 0
PutsPart honest part.Body table seal entry slot old_panel new_panel old new result =
    PutsCalls honest slot (writes_from slot (half_start table.geometry.format seal.number) (body_of table.geometry.members entry) ++ Flush slot ∷ []) old_panel
    new_panel old new result
PutsPart honest part.Seal table seal entry slot old_panel new_panel old new result =
    PutsCalls honest slot (Write slot (seal_place seal.number) (seal_sector seal) ∷ Flush slot ∷ []) old_panel new_panel old new result
PutsPart honest part.Rows table seal entry slot old_panel new_panel old new result =
    PutsMember honest table (rows_held entry) slot old_panel new_panel old new result

-- steps from one state to another, each if one slot is lost at most
abbrev pub Brings : (honest : Type 0) (before after : PutsFrom → Table → History → Type 0) → ArrayView → ArrayView → Answer → Type 0
Brings honest before after old new answer = StepsOf honest HoldsAll (IfSingleFailure before) (IfSingleFailure after) old new answer

-- A part of the entry comes onto the slot, or what is said of it is free: the body of a journal that awaits it, the seal of one that has the body, the rows of
-- the next member.
abbrev pub StepsPart : (honest : Type 0) → Part → Seal → (body : List Bytes) (slot : ℕ) → ArrayView → ArrayView → Answer → Type 0
StepsPart honest part.Body seal body slot old new answer = (origin : Origin) (journals : ℕ → Progress) → journals slot ≡ Awaited
    → Brings honest (IsComing origin seal body journals) (IsComing origin seal body (reached journals slot HasBody)) old new answer
StepsPart honest part.Seal seal body slot old new answer = (origin : Origin) (journals : ℕ → Progress) → journals slot ≡ HasBody
    → Brings honest (IsComing origin seal body journals) (IsComing origin seal body (reached journals slot HasSeal)) old new answer
StepsPart honest part.Rows seal body slot old new answer = Brings honest (IsPutBefore slot seal body) (IsPutBefore (slot + 1) seal body) old new answer

-- the body, and then the seal, on this journal
abbrev pub sealed_on : (ℕ → Progress) → (journal : ℕ) → ℕ → Progress
sealed_on journals journal = reached (reached journals journal HasBody) journal HasSeal

-- the entry on both journals
abbrev pub both_bodies : (first : ℕ) → ℕ → Progress
both_bodies first = reached (reached (λ k. Awaited) first HasBody) (first + 1) HasBody

abbrev pub both_sealed : (first : ℕ) → ℕ → Progress
both_sealed first = reached (reached (both_bodies first) first HasSeal) (first + 1) HasSeal

-- The entry comes onto a journal that awaits it.
abbrev pub StepsJournal : (honest : Type 0) → Seal → (body : List Bytes) (journal : ℕ) → ArrayView → ArrayView → Answer → Type 0
StepsJournal honest seal body journal old new answer = (origin : Origin) (journals : ℕ → Progress) → journals journal ≡ Awaited
    → Brings honest (IsComing origin seal body journals) (IsComing origin seal body (sealed_on journals journal)) old new answer

-- The entry comes onto both journals, of which this is the first.
abbrev pub StepsJournals : (honest : Type 0) → Seal → (body : List Bytes) (first : ℕ) → ArrayView → ArrayView → Answer → Type 0
StepsJournals honest seal body first old new answer = (origin : Origin)
    → Brings honest (IsComing origin seal body (λ k. Awaited)) (IsComing origin seal body (both_sealed first)) old new answer

-- The rows of an entry that is safe on the journals come onto the members, and then it says what those hold.
abbrev pub StepsMembers : (honest : Type 0) → Seal → (body : List Bytes) → ArrayView → ArrayView → Answer → Type 0
StepsMembers honest seal body old new answer = Brings honest (IsPutBefore 0 seal body) (IsPut seal.number) old new answer
