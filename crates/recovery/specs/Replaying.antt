-- What finding the last entry of a set, and bringing it onto the journals and members that lack it, promises.
use Rattle.std.specs.Prelude.{◌≡◌, ◌≢◌, ℕ, ◌+◌, ◌%◌, ◌<◌, ◌≤◌, ◌==◌, if◌then◌else◌, Bool, true, false, List, IfOk, IfSome, IsSome, Option, Some, None, Result}
use Rattle.std.specs.Prelude.{Ok, Err}
use Rattle.sector_model.specs.declared.refusal.Refusal.{Refusal}
use Rattle.sector_model.specs.History.{Bytes, History, seen}
use Rattle.sector_model.specs.Moments.{Throughout}
use Rattle.sector_model.specs.Readable.{readable}
use Rattle.layout_map.specs.declared.sizes.TheConstants.{HALVES}
use Rattle.superblock.specs.declared.table.Table.{Table}
use Rattle.superblock.specs.Cases.{HasNone}
use Rattle.superblock.specs.Losses.{IsSingleFailure}
use Rattle.superblock.specs.NextTables.{IsComplete, slots_of}
use Rattle.stripe_journal.specs.declared.entry.Entry.{Entry}
use Rattle.stripe_journal.specs.declared.seal.Seal.{Seal}
use Rattle.stripe_journal.specs.LastEntry.{IsLastSealed}
use Rattle.stripe_journal.specs.LastSealed.{Belongs}
use Rattle.array_io.specs.Believed.ArrayCalls.{Answer}
use Rattle.array_io.specs.Believed.Views.{ArrayView, GoesOn, HasEnded, StaysButForFailures}
use Rattle.array_io.specs.Steps.Bringing.{CarriesAll, CountsOn}
use Rattle.array_io.specs.Steps.CallSteps.{IsStepEnd, StaysDown}
use Rattle.array_io.specs.Steps.Putting.{Awaited, Copied, HasSeal, HoldsAll, IsComing, IsPut, MayWrite, Progress, PutsFrom, reached}
use Rattle.array_io.specs.Steps.PuttingSteps.{Brings, HasItsRows}
use Rattle.recovery.specs.declared.latest.Latest.{Latest}

-- how a call ended, whatever it gives
abbrev pub answer_to : {A : Type 0} → Result A Refusal → Answer
answer_to (Ok value) = Ok tt
answer_to (Err refusal) = Err refusal

-- steps from one state to another that is told by what they give, each if one slot is lost at most
abbrev pub BringsTo : (honest : Type 0) {A : Type 0} (before : PutsFrom → Table → History → Type 0) (after : A → PutsFrom → Table → History → Type 0)
    → ArrayView → ArrayView → Result A Refusal → Type 0
BringsTo honest before after old new result = Brings honest before (λ from table h. IfOk result (λ value. after value from table h)) old new (answer_to result)

-- a journal of the set on which the table counts
pub record IsJournalOn (table : Table) (journal : ℕ) : Type 0 where
  pub beyond : table.geometry.members ≤ journal
  pub counted : CountsOn table journal

-- the seal is one of the set
abbrev pub IsSealOf : Table → Seal → Type 0
IsSealOf table seal = Belongs table.id table.geometry (seal.number % HALVES) seal

-- On any bank: what was found to be the last seal of a journal is a seal of the set, and then the table counts on the journal.
abbrev pub IsFoundOn : Table → (journal : ℕ) → Option Seal → Type 0
IsFoundOn table journal last = IfSome last (λ seal. IsSealOf table seal × CountsOn table journal)

-- the last seal of a journal
abbrev pub HasLast : Table → History → (journal : ℕ) → Option Seal → Type 0
HasLast table h journal last = IsLastSealed table.id table.geometry (Some (seen h journal)) last

-- which last seals of journals are known
abbrev pub Known : Type 0
Known = ℕ → Option (Option Seal)

-- the same, and that of this journal
abbrev pub also_known : Known → (journal : ℕ) → Option Seal → Known
also_known known journal last = λ k. if k == journal then Some last else known k

-- The set may be written, and the last seals that are known are those of the journals on which the table counts.
pub record KnowsSeals (known : Known) (from : PutsFrom) (table : Table) (h : History) : Type 0 where
  pub writes : MayWrite from table h
  pub last : (journal : ℕ) (last : Option Seal) → known journal ≡ Some last → IsJournalOn table journal → HasLast table h journal last

-- The set may be written, and each journal on which the table counts has this last seal.
pub record AllHaveLast (last : Option Seal) (from : PutsFrom) (table : Table) (h : History) : Type 0 where
  pub writes : MayWrite from table h
  pub on_journals : (journal : ℕ) → IsJournalOn table journal → HasLast table h journal last

-- of two entries the later one, the lower journal's where their numbers are equal
pub record IsLaterOf (first : ℕ) (lower upper : Seal) (latest : Latest) : Type 0 where
  pub above : lower.number < upper.number → (latest.seal ≡ upper) × (latest.source ≡ first + 1) × (latest.beside ≡ Some lower)
  pub not_above : upper.number ≤ lower.number → (latest.seal ≡ lower) × (latest.source ≡ first) × (latest.beside ≡ Some upper)

-- the only entry that there is
pub record IsOnlyOne (source : ℕ) (seal : Seal) (latest : Latest) : Type 0 where
  pub same_seal : latest.seal ≡ seal
  pub same_source : latest.source ≡ source
  pub alone : latest.beside ≡ None

-- it was found, and is so
abbrev pub IsSomeSuch : Option Latest → (Latest → Type 0) → Type 0
IsSomeSuch result such = IfSome result such × IsSome result

-- the last entry, by the last seals of both journals
abbrev pub IsLatestBy : (first : ℕ) (lower upper : Option Seal) → Option Latest → Type 0
IsLatestBy first None None result = result ≡ None
IsLatestBy first (Some seal) None result = IsSomeSuch result (IsOnlyOne first seal)
IsLatestBy first None (Some seal) result = IsSomeSuch result (IsOnlyOne (first + 1) seal)
IsLatestBy first (Some lower) (Some upper) result = IsSomeSuch result (IsLaterOf first lower upper)

-- another journal of the set than this one
pub record IsOtherJournal (table : Table) (journal other : ℕ) : Type 0 where
  pub beyond : table.geometry.members ≤ other
  pub of_set : other < slots_of table
  pub apart : other ≢ journal

-- the seal of the other journal is one of the set, not a later one, and the table counts on that journal
pub record IsSealBeside (table : Table) (latest : Latest) (seal : Seal) : Type 0 where
  pub belongs : IsSealOf table seal
  pub not_later : seal.number ≤ latest.seal.number
  pub counted : (journal : ℕ) → IsOtherJournal table latest.source journal → CountsOn table journal

-- On any bank: the entry's seal is one of the set, found on a journal on which the table counts, and so is the seal beside it.
pub record IsLatestOf (table : Table) (latest : Latest) : Type 0 where
  pub belongs : IsSealOf table latest.seal
  pub source : IsJournalOn table latest.source
  pub beside : (seal : Seal) → latest.beside ≡ Some seal → IsSealBeside table latest seal

-- where the journal that has the last entry is gone: that of the other journal, if that has one
abbrev pub IsLatestBeside : Table → Latest → Option Latest → Type 0
IsLatestBeside table latest None = latest.beside ≡ None
IsLatestBeside table latest (Some other) = (latest.beside ≡ Some other.seal) × IsOtherJournal table latest.source other.source × (other.beside ≡ None)

-- the seal that was found has this number
abbrev pub has_number : ℕ → Option Seal → Bool
has_number number None = false
has_number number (Some seal) = seal.number == number

-- both journals have the entry
abbrev pub is_on_both : Latest → Bool
is_on_both latest = has_number latest.seal.number latest.beside

-- how far the last entry is on a journal: on the one that has it, and on the other one
abbrev pub progress_beside : Bool → Progress
progress_beside true = HasSeal
progress_beside false = Awaited

abbrev pub progress_of : Latest → ℕ → Progress
progress_of latest = reached (λ k. progress_beside (is_on_both latest)) latest.source HasSeal

-- the stale journal, if there is one on which the table counts
abbrev pub IsStaleJournal : Table → Latest → Option ℕ → Type 0
IsStaleJournal table latest None = (journal : ℕ) → IsJournalOn table journal → journal ≢ latest.source → is_on_both latest ≡ true
IsStaleJournal table latest (Some journal) = IsOtherJournal table latest.source journal × (is_on_both latest ≡ false)

-- The last entry is the one of the journal that has it, and on the other one the last is what stands beside.
pub record IsLatestOn (latest : Latest) (from : PutsFrom) (table : Table) (h : History) : Type 0 where
  pub writes : MayWrite from table h
  pub source : HasLast table h latest.source (Some latest.seal)
  pub beside : (journal : ℕ) → IsJournalOn table journal → journal ≢ latest.source → HasLast table h journal latest.beside

-- it is in memory and comes onto the journal that lacks it; or its journal is gone, and the last seal is what stands beside
abbrev pub IsLoaded : Latest → (body : List Bytes) → Bool → PutsFrom → Table → History → Type 0
IsLoaded latest body true from table h = IsComing Copied latest.seal body (progress_of latest) from table h
IsLoaded latest body false from table h = AllHaveLast latest.beside from table h

-- the last entry was found, and is in memory; or there is none, and so it says what the members hold
abbrev pub IsFound : (body : List Bytes) → Option Latest → PutsFrom → Table → History → Type 0
IsFound body None from table h = IsPut 0 from table h
IsFound body (Some latest) from table h = IsComing Copied latest.seal body (progress_of latest) from table h

-- On any bank: what was found is a last entry, of which the entry in memory has the rows, and holds what its seal says.
abbrev pub IsFoundIn : Table → Entry → Option Latest → Type 0
IsFoundIn table entry found = IfSome found (λ latest. IsLatestOf table latest × HasItsRows table latest.seal entry)

-- from where a replay may begin: the set may be written, and where it is complete each slot carries the table
pub record MayReplay (from : PutsFrom) (table : Table) (h : History) : Type 0 where
  pub writes : MayWrite from table h
  pub carried : IsComplete table → CarriesAll table (readable h)

-- Bringing the last entry onto the journals and members that lack it. 15, 16.
pub record SettlesEntry (honest : Type 0) (old new : ArrayView) (result : Result ℕ Refusal) : Type 0 where
  pub goes_on : GoesOn old new
  pub stays : StaysButForFailures honest old new (HasEnded result)
  pub moments : honest → (from : PutsFrom) → MayReplay from old.table old.history → Throughout (HoldsAll from) old.history new.history
  -- the run went on from the one to the other, and what was down stays so
  pub runs : honest → Throughout (StaysDown old.history) old.history new.history
  pub reached : honest → (number : ℕ) → result ≡ Ok number → (from : PutsFrom) → MayReplay from old.table old.history
      → IsSingleFailure (slots_of from.base) from.lost new.history
      → MayReplay from new.table new.history × IsPut number from new.table new.history
  pub cause : (refusal : Refusal) → result ≡ Err refusal → IsStepEnd old new refusal
  -- where no superblock of the set counts at Ok, none did before
  pub none_counted : honest → (number : ℕ) → result ≡ Ok number → ((slot : ℕ) → HasNone old.table.id old.panel.devices slot (readable new.history slot))
      → (slot : ℕ) → HasNone old.table.id old.panel.devices slot (readable old.history slot)
