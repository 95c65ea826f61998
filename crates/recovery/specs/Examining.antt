-- What an inspection of a set finds, without a write.
use Rattle.std.specs.Prelude.{◌≡◌, ◌≢◌, ◌⊎◌, ℕ, ◌+◌, ◌<◌, ◌≤◌, true, false, List, slice_index_or, Option, Some, None, Result, Ok, Err}
use Rattle.sector_model.specs.declared.refusal.Refusal.{Refusal}
use Rattle.sector_model.specs.declared.refusal.Refusal.TheVariants.{Worn}
use Rattle.sector_model.specs.declared.calls.TheConstants.{GREATEST_COUNT}
use Rattle.sector_model.specs.Bank.{IsLater}
use Rattle.sector_model.specs.History.{seen}
use Rattle.sector_model.specs.Readable.{readable}
use Rattle.sector_model.specs.Reads.{HasRead}
use Rattle.superblock.specs.declared.state.State.TheVariants as state
use Rattle.superblock.specs.declared.table.Table.{Table}
use Rattle.superblock.specs.Tables.{incarnation_at, state_at}
use Rattle.superblock.specs.Cases.{HasNone}
use Rattle.superblock.specs.Counted.{HasIncarnation, IsChosen, least_sectors}
use Rattle.superblock.specs.NextTables.{IsComplete, slots_of}
use Rattle.stripe_journal.specs.declared.seal.Seal.{Seal}
use Rattle.stripe_journal.specs.LastEntry.{IsLastSealed, number_of}
use Rattle.recovery.specs.declared.examination.Presence.{Presence}
use Rattle.recovery.specs.declared.examination.Presence.TheVariants as presence
use Rattle.recovery.specs.declared.examination.Standing.{Standing}
use Rattle.recovery.specs.declared.examination.Standing.TheVariants as standing
use Rattle.recovery.specs.declared.examination.Outlook.{Outlook}
use Rattle.recovery.specs.declared.examination.Outlook.TheVariants as outlook
use Rattle.recovery.specs.declared.examination.ExaminedSlot.{ExaminedSlot}
use Rattle.recovery.specs.declared.examination.Examined.{Examined}
use Rattle.recovery.specs.declared.survey.Out.TheVariants as out
use Rattle.recovery.specs.Making.{BankView}
use Rattle.recovery.specs.Surveying.{HasGeneration, IsGone, IsOutOf, IsOwn, IsOwnGeneration, IsThere}

-- whether the device of a slot of the set is there: up, and long enough
abbrev pub IsPresence : BankView → Table → ℕ → Presence → Type 0
IsPresence bank table slot presence.Absent = bank.panel.down slot ≡ true
IsPresence bank table slot presence.TooShort = (bank.panel.down slot ≡ false) × (bank.panel.sectors slot < least_sectors table.geometry slot)
IsPresence bank table slot presence.There = (bank.panel.down slot ≡ false) × (least_sectors table.geometry slot ≤ bank.panel.sectors slot)

-- there is no device, or it is too short
abbrev pub IsAbsent : BankView → Table → ℕ → Type 0
IsAbsent bank table slot = IsPresence bank table slot presence.Absent ⊎ IsPresence bank table slot presence.TooShort

-- what a slot has is of an older generation than the table, and of another incarnation
pub record IsOlder (bank : BankView) (table : Table) (slot : ℕ) : Type 0 where
  pub generation : ℕ
  pub has : HasGeneration table.id bank.panel.devices slot (readable bank.history slot) generation
  pub below : generation < table.generation
  pub own : ℕ
  pub has_own : HasIncarnation table.id bank.panel.devices slot (readable bank.history slot) own
  pub other : own ≢ incarnation_at table.incarnations slot

-- what a slot has is of this incarnation, and of the table's generation
pub record IsOfIncarnation (bank : BankView) (table : Table) (slot incarnation : ℕ) : Type 0 where
  pub has : HasIncarnation table.id bank.panel.devices slot (readable bank.history slot) incarnation
  pub generation : HasGeneration table.id bank.panel.devices slot (readable bank.history slot) table.generation

-- What the device of a slot of the set is to its table: on an honest bank it is live by the first two alone.
abbrev pub IsStanding : (honest : Type 0) → BankView → Table → ℕ → Standing → Type 0
IsStanding honest bank table slot standing.Live = (state_at table.states slot ≡ state.InSync) × IsThere honest bank table slot
IsStanding honest bank table slot (standing.Rebuilding position) = (state_at table.states slot ≡ state.Rebuilding) × (position ≡ table.position)
    × IsThere honest bank table slot
IsStanding honest bank table slot standing.CalledMissing = state_at table.states slot ≡ state.Missing
IsStanding honest bank table slot standing.NotThere = IsGone honest bank table slot × IsAbsent bank table slot
IsStanding honest bank table slot standing.NoSuperblock = IsGone honest bank table slot × IsPresence bank table slot presence.There
    × (honest → HasNone table.id bank.panel.devices slot (readable bank.history slot))
IsStanding honest bank table slot standing.OlderGeneration = IsGone honest bank table slot × IsPresence bank table slot presence.There
    × (honest → IsOlder bank table slot)
IsStanding honest bank table slot standing.LowerIncarnation = IsGone honest bank table slot × IsPresence bank table slot presence.There
    × (honest → (own : ℕ) × IsOfIncarnation bank table slot own × (own < incarnation_at table.incarnations slot))
IsStanding honest bank table slot standing.HigherIncarnation = IsGone honest bank table slot × IsPresence bank table slot presence.There
    × (honest → (own : ℕ) × IsOfIncarnation bank table slot own × (incarnation_at table.incarnations slot < own))

-- what stands in a slot of the set, by what its device is and by what reads of it give
pub record IsExaminedSlot (honest : Type 0) (bank : BankView) (table : Table) (slot : ℕ) (examined : ExaminedSlot) : Type 0 where
  pub presence : IsPresence bank table slot examined.presence
  pub generation : honest → IsOwnGeneration table.id bank.panel.devices slot (readable bank.history slot) examined.generation
  pub incarnation : honest → IsOwn table.id bank.panel.devices slot (readable bank.history slot) examined.incarnation
  pub standing : IsStanding honest bank table slot examined.standing

-- a slot of which nothing is said
abbrev pub unexamined : ExaminedSlot
unexamined = record { presence = presence.Absent; generation = 0; incarnation = 0; standing = standing.Live }

-- the same of each slot of the set
abbrev pub AreExaminedSlots : (honest : Type 0) → BankView → Table → List ExaminedSlot → Type 0
AreExaminedSlots honest bank table slots = (slot : ℕ) → slot < slots_of table → IsExaminedSlot honest bank table slot (slice_index_or slots slot unexamined)

-- why a slot that is not live is not, by its own generation and incarnation and those of the table
abbrev pub IsReason : (own_generation generation own incarnation : ℕ) → Standing → Type 0
IsReason own_generation generation own incarnation standing.NoSuperblock = own_generation ≡ 0
IsReason own_generation generation own incarnation standing.OlderGeneration = (own_generation ≢ 0) × (own_generation < generation)
IsReason own_generation generation own incarnation standing.LowerIncarnation = (own_generation ≢ 0) × (generation ≤ own_generation) × (own < incarnation)
IsReason own_generation generation own incarnation standing.HigherIncarnation = (own_generation ≢ 0) × (generation ≤ own_generation) × (incarnation ≤ own)
IsReason own_generation generation own incarnation other = ⊥

-- what a table says by itself of assembling its set: which slot of it is not in sync, if one is
abbrev pub IsOutlookBy : Table → Outlook → Type 0
IsOutlookBy table outlook.Complete = IsComplete table
IsOutlookBy table (outlook.Missing slot) = (slot < slots_of table) × (state_at table.states slot ≡ state.Missing)
IsOutlookBy table (outlook.Rebuilding slot position) = (slot < slots_of table) × (state_at table.states slot ≡ state.Rebuilding) × (position ≡ table.position)
IsOutlookBy table other = ⊥

-- what assembling the set would do now, by what assembling goes by: which slots are out
abbrev pub IsOutlook : (honest : Type 0) → BankView → Table → Outlook → Type 0
IsOutlook honest bank table outlook.TwoLost = (first : ℕ) × (second : ℕ) × IsOutOf honest bank table (out.Two first second)
IsOutlook honest bank table (outlook.WouldMark slot) = IsOutOf honest bank table (out.One slot)
IsOutlook honest bank table other = IsOutlookBy table other × IsOutOf honest bank table out.Nobody

-- This is the number of the last entry of what a journal has, 0 where it has none; where its seals were not read, it is absent, or too short.
abbrev pub IsLastNumber : (honest : Type 0) → BankView → Table → (journal : ℕ) → Option ℕ → Type 0
IsLastNumber honest bank table journal None = IsAbsent bank table journal
IsLastNumber honest bank table journal (Some number) = honest → (last : Option Seal)
    × IsLastSealed table.id table.geometry (Some (seen bank.history journal)) last × (number ≡ number_of last)

-- the same of both journals of the set
abbrev pub AreLastNumbers : (honest : Type 0) → BankView → Table → List (Option ℕ) → Type 0
AreLastNumbers honest bank table last = (journal : ℕ) → journal < 2
    → IsLastNumber honest bank table (table.geometry.members + journal) (slice_index_or last journal None)

-- A search by reads alone, and what is said of what it found.
pub record ReadsLast {A : Type 0} (honest : Type 0) (old new : BankView) (answer : Result A Refusal) (IsSought : A → Type 0) : Type 0 where
  pub later : IsLater old.panel new.panel
  pub reads : honest → HasRead old.history new.history
  pub found : (value : A) → answer ≡ Ok value → IsSought value
  pub cause : (refusal : Refusal) → answer ≡ Err refusal → (refusal ≡ Worn) × (GREATEST_COUNT ≤ new.panel.calls)

-- An inspection of a set: what it found was so when all superblocks were read (`read`), and its last entries are so at the return. No device failed in between,
-- unless one of a journal did.
pub record HasExamined (honest : Type 0) (id : List ℕ) (old new : BankView) (examined : Examined) : Type 0 where
  pub read : BankView
  pub from : IsLater old.panel read.panel
  pub until : IsLater read.panel new.panel
  pub reads_from : honest → HasRead old.history read.history
  pub reads_until : honest → HasRead read.history new.history
  pub of_id : examined.table.id ≡ id
  pub has_slots : slots_of examined.table ≤ read.panel.devices
  pub chosen : honest → IsChosen id read.panel.devices (readable read.history) examined.table
  pub slots : AreExaminedSlots honest read examined.table examined.slots
  pub outlook : IsOutlook honest read examined.table examined.outlook
  pub last : AreLastNumbers honest new examined.table examined.last

-- Inspecting the set of an id on a bank, by reads alone.
pub record Examines (honest : Type 0) (id : List ℕ) (old new : BankView) (answer : Result (Option Examined) Refusal) : Type 0 where
  pub later : IsLater old.panel new.panel
  pub reads : honest → HasRead old.history new.history
  pub found : (examined : Examined) → answer ≡ Ok (Some examined) → HasExamined honest id old new examined
  pub none : honest → answer ≡ Ok None → (slot : ℕ) → HasNone id new.panel.devices slot (readable new.history slot)
  pub cause : (refusal : Refusal) → answer ≡ Err refusal → (refusal ≡ Worn) × (GREATEST_COUNT ≤ new.panel.calls)
