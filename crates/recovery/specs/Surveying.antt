-- What the superblocks of a set's devices say, and which slots are out.
use Rattle.std.specs.Prelude.{◌≡◌, ◌≢◌, ◌⊎◌, ℕ, ◌<◌, ◌≤◌, false, List, length, slice_index_or, Option, Some, None, Result, Ok, Err}
use Rattle.sector_model.specs.declared.refusal.Refusal.{Refusal}
use Rattle.sector_model.specs.declared.refusal.Refusal.TheVariants.{Worn}
use Rattle.sector_model.specs.declared.calls.TheConstants.{GREATEST_COUNT}
use Rattle.sector_model.specs.Bank.{IsLater}
use Rattle.sector_model.specs.History.{Slots}
use Rattle.sector_model.specs.Readable.{readable}
use Rattle.sector_model.specs.Reads.{HasRead}
use Rattle.superblock.specs.declared.state.State.TheVariants.{InSync, Missing}
use Rattle.superblock.specs.declared.table.Superblock.{Superblock}
use Rattle.superblock.specs.declared.table.Table.{Table}
use Rattle.superblock.specs.Newest.{IsNewest, IsOfSet}
use Rattle.superblock.specs.Tables.{incarnation_at, state_at}
use Rattle.superblock.specs.Cases.{HasNone}
use Rattle.superblock.specs.Counted.{Content, HasIncarnation, IsChosen, IsInFull, IsLive, least_sectors}
use Rattle.superblock.specs.NextTables.{slots_of}
use Rattle.recovery.specs.declared.survey.Out.{Out}
use Rattle.recovery.specs.declared.survey.Out.TheVariants as out
use Rattle.recovery.specs.declared.survey.Survey.{Survey}
use Rattle.recovery.specs.Finding.{NewestFound, OthersStay}
use Rattle.recovery.specs.Making.{BankView}

-- this is the own incarnation of what a slot has; 0 where no superblock of the set counts there
abbrev pub IsOwn : List ℕ → (devices slot : ℕ) → Content → ℕ → Type 0
IsOwn id devices slot content own = HasIncarnation id devices slot content own ⊎ (HasNone id devices slot content × (own ≡ 0))

-- the own generation of what a slot has: that of its newest counted superblock
pub record HasGeneration (id : List ℕ) (devices slot : ℕ) (content : Content) (generation : ℕ) : Type 0 where
  pub newest : Superblock
  pub is_newest : IsNewest id devices slot content newest
  pub own : newest.table.generation ≡ generation

-- this is the own generation of what a slot has; 0 where no superblock of the set counts there
abbrev pub IsOwnGeneration : List ℕ → (devices slot : ℕ) → Content → ℕ → Type 0
IsOwnGeneration id devices slot content generation = HasGeneration id devices slot content generation ⊎ (HasNone id devices slot content × (generation ≡ 0))

-- a survey tells the table that an image chooses, and the own incarnation and generation of what each slot has
pub record Tells (id : List ℕ) (devices : ℕ) (image : Slots) (survey : Survey) : Type 0 where
  pub chosen : IsChosen id devices image survey.table
  pub ten : length survey.own ≡ 10
  pub own : (slot : ℕ) → slot < devices → IsOwn id devices slot (image slot) (slice_index_or survey.own slot 0)
  pub ten_generations : length survey.generations ≡ 10
  pub generation : (slot : ℕ) → slot < devices → IsOwnGeneration id devices slot (image slot) (slice_index_or survey.generations slot 0)

-- A search of one slot, by reads of its device alone: what is found is the newest superblock that counts in what reads of it give at the return. Where the
-- device is down then, none counts.
pub record FindsLeft (honest : Type 0) (id : List ℕ) (devices slot : ℕ) (old new : BankView) (answer : Result (Option Superblock) Refusal) : Type 0 where
  pub later : IsLater old.panel new.panel
  pub fits : (superblock : Superblock) → answer ≡ Ok (Some superblock) → IsOfSet id devices superblock
  pub reads : honest → HasRead old.history new.history
  pub others : honest → OthersStay slot old.history new.history
  pub left : honest → (found : Option Superblock) → answer ≡ Ok found → NewestFound id devices slot (readable new.history) found
  pub cause : (refusal : Refusal) → answer ≡ Err refusal → (refusal ≡ Worn) × (GREATEST_COUNT ≤ new.panel.calls)

-- the own incarnation of a slot by its newest superblock, 0 where it has none
abbrev pub own_by : Option Superblock → ℕ → ℕ
own_by None slot = 0
own_by (Some newest) slot = incarnation_at newest.table.incarnations slot

-- the own generation of a slot by its newest superblock, 0 where it has none
abbrev pub generation_by : Option Superblock → ℕ
generation_by None = 0
generation_by (Some newest) = newest.table.generation

-- A survey of the superblocks of a bank, by reads alone: what it says is so of what reads give at its return. What a device holds that goes down in
-- it doesn't count.
pub record Surveys (honest : Type 0) (id : List ℕ) (old new : BankView) (answer : Result (Option Survey) Refusal) : Type 0 where
  pub later : IsLater old.panel new.panel
  pub of_id : (survey : Survey) → answer ≡ Ok (Some survey) → survey.table.id ≡ id
  pub has_slots : (survey : Survey) → answer ≡ Ok (Some survey) → slots_of survey.table ≤ new.panel.devices
  pub reads : honest → HasRead old.history new.history
  pub told : honest → (survey : Survey) → answer ≡ Ok (Some survey) → Tells id new.panel.devices (readable new.history) survey
  pub none : honest → answer ≡ Ok None → (slot : ℕ) → HasNone id new.panel.devices slot (readable new.history slot)
  pub cause : (refusal : Refusal) → answer ≡ Err refusal → (refusal ≡ Worn) × (GREATEST_COUNT ≤ new.panel.calls)

-- what is known of a survey that was made: the bank has the table's slots, and of an honest one what the survey tells is so of what reads give now
pub record IsSurveyOf (honest : Type 0) (bank : BankView) (survey : Survey) : Type 0 where
  pub of_bank : slots_of survey.table ≤ bank.panel.devices
  pub told : honest → Tells survey.table.id bank.panel.devices (readable bank.history) survey

-- a slot that the table doesn't call missing is there: on any bank its device is up and long enough; on an honest one it is live
pub record IsThere (honest : Type 0) (bank : BankView) (table : Table) (slot : ℕ) : Type 0 where
  pub up : bank.panel.down slot ≡ false
  pub long_enough : least_sectors table.geometry slot ≤ bank.panel.sectors slot
  pub live : honest → IsLive bank.panel.devices table slot (readable bank.history slot)

-- what a slot has is not live
abbrev pub IsDead : (honest : Type 0) → BankView → Table → ℕ → Type 0
IsDead honest bank table slot = honest → ¬ IsLive bank.panel.devices table slot (readable bank.history slot)

-- a slot is not there, though the table does not call it missing
pub record IsGone (honest : Type 0) (bank : BankView) (table : Table) (slot : ℕ) : Type 0 where
  pub of_set : slot < slots_of table
  pub counted : state_at table.states slot ≢ Missing
  pub dead : honest → ¬ IsLive bank.panel.devices table slot (readable bank.history slot)

-- a slot of the set is not live and in sync
pub record IsNotFull (honest : Type 0) (bank : BankView) (table : Table) (slot : ℕ) : Type 0 where
  pub of_set : slot < slots_of table
  pub out : honest → ¬ IsInFull bank.panel.devices table slot (readable bank.history slot)

-- which slots that the table counts on are not there: none, one (and then every other slot is in sync), or two slots are not live and in sync
abbrev pub IsOutOf : (honest : Type 0) → BankView → Table → Out → Type 0
IsOutOf honest bank table out.Nobody = (slot : ℕ) → slot < slots_of table → state_at table.states slot ≢ Missing → IsThere honest bank table slot
IsOutOf honest bank table (out.One slot) = IsGone honest bank table slot
    × ((other : ℕ) → other < slots_of table → other ≢ slot → (state_at table.states other ≡ InSync) × IsThere honest bank table other)
IsOutOf honest bank table (out.Two first second) = (first ≢ second) × IsNotFull honest bank table first × IsNotFull honest bank table second
