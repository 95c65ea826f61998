-- Whether a slot can be given its device, before anything is done.
use Rattle.std.specs.Prelude.{◌≡◌, ◌⊎◌, ℕ, ◌<◌, ◌≤◌, true, false}
use Rattle.sector_model.specs.declared.refusal.Refusal.{Refusal}
use Rattle.sector_model.specs.declared.refusal.Refusal.TheVariants.{NotMissing, NotUsable, Worn}
use Rattle.sector_model.specs.declared.calls.TheConstants.{GREATEST_COUNT}
use Rattle.sector_model.specs.Bank.{Panel}
use Rattle.superblock.specs.declared.state.State.TheVariants.{Missing}
use Rattle.superblock.specs.declared.table.Table.{Table}
use Rattle.superblock.specs.Counted.{least_sectors}
use Rattle.superblock.specs.NextTables.{slots_of}
use Rattle.superblock.specs.Tables.{incarnation_at, state_at}
use Rattle.rebuild.specs.Rebuilding.{IsNotMissing}

-- it can: the slot is one of the set, and missing; its device is up and long enough; and no counter stands at 2^62
pub record CanReplace (panel : Panel) (table : Table) (slot : ℕ) : Type 0 where
  pub of_set : slot < slots_of table
  pub missing : state_at table.states slot ≡ Missing
  pub up : panel.down slot ≡ false
  pub fits : least_sectors table.geometry slot ≤ panel.sectors slot
  pub generation : table.generation < GREATEST_COUNT
  pub incarnation : incarnation_at table.incarnations slot < GREATEST_COUNT

-- its device is missing, and down or too short
pub record IsWithoutDevice (panel : Panel) (table : Table) (slot : ℕ) : Type 0 where
  pub of_set : slot < slots_of table
  pub missing : state_at table.states slot ≡ Missing
  pub unusable : (panel.down slot ≡ true) ⊎ (panel.sectors slot < least_sectors table.geometry slot)

-- its device is missing, and a counter stands at 2^62
pub record IsWornOut (table : Table) (slot : ℕ) : Type 0 where
  pub of_set : slot < slots_of table
  pub missing : state_at table.states slot ≡ Missing
  pub full : (GREATEST_COUNT ≤ table.generation) ⊎ (GREATEST_COUNT ≤ incarnation_at table.incarnations slot)

-- why it can't
abbrev pub IsWhyNot : Panel → Table → ℕ → Refusal → Type 0
IsWhyNot panel table slot refusal = ((refusal ≡ NotMissing) × IsNotMissing table slot)
    ⊎ ((refusal ≡ NotUsable) × IsWithoutDevice panel table slot)
    ⊎ ((refusal ≡ Worn) × IsWornOut table slot)
