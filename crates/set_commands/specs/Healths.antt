-- How well a set is.
use Rattle.std.specs.Prelude.{◌≡◌, ◌⊎◌, ℕ, ◌+◌, ◌<◌, zero, suc, List, Option, None, Some, Ok}
use Rattle.superblock.specs.declared.state.State.TheVariants.{InSync}
use Rattle.superblock.specs.Tables.{state_at}
use Rattle.recovery.specs.declared.examination.Examined.{Examined}
use Rattle.recovery.specs.declared.examination.Outlook.{Outlook}
use Rattle.recovery.specs.declared.examination.Outlook.TheVariants as outlook
use Rattle.recovery.specs.Examining.{Examines}
use Rattle.recovery.specs.Making.{BankView}
use Rattle.recovery.specs.SetIds.{FindsIdAbove}
use Rattle.volume_table.specs.declared.status.Status.{Status}
use Rattle.set_commands.specs.Serving.{StatusOn}
use Rattle.set_commands.specs.declared.serving.health.Health.{Health}
use Rattle.set_commands.specs.declared.serving.health.Health.TheVariants.{Complete, Incomplete, Unassembled}

-- the worse of two
abbrev pub worse_of : Health → Health → Health
worse_of Unassembled other = Unassembled
worse_of Incomplete Unassembled = Unassembled
worse_of Incomplete Incomplete = Incomplete
worse_of Incomplete Complete = Incomplete
worse_of Complete other = other

-- how well a set is of which assembling would do this
abbrev pub health_by : Outlook → Health
health_by outlook.Complete = Complete
health_by (outlook.Missing slot) = Incomplete
health_by (outlook.Rebuilding slot rows) = Incomplete
health_by (outlook.WouldMark slot) = Incomplete
health_by outlook.TwoLost = Unassembled

-- each slot of a set is in sync, by its status
abbrev pub AreAllInSync : Status → Type 0
AreAllInSync status = (slot : ℕ) → slot < status.members + 2 → state_at status.states slot ≡ InSync

-- so well is a set of this status
abbrev pub IsHealthIn : Status → Health → Type 0
IsHealthIn status health = ((health ≡ Complete) × AreAllInSync status) ⊎ ((health ≡ Incomplete) × (¬ AreAllInSync status))

-- a set was assembled on a bank, and is so well
pub record HealthOn (honest : Type 0) (id : List ℕ) (bank : BankView) (health : Health) : Type 0 where
  pub status : Status
  pub told : StatusOn honest id bank status
  pub is : IsHealthIn status health

-- the worse of this and what was found of a set, if it was found
abbrev pub worse_with : Health → Option Examined → Health
worse_with was None = was
worse_with was (Some examined) = worse_of was (health_by examined.outlook)

-- the set of this id was inspected, and this is the worse of what was and of what was found
pub record HealthAt (honest : Type 0) (id : List ℕ) (old new : BankView) (was is : Health) : Type 0 where
  pub found : Option Examined
  pub examines : Examines honest id old new (Ok found)
  pub worse : is ≡ worse_with was found

-- the set of the least id above this one was inspected, and then others
pub record HealthFurther (honest : Type 0) (above : Option (List ℕ)) (old new : BankView) (was is : Health)
    (Rest : Option (List ℕ) → BankView → BankView → Health → Health → Type 0) : Type 0 where
  pub id : List ℕ
  pub found : BankView
  pub seen : BankView
  pub mid : Health
  pub finds : FindsIdAbove honest above old found (Ok (Some id))
  pub inspections : HealthAt honest id found seen was mid
  pub goes_on : Rest (Some id) seen new mid is

-- the sets with ids above this one were inspected in the order of their ids, so many at most
abbrev pub HealthAbove : (honest : Type 0) (most : ℕ) (above : Option (List ℕ)) → (old new : BankView) (was is : Health) → Type 0
HealthAbove honest zero above old new was is = (new ≡ old) × (is ≡ was)
HealthAbove honest (suc most) above old new was is =
    (FindsIdAbove honest above old new (Ok None) × (is ≡ was))
    ⊎ HealthFurther honest above old new was is (HealthAbove honest most)

-- the set of an id was inspected on a bank, or each set where there is no id, and this is the worst of what was and of what was found
abbrev pub InspectsHealth : (honest : Type 0) → Option (List ℕ) → BankView → (was is : Health) → Type 0
InspectsHealth honest None bank was is = (after : BankView) × HealthAbove honest 20 None bank after was is
InspectsHealth honest (Some id) bank was is = (after : BankView) × HealthAt honest id bank after was is
