-- Which slot is lost at a moment of a run.
use Rattle.std.specs.Prelude.{◌≡◌, ◌≢◌, ◌⊎◌, ℕ, ◌<◌, true, false, [], Option, Some, None}
use Rattle.sector_model.specs.History.{History, MayLeave, Slots, is_down}
use Rattle.superblock.specs.declared.table.Table.{Table}
use Rattle.superblock.specs.Cases.{Case, Lost, MayBeOut, MayStand, with_slot}
use Rattle.superblock.specs.Counted.{Content, IsChosen}

-- the devices of a set's slots are up, but for this one
abbrev pub OthersAreUp : (slots : ℕ) → History → ℕ → Type 0
OthersAreUp slots h slot = (other : ℕ) → other < slots → other ≢ slot → is_down h other ≡ false

-- one device of the set's slots failed since, and no other
pub record HasOneFailed (slots : ℕ) (h : History) (after : Option Lost) : Type 0 where
  pub slot : ℕ
  pub of_set : slot < slots
  pub failed : is_down h slot ≡ true
  pub others : OthersAreUp slots h slot
  pub lost : after ≡ Some record { slot = slot; away = [] }

-- Which slot is lost at a moment, by what was lost before: the same one, where no other device of the set is down; where none was
-- lost, none or the one whose device is down. A moment with two devices lost has no such answer.
abbrev pub IsLostAt : (slots : ℕ) → (before : Option Lost) → History → (after : Option Lost) → Type 0
IsLostAt slots None h after = ((after ≡ None) × ((other : ℕ) → other < slots → is_down h other ≡ false)) ⊎ HasOneFailed slots h after
IsLostAt slots (Some lost) h after = (lost.slot < slots) × (after ≡ Some lost) × OthersAreUp slots h lost.slot

-- one slot is lost at most
abbrev pub IsSingleFailure : (slots : ℕ) → (before : Option Lost) → History → Type 0
IsSingleFailure slots before h = (after : Option Lost) × IsLostAt slots before h after

-- what each image that a crash now may leave is, and each weakened image of it
pub record InEachImage (devices : ℕ) (table : Table) (h : History) (lost : Option Lost) (P : Slots → Type 0) : Type 0 where
  pub whole : (image : Slots) → MayLeave h image → P image
  pub weakened : (image : Slots) (slot : ℕ) (content : Content) → MayLeave h image → MayBeOut lost slot
      → MayStand devices table lost slot content → P (with_slot image slot content)

-- a case's image and all its weakened images choose this table
pub record AllChoose (devices : ℕ) (table : Table) (case : Case) : Type 0 where
  pub whole : IsChosen table.id devices case.image table
  pub weakened : (slot : ℕ) (content : Content) → MayBeOut case.lost slot → MayStand devices table case.lost slot content
      → IsChosen table.id devices (with_slot case.image slot content) table
