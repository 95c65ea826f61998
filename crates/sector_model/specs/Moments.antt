-- What holds at each moment of a run.
use Rattle.std.specs.Prelude.{◌≡◌, ℕ, List, Some}
use Rattle.sector_model.specs.declared.event.Event.{Event}
use Rattle.sector_model.specs.History.{History, After, Bytes, Slots, MayHold, MayLeave, sector_of}

-- the run went on from old to new, and P holds at each moment, both ends included
pub data Throughout (P : History → Type 0) (old : History) : History → Type 0 where
  here : P old → Throughout P old old
  then_also : (event : Event) (h : History) → Throughout P old h → P (After event h) → Throughout P old (After event h)

-- each image that a crash now may leave has Q
pub record Leaves (Q : Slots → Type 0) (h : History) : Type 0 where
  pub each : (image : Slots) → MayLeave h image → Q image

-- what may stand in each sector of each device
abbrev pub Contents : Type 1
Contents = (device at : ℕ) → Bytes → Type 0

-- a crash now may leave in each sector only what may stand there
pub record LeavesWithin (Q : Contents) (h : History) : Type 0 where
  pub each : (device at : ℕ) (value : Bytes) → MayHold h device at value → Q device at value

-- in each sector of each device of an image stands what may stand there
pub record IsWithin (Q : Contents) (image : Slots) : Type 0 where
  pub each : (device : ℕ) (disk : List Bytes) (at : ℕ) → image device ≡ Some disk → Q device at (sector_of disk at)
