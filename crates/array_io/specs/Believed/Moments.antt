-- What holds at each moment of a run.
use Rattle.std.specs.Prelude.{ℕ, List, Option}
use Rattle.sector_model.specs.History.{Bytes, History, MayLeave, Slots}
use Rattle.sector_model.specs.Moments.{Throughout}
use Rattle.superblock.specs.declared.table.Table.{Table}
use Rattle.superblock.specs.Cases.{Lost}
use Rattle.superblock.specs.Losses.{IsLostAt}
use Rattle.superblock.specs.NextTables.{slots_of}
use Rattle.array_io.specs.Believed.Holds.{Holds}

-- Every case that a crash now may leave holds for X. `before` is what was lost before the call, and `base` a table that the set had.
abbrev pub HoldsNow : (base : Table) (devices : ℕ) (before : Option Lost) → List (List Bytes) → History → Type 0
HoldsNow base devices before X h = (after : Option Lost) (image : Slots) → IsLostAt (slots_of base) before h after
    → MayLeave h image → Holds base devices record { image = image; lost = after } X

-- the run went on, and so it is at each moment of it, both ends included
abbrev pub HoldsThroughout : (base : Table) (devices : ℕ) (before : Option Lost) → List (List Bytes) → (old new : History) → Type 0
HoldsThroughout base devices before X old new = Throughout (HoldsNow base devices before X) old new
