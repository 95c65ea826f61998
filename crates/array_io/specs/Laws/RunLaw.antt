-- The laws of what a run begins with, and of tables that go on.
use Rattle.std.specs.Prelude.{ℕ, List, Option, None, Some, [], ◌∷◌}
use Rattle.sector_model.specs.History.{Began, Bytes, History, Slots}
use Rattle.sector_model.specs.Readable.{NothingPending, readable}
use Rattle.superblock.specs.declared.table.Table.{Table}
use Rattle.superblock.specs.Cases.{Lost}
use Rattle.superblock.specs.Counted.{Content, IsStale}
use Rattle.superblock.specs.NextTables.{IsComplete, IsNotOlder}
use Rattle.array_io.specs.Believed.Fresh.{IsFresh, zeros_of}
use Rattle.array_io.specs.Believed.Holds.{AllStale, Holds}
use Rattle.array_io.specs.Believed.Moments.{HoldsNow}
use Rattle.array_io.specs.Believed.Settled.{IsSettled}

-- A run begins with the image of a case that holds: nothing is pending, and each case that a crash now may leave holds, with the same slot lost.
pub record HasBegun (base : Table) (devices : ℕ) (image : Slots) (lost : Option Lost) (X : List (List Bytes)) : Type 0 where
  pub nothing_pending : NothingPending (Began image)
  pub holds : HoldsNow base devices lost X (Began image)

abbrev pub ARunBegins : Type 0
ARunBegins = (base : Table) (devices : ℕ) (image : Slots) (lost : Option Lost) (X : List (List Bytes))
    → Holds base devices record { image = image; lost = lost } X → HasBegun base devices image lost X

-- what is stale under a table is stale under each later one
abbrev pub StaleGoesOn : Type 0
StaleGoesOn = (devices : ℕ) (old new : Table) (slot : ℕ) (content : Content) → IsNotOlder old new → IsStale devices old slot content
    → IsStale devices new slot content

-- Where a set is complete again, whatever of the lost slot was away is stale: the array is settled with none lost, and what reads give holds also
-- with the slot lost that was lost before.
abbrev pub AwayIsStale : Type 0
AwayIsStale = (base : Table) (devices : ℕ) (table : Table) (number : ℕ) (h : History) (lost : Lost) (V : List Bytes) (X : List (List Bytes))
    → IsNotOlder base table → IsSettled devices table number h None V → IsComplete table
    → Holds base devices record { image = readable h; lost = Some lost } X → AllStale devices table lost.slot lost.away

-- the run that begins with a set that was just made is settled on zeros, with none lost
abbrev pub SettledBegins : Type 0
SettledBegins = (devices : ℕ) (table : Table) (image : Slots) → IsFresh devices table image
    → IsSettled devices table 0 (Began image) None (zeros_of table.geometry)

-- a set that was just made holds for the list of zeros
abbrev pub FreshSetHolds : Type 0
FreshSetHolds = (devices : ℕ) (table : Table) (image : Slots) → IsFresh devices table image
    → Holds table devices record { image = image; lost = None } (zeros_of table.geometry ∷ [])
