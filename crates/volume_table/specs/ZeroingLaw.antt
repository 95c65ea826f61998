-- What making blocks of a volume zero means for the volumes, and in a run.
use Rattle.std.specs.Prelude.{◌≡◌, ◌≢◌, ℕ, ◌+◌, ◌≤◌, List, ◌++◌, map, None, Ok, Some}
use Rattle.sector_model.specs.Bank.{IsTrueTo}
use Rattle.superblock.specs.NextTables.{slots_of}
use Rattle.array_io.specs.Believed.ArrayCalls.{Answer}
use Rattle.extents.specs.declared.extent_layout.ExtentLayout.{ExtentLayout}
use Rattle.volume_table.specs.Law.{IsWritten}
use Rattle.volume_table.specs.Runs.{Crashes, Does, GoesOver, Serving, World}
use Rattle.volume_table.specs.Staging.{AreDone, CommitsStaged, after_all}
use Rattle.volume_table.specs.Stands.{IsSettledOn, StoreView}
use Rattle.volume_table.specs.Volumes.{Block, VolumeMap, blocks_of}
use Rattle.volume_table.specs.VolumeStep.{Command, Done, Event, OnVolumes, Reply, first_refusal, zero_blocks}
use Rattle.volume_table.specs.Zeroing.{AreZeroWrites, Zeroes, ZeroesBlocks, checks_of_zero}

-- the volumes after writes of zeros: these blocks of the volume are zero, its others are as they were, and so is each other volume
pub record LeavesZeros (extents : ExtentLayout) (name : List ℕ) (at count : ℕ) (writes : List Command) (volumes : VolumeMap) : Type 0 where
  pub done : AreDone extents writes volumes
  pub before : List Block
  pub left : List Block
  pub was : blocks_of name volumes.volumes ≡ Some before
  pub is_left : blocks_of name (after_all extents writes volumes).volumes ≡ Some left
  pub changes : IsWritten before left at (zero_blocks count)
  pub others : (other : List ℕ) → other ≢ name → blocks_of other (after_all extents writes volumes).volumes ≡ blocks_of other volumes.volumes

-- where making these blocks zero is not refused, its writes together do that
abbrev pub ZeroLeavesZeros : Type 0
ZeroLeavesZeros = (extents : ExtentLayout) (name : List ℕ) (at count : ℕ) (writes : List Command) (volumes : VolumeMap)
    → AreZeroWrites name at (at + count) writes → None ≡ first_refusal (checks_of_zero name at count volumes.volumes)
    → LeavesZeros extents name at count writes volumes

-- blocks were made zero, and the store goes on
pub record AreZeroed (slots : ℕ) (name : List ℕ) (at count : ℕ) (old new : Serving) : Type 0 where
  pub zeroes : Zeroes (Unit {0}) name at count old.store new.store (Ok tt)
  pub goes_over : GoesOver slots old.fate.lost old.fate new.store.array.table new.store.array.history new.fate

-- writes of zeros that are events done
pub record DoesZeros (slots : ℕ) (name : List ℕ) (at count : ℕ) (old new : Serving) : Type 0 where
  pub writes : List Command
  pub zeros : AreZeroWrites name at (at + count) writes
  pub does : Does slots (map OnVolumes writes) (map (λ write. Done) writes) old new

-- Making blocks zero, where it is answered, is events done one after another in a session: its writes.
abbrev pub ZeroIsDone : Type 0
ZeroIsDone = (name : List ℕ) (at count : ℕ) (old new : Serving) (volumes : VolumeMap) → IsSettledOn old.store old.fate.lost volumes
    → AreZeroed (slots_of old.store.array.table) name at count old new
    → ∥ DoesZeros (slots_of old.store.array.table) name at count old new ∥₁

-- A crash came in making blocks zero, after some events: some of the writes were done and acknowledged, and it came in a commit of those after these. So the
-- session is one of those that end in a commit.
pub record EndsInZeros (slots : ℕ) (name : List ℕ) (at count : ℕ) (events : List Event) (replies : List Reply) (first : Serving) (left : World) : Type 0 where
  pub done : List Command
  pub last : List Command
  pub undone : List Command
  pub zeros : AreZeroWrites name at (at + count) (done ++ last ++ undone)
  pub serving : Serving
  pub does : Does slots (events ++ map OnVolumes done) (replies ++ map (λ write. Done) done) first serving
  pub store : StoreView
  pub reply : Answer
  pub commits : CommitsStaged (Unit {0}) last serving.store store reply
  pub true_to : IsTrueTo store.array.panel store.array.history
  pub crashes : Crashes slots serving.fate.lost serving.fate serving.store.array.history store.array.history left

-- so it is wherever a crash comes in it
abbrev pub ZeroIsInterrupted : Type 0
ZeroIsInterrupted = (name : List ℕ) (at count : ℕ) (first old : Serving) (events : List Event) (replies : List Reply) (new : StoreView) (answer : Answer)
    (volumes : VolumeMap) (left : World) → Does (slots_of old.store.array.table) events replies first old
    → IsSettledOn old.store old.fate.lost volumes → IsTrueTo new.array.panel new.array.history → 1 ≤ count
    → ZeroesBlocks (Unit {0}) name at count old.store new answer
    → Crashes (slots_of old.store.array.table) old.fate.lost old.fate old.store.array.history new.array.history left
    → ∥ EndsInZeros (slots_of old.store.array.table) name at count events replies first left ∥₁
