-- What making blocks of a volume zero does to a store.
use Rattle.std.specs.Prelude.{◌≡◌, ◌⊎◌, ℕ, ◌+◌, ◌≤◌, ◌==◌, ◌||◌, nat_lt, List, [], ◌∷◌, ◌++◌, length, Contains, Option, None, Some, Ok, Err}
use Rattle.sector_model.specs.declared.refusal.Refusal.{Refusal}
use Rattle.sector_model.specs.declared.refusal.Refusal.TheVariants.{BadCount, NoVolume, OutOfRange}
use Rattle.sector_model.specs.Bank.{IsTrueTo}
use Rattle.array_io.specs.Believed.ArrayCalls.{Answer}
use Rattle.volume_table.specs.declared.event.TheConstants.{MOST_BLOCKS_AT_ONCE, MOST_ZEROED_AT_ONCE}
use Rattle.volume_table.specs.Admission.{ShowsBy}
use Rattle.volume_table.specs.Volumes.{Block, VolumeList, VolumeMap}
use Rattle.volume_table.specs.VolumeStep.{Check, Command, Write, blocks_in, first_refusal, has_no_volume, zero_blocks}
use Rattle.volume_table.specs.Stands.{StoreView}
use Rattle.volume_table.specs.StoreCalls.{extents_for_store}
use Rattle.volume_table.specs.Staging.{CommitsStaged}

-- writes of zero blocks to the volume of a name, one after another: from block `at` on, up to `end` - 1
pub data AreZeroWrites (name : List ℕ) : (at end : ℕ) → List Command → Type 0 where
  no_write : {at : ℕ} → AreZeroWrites name at at []
  then_write : {at end : ℕ} {writes : List Command} (count : ℕ) → 1 ≤ count → count ≤ MOST_BLOCKS_AT_ONCE → AreZeroWrites name (at + count) end writes
      → AreZeroWrites name at end (Write name at (zero_blocks count) ∷ writes)

-- Writes were committed in their order, some by each commit, and none of these ended the store.
pub data AreCommittedInTurn (honest : Type 0) : List Command → (old new : StoreView) → Type 0 where
  none_committed : {store : StoreView} → AreCommittedInTurn honest [] store store
  commit_then : {old new : StoreView} {more : List Command} (mid : StoreView) (writes : List Command) → CommitsStaged honest writes old mid (Ok tt)
      → (honest → IsTrueTo mid.array.panel mid.array.history) → AreCommittedInTurn honest more mid new → AreCommittedInTurn honest (writes ++ more) old new

-- the first of the writes were, and the commit of those after these ended the store
pub record EndsCommitting (honest : Type 0) (writes : List Command) (old new : StoreView) (refusal : Refusal) : Type 0 where
  pub done : List Command
  pub last : List Command
  pub undone : List Command
  pub parts : writes ≡ done ++ last ++ undone
  pub mid : StoreView
  pub before : AreCommittedInTurn honest done old mid
  pub ends : CommitsStaged honest last mid new (Err refusal)

-- writes are committed in their order, some by each commit
abbrev pub CommitsInTurn : (honest : Type 0) → List Command → (old new : StoreView) → Answer → Type 0
CommitsInTurn honest writes old new (Ok done) = AreCommittedInTurn honest writes old new
CommitsInTurn honest writes old new (Err refusal) = EndsCommitting honest writes old new refusal

-- what making `count` blocks from `at` on zero is refused with, in this order
abbrev pub checks_of_zero : List ℕ → ℕ → ℕ → VolumeList → List Check
checks_of_zero name at count volumes =
    (has_no_volume name volumes, NoVolume)
    ∷ (count == 0 || nat_lt MOST_ZEROED_AT_ONCE count, BadCount)
    ∷ (nat_lt (length (blocks_in name volumes)) (at + count), OutOfRange)
    ∷ []

-- with this it is refused, or with nothing, by the table that the store keeps
abbrev pub IsZeroRefusal : StoreView → List ℕ → (at count : ℕ) → Option Refusal → Type 0
IsZeroRefusal store name at count refusal = (logical : List Block) (volumes : VolumeMap) → ShowsBy (extents_for_store store) store.keeps logical volumes
    → refusal ≡ first_refusal (checks_of_zero name at count volumes.volumes)

-- it is refused, and nothing is done
pub record RefusesZero (store : StoreView) (name : List ℕ) (at count : ℕ) (new : StoreView) (answer : Answer) : Type 0 where
  pub refusal : Refusal
  pub is : answer ≡ Err refusal
  pub listed : Contains (NoVolume ∷ BadCount ∷ OutOfRange ∷ []) refusal
  pub decides : IsZeroRefusal store name at count (Some refusal)
  pub same : new ≡ store

-- writes of zero blocks are committed, the blocks rising
pub record ZeroesBlocks (honest : Type 0) (name : List ℕ) (at count : ℕ) (old new : StoreView) (answer : Answer) : Type 0 where
  pub writes : List Command
  pub zeros : AreZeroWrites name at (at + count) writes
  pub admitted : IsZeroRefusal old name at count None
  pub commits : CommitsInTurn honest writes old new answer

-- `zero(name, at, count)`. 15, 16 of a store that ended; 6, 7, 8; 15, 16.
pub record Zeroes (honest : Type 0) (name : List ℕ) (at count : ℕ) (old new : StoreView) (answer : Answer) : Type 0 where
  pub ended : (refusal : Refusal) → old.ended ≡ Some refusal → (answer ≡ Err refusal) × (new ≡ old)
  pub going : old.ended ≡ None → RefusesZero old name at count new answer ⊎ ZeroesBlocks honest name at count old new answer
