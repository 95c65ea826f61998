-- Parts of a longer write, which was admitted as a whole, wait in a batch.
use Rattle.std.specs.Prelude.{◌≡◌, ℕ, ◌+◌, ◌≤◌, true, false, Bool, List, [], ◌∷◌, ◌++◌, length, Contains, None, Some, Result, Ok, Err}
use Rattle.sector_model.specs.declared.refusal.Refusal.{Refusal}
use Rattle.sector_model.specs.declared.refusal.Refusal.TheVariants.{BadCount, NoVolume, OutOfRange}
use Rattle.batch.specs.Places.{Given}
use Rattle.volume_table.specs.Admission.{HasBlocksAt, IsWithinVolume}
use Rattle.volume_table.specs.Volumes.{Block}
use Rattle.volume_table.specs.VolumeStep.{Command, Write}
use Rattle.volume_table.specs.Stands.{StoreView}
use Rattle.volume_table.specs.Staging.{HoldsWrites}
use Rattle.volume_table.specs.StoreCalls.{extents_for_store}
use Rattle.volume_table.specs.Zeroing.{IsZeroRefusal}

-- `admit` refuses it, by the table that the store keeps
pub record RefusesBlocks (store : StoreView) (name : List ℕ) (at count : ℕ) (refusal : Refusal) : Type 0 where
  pub listed : Contains (NoVolume ∷ BadCount ∷ OutOfRange ∷ []) refusal
  pub decides : IsZeroRefusal store name at count (Some refusal)

-- `count` blocks from `at` on are of the volume of this number, which has this name, and nothing refuses them
pub record AdmitsBlocks (store : StoreView) (name : List ℕ) (at count number : ℕ) : Type 0 where
  pub going : store.ended ≡ None
  pub has : ∥ HasBlocksAt store.keeps.records name number at count ∥₁
  pub decides : IsZeroRefusal store name at count None

-- `admit(name, at, count)`. 15, 16 of a store that ended; 6, 7, 8.
pub record Admits (store : StoreView) (name : List ℕ) (at count : ℕ) (answer : Result ℕ Refusal) : Type 0 where
  pub ended : (refusal : Refusal) → store.ended ≡ Some refusal → answer ≡ Err refusal
  pub refused : store.ended ≡ None → (refusal : Refusal) → answer ≡ Err refusal → RefusesBlocks store name at count refusal
  pub admitted : (number : ℕ) → answer ≡ Ok number → AdmitsBlocks store name at count number

-- `stage_part(batch, number, at, blocks)`: the write waits after those that do, or nothing else waits than before.
pub record StagesPart (store : StoreView) (number at : ℕ) (blocks : List Block) (old new : Given) (answer : Bool) : Type 0 where
  pub full : answer ≡ false → new ≡ old
  pub taken : answer ≡ true → (name : List ℕ) → ∥ IsWithinVolume store.keeps.records name number at (length blocks) ∥₁ → (writes : List Command)
      → HoldsWrites (extents_for_store store) store.keeps writes old
      → HoldsWrites (extents_for_store store) store.keeps (writes ++ Write name at blocks ∷ []) new
  -- few always fit
  pub few : length old + length blocks ≤ 32 → answer ≡ true
