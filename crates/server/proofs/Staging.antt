-- A part of a write waits, after a commit where it must be.
use Rattle.std.proofs.Common.{◌≡◌, ℕ, ◌+◌, ◌≤◌, List, [], ◌∷◌, ◌++◌, length, refl, sym, ◌∙◌, ap, subst, arith, Bool, true, false, Option, Some, None, Result, Ok, Err}
use Rattle.sector_model.specs.declared.refusal.Refusal.{Refusal}
use Rattle.batch.specs.Places.{Given}
use Rattle.extents.specs.declared.volume_table.VolumeTable.{VolumeTable}
use Rattle.scrub.specs.Scrubbing.{Report}
use Rattle.set_commands.specs.Run.{Streams, streams}
use Rattle.volume_table.specs.Admission.{IsWithinVolume}
use Rattle.volume_table.specs.StagedParts.{StagesPart}
use Rattle.volume_table.specs.Staging.{HoldsWrites}
use Rattle.volume_table.specs.Stands.{StoreView}
use Rattle.volume_table.specs.StoreCalls.{extents_for_store}
use Rattle.volume_table.specs.VolumeStep.{Command, Write}
use Rattle.volume_table.specs.Volumes.{Block}
use Rattle.server.proofs.Coming.{come_ready, come_staged, stops_still}
use Rattle.server.specs.Answers.{Told}
use Rattle.server.specs.Ends.{CommitsNow, HasCome, NoneWaits, Stops, StopsForGood, Waits, state_of}

-- so many blocks of a volume wait too
pub waits_too : (store : StoreView) (number at : ℕ) (blocks : List Block) (old new : Given) (flag : Bool) (name : List ℕ)
    → StagesPart store number at blocks old new flag → flag ≡ true → ∥ IsWithinVolume store.keeps.records name number at (length blocks) ∥₁
    → Waits store old → Waits store new
waits_too store number at blocks old new flag name stages is within before = record {
  writes = before.writes ++ Write name at blocks ∷ [];
  holds = stages.taken is name within before.writes before.holds;
}

module _ (honest : Type 0) (start : StoreView) (was : Streams) (parts : List Command) (left : ℕ) (ahead : List ℕ) where
  pub come_part : (store : StoreView) (is : Streams) (number at : ℕ) (blocks : List Block) (old new : Given) (flag : Bool) (name : List ℕ) (replies : List Told)
      (so_far : Report) → StagesPart store number at blocks old new flag → flag ≡ true
      → ∥ IsWithinVolume store.keeps.records name number at (length blocks) ∥₁
      → HasCome honest start was parts left ahead (state_of store is old replies so_far)
      → HasCome honest start was (parts ++ Write name at blocks ∷ []) left ahead (state_of store is new replies so_far)
  come_part store is number at blocks old new flag name replies so_far stages true_flag within come =
      come_staged honest start was parts left ahead store is old new replies so_far (Write name at blocks) (stages.taken true_flag name within) come

  -- what didn't fit waits still as it did
  pub come_full : (store : StoreView) (is : Streams) (old new : Given) (replies : List Told) (so_far : Report) → new ≡ old
      → HasCome honest start was parts left ahead (state_of store is old replies so_far)
      → HasCome honest start was parts left ahead (state_of store is new replies so_far)
  come_full store is old new replies so_far same come =
      subst (λ (waits : Given). HasCome honest start was parts left ahead (state_of store is waits replies so_far)) (sym same) come

  -- it stopped for good
  pub for_good : (store : StoreView) (is : Streams) (waits : Given) (replies : List Told) (so_far : Report) (refusal : Refusal)
      → StopsForGood honest start was store is refusal → Stops honest start was refusal (state_of store is waits replies so_far)
  for_good store is waits replies so_far refusal stops =
      stops_still honest start was store is (λ l a. ⊥) (λ l a. HasCome honest start was [] l a (state_of store is waits replies so_far)) refusal
      (λ l a no. absurd no) stops
