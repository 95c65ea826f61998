-- Steps of a rebuild, one after another.
use Rattle.std.specs.Prelude.{◌≡◌, ℕ, ◌+◌, ◌≤◌, max, Option, Some, Result, Ok}
use Rattle.sector_model.specs.declared.refusal.Refusal.{Refusal}
use Rattle.rebuild.specs.Rebuilding.{Position, Progress}
use Rattle.volume_table.specs.RebuildLaw.{step_rows}
use Rattle.volume_table.specs.Stands.{StoreView}
use Rattle.volume_table.specs.StoreFunctions.{RebuildsRows}

-- so many steps, each of as many rows as the set's format allows, and answered with a position
pub data Steps (honest : Type 0) : (made : ℕ) (old new : StoreView) → Type 0 where
  none_made : {made : ℕ} {old new : StoreView} → made ≡ 0 → new ≡ old → Steps honest made old new
  then_made : {made : ℕ} {old new : StoreView} (before position : ℕ) (mid : StoreView) → made ≡ before + 1
      → Steps honest before old mid → RebuildsRows honest (step_rows mid.array.table) mid new (Ok (Position position)) → Steps honest made old new

-- A rebuild of so many steps, one at least; where no number is given, of as many as it takes. There are fewer only where the last one completed it or
-- was refused.
pub record Rebuilds (honest : Type 0) (steps : Option ℕ) (old new : StoreView) (answer : Result Progress Refusal) : Type 0 where
  pub before : ℕ
  pub mid : StoreView
  pub steps_before : Steps honest before old mid
  pub last : RebuildsRows honest (step_rows mid.array.table) mid new answer
  pub no_more : (most : ℕ) → steps ≡ Some most → before + 1 ≤ max most 1
  pub all_made : (position : ℕ) → answer ≡ Ok (Position position) → (most : ℕ) × (steps ≡ Some most) × (before + 1 ≡ max most 1)
