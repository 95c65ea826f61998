-- The extents that are given back, one after another.
use Rattle.std.proofs.Common.{◌≡◌, ◌≢◌, ℕ, ◌<◌, ◌≤◌, List, length, Option, None}
use Rattle.extents.specs.declared.owned.Owned.{Owned}
use Rattle.extents.specs.Owners.{owner_of, IsAt}

-- what `IsGivenBack` says, as far as the extents below this one are done
pub record IsGivenBackBelow (old new : List (Option Owned)) (volume extent : ℕ) : Type 0 where
  pub extents : length new ≡ length old
  pub freed : (e place : ℕ) → e < extent → IsAt old e volume place → owner_of new e ≡ None
  pub kept : (e other place : ℕ) → other ≢ volume → IsAt old e other place → IsAt new e other place
  pub left : (e : ℕ) → owner_of old e ≡ None → owner_of new e ≡ None
  pub rest : (e : ℕ) → extent ≤ e → owner_of new e ≡ owner_of old e
