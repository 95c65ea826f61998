-- What the loss of one member's sectors leaves of the values.
use Rattle.std.specs.Prelude.{◌≡◌, ◌≢◌, ℕ, ◌<◌, true, false, length, IsSome}
use Rattle.degraded.specs.RowValue.{Rows, AreSound, direct, value}

-- the second way to the rows does without a member's own sectors, and is the same otherwise
pub record DoesWithout (member : ℕ) (whole without : Rows) : Type 0 where
  pub width : without.members ≡ whole.members
  pub entries : (row other : ℕ) → without.entry row other ≡ whole.entry row other
  pub trusts : (row other : ℕ) → other < whole.members → other ≢ member → without.trusted row other ≡ whole.trusted row other
  pub owns : (row other : ℕ) → other < whole.members → other ≢ member → without.own row other ≡ whole.own row other
  pub out : (row : ℕ) → without.trusted row member ≡ false

-- Where the rows are sound, the member's own sectors are whole, and each other member is known directly, the values stay.
abbrev pub OneMemberMayGo : Type 0
OneMemberMayGo = (member row_count : ℕ) (whole without : Rows) → member < whole.members → DoesWithout member whole without → AreSound whole row_count
    → ((row : ℕ) → row < row_count → whole.trusted row member ≡ true → length (whole.own row member) ≡ 512)
    → ((row other : ℕ) → row < row_count → other < whole.members → other ≢ member → IsSome (direct whole row other))
    → (row other : ℕ) → row < row_count → other < whole.members → value without row other ≡ value whole row other
