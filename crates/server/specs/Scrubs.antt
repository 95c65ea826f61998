-- A set is scrubbed in parts, each by a request.
use Rattle.std.specs.Prelude.{◌≡◌, ◌==◌, if◌then◌else◌, ℕ, ◌+◌, ◌-◌, ◌^◌, min, Option, Some, None, Result, Ok, Err}
use Rattle.sector_model.specs.declared.refusal.Refusal.{Refusal}
use Rattle.array_io.specs.Believed.Holds.{row_count}
use Rattle.scrub.specs.Scrubbing.{Report}
use Rattle.volume_table.specs.Stands.{StoreView}
use Rattle.volume_table.specs.StoreFunctions.{ScrubsRows}
use Rattle.server.specs.Answers.{Told, TellsRefusal, TellsScrub}

-- before the first part
abbrev pub none_scrubbed : Report
none_scrubbed = record { rows = 0; bad = 0; first_bad = None }

-- from where the next part goes on: from the beginning again, where all rows were looked at
abbrev pub going_on : (rows : ℕ) → Report → Report
going_on rows so_far = if so_far.rows == rows then none_scrubbed else so_far

-- the first bad row of those before, or else of a part
abbrev pub first_of : (before part : Option ℕ) → Option ℕ
first_of None part = part
first_of (Some row) part = Some row

-- a sum of numbers of rows, which no set has so many of that it stops here
abbrev pub sum_of : ℕ → ℕ → ℕ
sum_of before part = min (before + part) (2 ^ 64 - 1)

-- what was found until then, with a part more
abbrev pub joined : (before part : Report) → Report
joined before part = record {
  rows = sum_of before.rows part.rows;
  bad = sum_of before.bad part.bad;
  first_bad = first_of before.first_bad part.first_bad;
}

-- what is found so far, and what is told, by what a part answered: a part that is refused leaves it
abbrev pub IsScrubTold : (before : Report) → Result Report Refusal → (so_far after : Report) → Told → Type 0
IsScrubTold before (Ok part) so_far after told = (after ≡ joined before part) × (told ≡ TellsScrub (joined before part))
IsScrubTold before (Err refusal) so_far after told = (after ≡ so_far) × (told ≡ TellsRefusal refusal)

-- so many rows more were looked at, after those that were
pub record ScrubsOn (honest : Type 0) (rows : ℕ) (old new : StoreView) (so_far after : Report) (told : Told) : Type 0 where
  pub answer : Result Report Refusal
  pub scrubs : ScrubsRows honest (going_on (row_count old.array.table) so_far).rows rows old new answer
  pub is : IsScrubTold (going_on (row_count old.array.table) so_far) answer so_far after told
