-- How far a long command is: what is shown of it.
use Rattle.std.specs.Prelude.{◌≡◌, ℕ, ◌-◌, ◌*◌, ◌/◌, ◌^◌, ◌&&◌, max, min, nat_lt, if◌then◌else◌, Option, Some, None}
use Rattle.layout_map.specs.declared.format.Format.{Format}
use Rattle.layout_map.specs.Formats.{rebuild_rows}
use Rattle.layout_map.specs.Placement.{rows_of}
use Rattle.superblock.specs.declared.table.Table.{Table}
use Rattle.set_commands.specs.declared.progress.Left.{Left}
use Rattle.set_commands.specs.declared.progress.Left.TheVariants.{Hours, Minutes, Seconds}
use Rattle.set_commands.specs.declared.progress.Speed.{Speed}
use Rattle.set_commands.specs.declared.progress.Speed.TheVariants.{Tenths, Whole}

-- how many percent of a total are done, rounded down; all of it where there is no more to do
abbrev pub percent_of : (done total : ℕ) → ℕ
percent_of done total = if nat_lt done total then (100 * done) / total else 100

-- The time that is left where so much of a total was done in this time and the rest goes on alike, at most 2^64 - 1. It has the unit of that time.
abbrev pub time_left_of : (elapsed done total : ℕ) → ℕ
time_left_of elapsed done total = min ((elapsed * (total - done)) / done) (2 ^ 64 - 1)

-- so many milliseconds in the unit that suits them, rounded down
abbrev pub left_of : ℕ → Left
left_of millis =
    if nat_lt millis 120_000 then Seconds (millis / 1_000)
    else (if nat_lt millis 7_200_000 then Minutes (millis / 60_000) else Hours (millis / 3_600_000))

-- what is told of the time left where so much of a total was done in so many milliseconds: nothing where nothing is done yet
abbrev pub IsLeft : (elapsed done total : ℕ) → Option Left → Type 0
IsLeft elapsed done total None = done ≡ 0
IsLeft elapsed done total (Some left) = left ≡ left_of (time_left_of elapsed done total)

-- so many bytes in so many milliseconds, in MB a second, of 1,000,000 bytes, rounded down: tenths of one below 10
abbrev pub rate_of : (bytes millis : ℕ) → Speed
rate_of bytes millis =
    if nat_lt bytes (10_000 * millis) then Tenths (bytes / (100 * millis))
    else Whole (bytes / (1_000 * millis))

-- the speed of so many sectors, of 512 bytes each, in so many milliseconds: none where nothing is done yet, or no time has passed
abbrev pub speed_of : (elapsed done : ℕ) → Option Speed
speed_of elapsed done =
    if nat_lt 0 elapsed && nat_lt 0 done then Some (rate_of (512 * done) elapsed) else None

-- What is shown on a meter: how much of a total is done, how fast that went, and the time left, these by what two looks at its clock gave, the first of them
-- where the command began.
pub record IsShown (Reads : Option ℕ → Type 0) (percent : ℕ) (speed : Option Speed) (left : Option Left) : Type 0 where
  pub done : ℕ
  pub total : ℕ
  pub first : ℕ
  pub last : ℕ
  pub began : Reads (Some first)
  pub looked : Reads (Some last)
  pub percent_is : percent ≡ percent_of done total
  pub speed_is : speed ≡ speed_of (last - first) done
  pub left_is : IsLeft (last - first) done total left

-- the most rows that so many steps of a rebuild of a set of this format do, one step at least; at most 2^64 - 1, also where no number is given
abbrev pub most_rows_of : Format → Option ℕ → ℕ
most_rows_of format (Some steps) = min (max steps 1 * rebuild_rows format) (2 ^ 64 - 1)
most_rows_of format None = 2 ^ 64 - 1

-- the sectors of members' rows that a command calls which goes over the rows from the position on once, in so many steps of a rebuild at most
abbrev pub sectors_of : Table → Option ℕ → ℕ
sectors_of table steps =
    min (table.geometry.members * min (rows_of table.geometry.chunk table.geometry.stripes - table.position) (most_rows_of table.geometry.format steps))
    (2 ^ 64 - 1)
