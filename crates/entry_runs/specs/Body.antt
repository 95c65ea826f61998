-- Which sectors the runs of an entry hold, and where those stand in its body: without gaps, by row and then by member.
use Rattle.std.specs.Prelude.{ℕ, zero, suc, ◌+◌, ◌-◌, ◌*◌, ◌==◌, ◌&&◌, Bool, false, nat_le, nat_lt, if◌then◌else◌, List, [], ◌∷◌}
use Rattle.std.specs.Prelude.{Option, Some, None, count_ones}
use Rattle.std.specs.Int.{bit_at}
use Rattle.entry_runs.specs.declared.run.Run.{Run}
use Rattle.entry_runs.specs.Runs.{end_of, held_of}

-- a mask has the bit of a member
abbrev pub has_bit : (mask member : ℕ) → Bool
has_bit mask member = bit_at mask member == 1

-- how many of the members below one are held
abbrev pub count_held : (held : ℕ → Bool) → (member : ℕ) → ℕ
count_held held zero = 0
count_held held (suc member) = count_held held member + (if held member then 1 else 0)

-- how many members below one a mask has the bits of
abbrev pub bits_below : (mask member : ℕ) → ℕ
bits_below mask member = count_held (has_bit mask) member

-- a row is one of a run's
abbrev pub has_row : Run → (row : ℕ) → Bool
has_row run row = nat_le run.first row && nat_lt row (end_of run)

-- the run that has a row, if one does
abbrev pub run_of : List Run → (row : ℕ) → Option Run
run_of [] row = None
run_of (run ∷ runs) row = if has_row run row then Some run else run_of runs row

-- whether the rows of a run hold a member's sector, in a set with so many members: all hold it where they are zeros
abbrev pub run_holds : (members : ℕ) → Run → (member : ℕ) → Bool
run_holds members run member = if run.mask == 0 then nat_lt member members else has_bit run.mask member

abbrev pub holds_by : (members : ℕ) → Option Run → (member : ℕ) → Bool
holds_by members None member = false
holds_by members (Some run) member = run_holds members run member

-- whether an entry with these runs holds a member's sector of a row
abbrev pub holds : (members : ℕ) → List Run → (row member : ℕ) → Bool
holds members runs row member = holds_by members (run_of runs row) member

abbrev pub in_body_by : Option Run → (member : ℕ) → Bool
in_body_by None member = false
in_body_by (Some run) member = has_bit run.mask member

-- whether its body has that sector: the mask's bit alone, and no sector of a run of zeros
abbrev pub in_body : List Run → (row member : ℕ) → Bool
in_body runs row member = in_body_by (run_of runs row) member

-- how many sectors of a run stand before a member's sector of one of its rows: those of the rows before it, and those of the members below
abbrev pub rank_in_run : Run → (row member : ℕ) → ℕ
rank_in_run run row member = (row - run.first) * count_ones run.mask + bits_below run.mask member

-- how many sectors a body has before a member's sector of a row: those of the runs before the row's, and those before it in its run
abbrev pub rank : List Run → (row member : ℕ) → ℕ
rank [] row member = 0
rank (run ∷ runs) row member = if has_row run row then rank_in_run run row member else held_of run + rank runs row member

-- the place of a member's sector of a row in a body that has it
abbrev pub place_in_body : List Run → (row member : ℕ) → Option ℕ
place_in_body runs row member = if in_body runs row member then Some (rank runs row member) else None
