-- Steps of a rebuild of as many rows as a set's format allows.
use Rattle.std.proofs.Common.{◌≡◌, ℕ, ◌+◌, ◌*◌, ◌<◌, ◌≤◌, arith}
use Rattle.layout_map.specs.declared.format.Format.{Format}
use Rattle.layout_map.specs.declared.format.Format.TheVariants.{One, Two}
use Rattle.layout_map.specs.Formats.{rebuild_rows}
use Rattle.rebuild.specs.Rebuilding.{stepped, steps_left_of}

-- a step may have rows
pub some_rows : (format : Format) → 1 ≤ rebuild_rows format
some_rows One = omega arith
some_rows Two = omega arith

-- one that is not the last
pub stepped_on : (format : Format) (rows position : ℕ) → position + rebuild_rows format < rows
    → stepped (rebuild_rows format) rows (rebuild_rows format) position ≡ position + rebuild_rows format
stepped_on One rows position more = omega arith
stepped_on Two rows position more = omega arith

-- and the last
pub stepped_last : (format : Format) (rows position : ℕ) → position ≤ rows → rows ≤ position + rebuild_rows format
    → stepped (rebuild_rows format) rows (rebuild_rows format) position ≡ rows
stepped_last One rows position within near = omega arith
stepped_last Two rows position within near = omega arith

-- after n of them
pub none_stepped : (format : Format) (position : ℕ) → position ≡ position + rebuild_rows format * 0
none_stepped One position = omega arith
none_stepped Two position = omega arith

pub stepped_more : (format : Format) (position n : ℕ) → position + rebuild_rows format * n + rebuild_rows format ≡ position + rebuild_rows format * (n + 1)
stepped_more One position n = omega arith
stepped_more Two position n = omega arith

-- where more are left than the next
pub more_left : (format : Format) (rows position n : ℕ) → n + 1 < steps_left_of (rebuild_rows format) position rows
    → position + rebuild_rows format * n + rebuild_rows format < rows
more_left One rows position n more = omega arith
more_left Two rows position n more = omega arith

-- where the next is the last
pub last_left : (format : Format) (rows position n : ℕ) → n + 1 ≡ steps_left_of (rebuild_rows format) position rows
    → (position + rebuild_rows format * n < rows) × (rows ≤ position + rebuild_rows format * n + rebuild_rows format)
last_left One rows position n last = (omega arith, omega arith)
last_left Two rows position n last = (omega arith, omega arith)

-- each that is not the last leaves one fewer
pub one_fewer : (format : Format) (rows position : ℕ) → position + rebuild_rows format < rows
    → steps_left_of (rebuild_rows format) position rows ≡ steps_left_of (rebuild_rows format) (position + rebuild_rows format) rows + 1
one_fewer One rows position more = omega arith
one_fewer Two rows position more = omega arith

-- so many of them, and then more
pub stepped_both : (format : Format) (position m n : ℕ) → position + rebuild_rows format * m + rebuild_rows format * n ≡ position + rebuild_rows format *
    (m + n)
stepped_both One position m n = omega arith
stepped_both Two position m n = omega arith

pub one_stepped : (format : Format) (position : ℕ) → position + rebuild_rows format ≡ position + rebuild_rows format * 1
one_stepped One position = omega arith
one_stepped Two position = omega arith

-- while some are left
pub some_left : (format : Format) (rows position n : ℕ) → n < steps_left_of (rebuild_rows format) position rows → position + rebuild_rows format * n < rows
some_left One rows position n more = omega arith
some_left Two rows position n more = omega arith

pub fewer_below : (format : Format) (rows position m n : ℕ) → position + rebuild_rows format * (m + n) < rows → position + rebuild_rows format * m < rows
fewer_below One rows position m n more = omega arith
fewer_below Two rows position m n more = omega arith
