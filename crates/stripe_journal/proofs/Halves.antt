-- The halves of a journal.
use Rattle.std.proofs.Common.{◌≡◌, ◌≢◌, ℕ, ◌+◌, ◌%◌, ◌<◌, ◌≤◌, arith}
use Rattle.layout_map.specs.declared.format.Format.{Format}
use Rattle.layout_map.specs.declared.format.Format.TheVariants.{One, Two}
use Rattle.layout_map.specs.declared.sizes.TheConstants.{BODY_SECTORS, FIRST_BODY, HALVES}
use Rattle.layout_map.specs.Formats.{body_sectors, journal_sectors}
use Rattle.stripe_journal.specs.declared.seal.Seal.{Seal}
use Rattle.stripe_journal.specs.Body.{seal_place}
use Rattle.stripe_journal.specs.Entries.{body_start, half_start}
use Rattle.stripe_journal.specs.Forms.{format_of}

-- each begins after the seals
pub half_least : (format : Format) (number : ℕ) → FIRST_BODY ≤ half_start format number
unfolding half_start
half_least One number = omega arith
half_least Two number = omega arith

-- and ends within the journal
pub half_end : (format : Format) (number : ℕ) → half_start format number + body_sectors format ≤ journal_sectors format
unfolding half_start
half_end One number = omega arith
half_end Two number = omega arith

-- each has room for the body of an entry that lists its rows
pub body_least : (format : Format) → BODY_SECTORS ≤ body_sectors format
body_least One = omega arith
body_least Two = omega arith

-- a sector is in one of them
pub one_half : (format : Format) (first second at : ℕ) → half_start format first ≤ at → at < half_start format first + body_sectors format
    → half_start format second ≤ at → at < half_start format second + body_sectors format → first % HALVES ≡ second % HALVES
unfolding half_start
one_half One first second at least below least' below' = omega arith
one_half Two first second at least below least' below' = omega arith

-- the same of the body of a seal's entry
pub start_least : (seal : Seal) → FIRST_BODY ≤ body_start seal
start_least seal = half_least (format_of seal.form) seal.number

pub start_end : (seal : Seal) → body_start seal + body_sectors (format_of seal.form) ≤ journal_sectors (format_of seal.form)
start_end seal = half_end (format_of seal.form) seal.number

-- no seal stands there
pub seal_before : (seal : Seal) (number at : ℕ) → body_start seal ≤ at → at ≢ seal_place number
seal_before seal number at least same = omega (arith, least, same, start_least seal)
