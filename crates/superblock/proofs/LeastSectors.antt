-- How long the devices of a set have to be.
use Rattle.std.proofs.Common.{◌≡◌, ℕ, ◌+◌, ◌<◌, ◌≤◌, Bool, true, false, refl, arith}
use Rattle.std.specs.Prelude.{nat_lt, if◌then◌else◌}
use Rattle.std.proofs.lemmas.Bool.Decides.{nat_tests}
use Rattle.layout_map.specs.declared.sizes.TheConstants.{FIRST_ROW}
use Rattle.layout_map.specs.declared.geometry.Geometry.{Geometry}
use Rattle.layout_map.specs.Formats.{journal_sectors}
use Rattle.layout_map.specs.Placement.{rows_of}
use Rattle.layout_map.proofs.Places.{journal_least as bodies_least}
use Rattle.superblock.specs.Counted.{least_sectors}

-- a slot's least number of sectors: room for the places and seals; of a member; of a journal

pub four_least : (geometry : Geometry) (slot : ℕ) → 4 ≤ least_sectors geometry slot
four_least geometry slot = by_test (nat_lt slot geometry.members)
  where
    by_test : (b : Bool) → 4 ≤ (if b then FIRST_ROW + rows_of geometry.chunk geometry.stripes else journal_sectors geometry.format)
    by_test true = omega arith
    by_test false = omega (arith, bodies_least geometry.format)

pub member_least : (geometry : Geometry) (slot : ℕ) → slot < geometry.members
    → least_sectors geometry slot ≡ FIRST_ROW + rows_of geometry.chunk geometry.stripes
member_least geometry slot below = by_test (nat_lt slot geometry.members) refl
  where
    by_test : (b : Bool) → nat_lt slot geometry.members ≡ b
        → (if b then FIRST_ROW + rows_of geometry.chunk geometry.stripes else journal_sectors geometry.format)
        ≡ FIRST_ROW + rows_of geometry.chunk geometry.stripes
    by_test true is = refl
    by_test false is = absurd (not_below is)
      where
        not_below : ¬ (nat_lt slot geometry.members ≡ false)
        not_below off = grind (arith, nat_tests, off, below)

pub journal_least : (geometry : Geometry) (slot : ℕ) → geometry.members ≤ slot → least_sectors geometry slot ≡ journal_sectors geometry.format
journal_least geometry slot beyond = by_test (nat_lt slot geometry.members) refl
  where
    by_test : (b : Bool) → nat_lt slot geometry.members ≡ b
        → (if b then FIRST_ROW + rows_of geometry.chunk geometry.stripes else journal_sectors geometry.format) ≡ journal_sectors geometry.format
    by_test true is = absurd (not_beyond is)
      where
        not_beyond : ¬ (nat_lt slot geometry.members ≡ true)
        not_beyond on = grind (arith, nat_tests, on, beyond)
    by_test false is = refl
