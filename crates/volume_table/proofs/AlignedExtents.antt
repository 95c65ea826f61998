-- In a set of format 2 extents are whole stripes.
use Rattle.std.proofs.Common.{◌≡◌, inl, inr, ℕ, zero, suc, ◌+◌, ◌-◌, ◌*◌, ◌/◌, ◌%◌, ◌<◌, ◌≤◌, Bool, true, false, if◌then◌else◌, sym, ◌∙◌, ap, arith}
use Rattle.std.specs.Prelude.{nat_lt}
use Rattle.std.proofs.Math.Nat.{mul-mod_left}
use Rattle.std.proofs.lemmas.Bool.{cases_lt}
use Rattle.std.proofs.lemmas.Nat.{div-add-mod', mod-mul-add, mod_below, mul-le}
use Rattle.layout_map.specs.declared.format.Format.{Format}
use Rattle.layout_map.specs.declared.format.Format.TheVariants.{Two}
use Rattle.layout_map.specs.declared.geometry.Geometry.{Geometry}
use Rattle.layout_map.specs.declared.sizes.TheConstants.{MOST_EXTENTS, RESERVED_SECTORS}
use Rattle.layout_map.specs.Placement.{data_sectors_of, doubled, extent_blocks, first_extent, stripe_blocks}
use Rattle.layout_map.proofs.Places.{chunk_least, stripe_least}
use Rattle.extents.specs.ExtentMaps.{sector_of_block}
use Rattle.extents.specs.SetExtents.{extents_in}

-- a number is so many times another
abbrev pub IsTimes : (number size : ℕ) → Type 0
IsTimes number size = (k : ℕ) × (number ≡ k * size)

-- a size that is doubled is so many times itself
doubled_times : (doublings size room : ℕ) → IsTimes (doubled doublings size room) size
unfolding doubled
doubled_times zero size room = (1, omega arith)
doubled_times (suc n) size room = by_test (doubled_times n (2 * size) room) (nat_lt MOST_EXTENTS (room / size))
  where
    by_test : IsTimes (doubled n (2 * size) room) (2 * size) → (more : Bool) → IsTimes (if more then doubled n (2 * size) room else size) size
    by_test (k, is) true = (k * 2, is ∙ omega arith)
    by_test (k, is) false = (1, omega arith)

-- the extents begin with a stripe
first_times : (geometry : Geometry) → geometry.format ≡ Two → IsTimes (extents_in geometry).first (stripe_blocks geometry.members geometry.chunk)
unfolding extents_in
first_times geometry two = (
  (RESERVED_SECTORS + stripe_blocks geometry.members geometry.chunk - 1) / stripe_blocks geometry.members geometry.chunk,
  ap (λ (f : Format). first_extent f geometry.members geometry.chunk) two,
)

-- and each has whole ones
blocks_times : (geometry : Geometry) → geometry.format ≡ Two → IsTimes (extents_in geometry).blocks (stripe_blocks geometry.members geometry.chunk)
unfolding extents_in
blocks_times geometry two =
    let stripe = stripe_blocks geometry.members geometry.chunk in
    let times = doubled_times 24 stripe (data_sectors_of geometry.members geometry.chunk geometry.stripes - first_extent Two geometry.members geometry.chunk) in
    (times.0, ap (λ (f : Format). extent_blocks f geometry.members geometry.chunk geometry.stripes) two ∙ times.1)

-- what is left of so many times a number, by so many times it
mod_times : (b k w : ℕ) → 0 < k → 0 < w → (b * w) % (k * w) ≡ b % k * w
mod_times b k w some one =
    let less = mod_below b k some in
    let below : b % k * w < k * w = omega (arith, mul-le (b % k + 1) w k w (omega (arith, less)) (omega arith), one) in
    let parts : b * w ≡ b / k * (k * w) + b % k * w = ap (λ (n : ℕ). n * w) (sym (div-add-mod' b k)) ∙ omega arith in
    ap (λ (n : ℕ). n % (k * w)) parts ∙ mod-mul-add (b / k) (k * w) (b % k * w) below

-- from the begin of a stripe to that of a later one there is a stripe
pub stripe_before : (a b w : ℕ) → 0 < w → a % w ≡ 0 → b % w ≡ 0 → a < b → a + w ≤ b
stripe_before a b w some first second less =
    let one : a ≡ a / w * w = omega (arith, div-add-mod' a w, first) in
    let two : b ≡ b / w * w = omega (arith, div-add-mod' b w, second) in
    elim (cases_lt (a / w) (b / w)) [
      | inl before ↦ omega (arith, one, two, mul-le (a / w + 1) w (b / w) w (omega (arith, before)) (omega arith))
      | inr past ↦ absurd (omega (arith, less, one, two, mul-le (b / w) w (a / w) w past (omega arith)))
    ]

-- and it ends where one begins
pub stripe_after : (a w : ℕ) → 0 < w → a % w ≡ 0 → (a + w) % w ≡ 0
stripe_after a w some first =
    let one : a + w ≡ (a / w + 1) * w = omega (arith, div-add-mod' a w, first) in
    ap (λ (n : ℕ). n % w) one ∙ mul-mod_left (a / w + 1) w

-- a block with which a stripe begins
module _ (geometry : Geometry) (two : geometry.format ≡ Two) (block : ℕ)
    (first : block % stripe_blocks geometry.members geometry.chunk ≡ 0) where
  abbrev stripe : ℕ
  stripe = stripe_blocks geometry.members geometry.chunk

  some_blocks : 0 < stripe
  some_blocks = omega (arith, stripe_least geometry.members geometry.chunk geometry.limits.members_least (chunk_least geometry.limits))

  -- how many stripes an extent has
  abbrev in_extent : IsTimes (extents_in geometry).blocks stripe
  in_extent = blocks_times geometry two

  some_stripes : 0 < in_extent.0
  some_stripes = by_count in_extent.0 in_extent.1
    where
      by_count : (k : ℕ) → (extents_in geometry).blocks ≡ k * stripe_blocks geometry.members geometry.chunk → 0 < k
      by_count zero is = absurd (omega (arith, is, (extents_in geometry).limits.some))
      by_count (suc k) is = omega arith

  block_times : block ≡ block / stripe * stripe
  block_times = omega (arith, div-add-mod' block stripe, first)

  -- its number in its extent
  in_its_extent : block % (extents_in geometry).blocks ≡ block / stripe % in_extent.0 * stripe
  in_its_extent = ap (λ (n : ℕ). block % n) in_extent.1 ∙ ap (λ (n : ℕ). n % (in_extent.0 * stripe)) block_times
      ∙ mod_times (block / stripe) in_extent.0 stripe some_stripes some_blocks

  -- a stripe's blocks from it on are of one extent
  pub stripe_in_extent : block % (extents_in geometry).blocks + stripe ≤ (extents_in geometry).blocks
  stripe_in_extent =
      let less = mod_below (block / stripe) in_extent.0 some_stripes in
      omega (arith, in_its_extent, in_extent.1, mul-le (block / stripe % in_extent.0 + 1) stripe in_extent.0 stripe (omega (arith, less)) (omega arith))

  -- and in each extent it lies where a stripe begins
  pub begins_stripe : (extent : ℕ) → sector_of_block (extents_in geometry) extent block % stripe ≡ 0
  begins_stripe extent =
      let begin = first_times geometry two in
      let is : sector_of_block (extents_in geometry) extent block ≡ (begin.0 + extent * in_extent.0 + block / stripe % in_extent.0) * stripe =
      omega (arith, begin.1, ap (λ (n : ℕ). extent * n) in_extent.1, in_its_extent) in
      ap (λ (n : ℕ). n % stripe) is ∙ mul-mod_left (begin.0 + extent * in_extent.0 + block / stripe % in_extent.0) stripe
