-- More room beside the reserve never gives fewer blocks to the extents.
use Rattle.std.proofs.Common.{◌≡◌, ℕ, ◌*◌, ◌/◌, ◌<◌, ◌≤◌, zero, suc, min}
use Rattle.std.proofs.Common.{inl, inr, refl, ap, arith}
use Rattle.std.proofs.Math.Nat.{div-mul-le_self}
use Rattle.std.proofs.lemmas.Bool.{cases_lt}
use Rattle.std.proofs.lemmas.Nat.{le-div, mul-le}
use Rattle.layout_map.specs.declared.sizes.TheConstants.{MOST_EXTENTS}
use Rattle.layout_map.specs.Placement.{doubled}
use Rattle.layout_map.proofs.Places.{doubled_done, doubled_once_more}

-- the blocks of at most 1,024 extents of this size
abbrev pub in_extents : (size room : ℕ) → ℕ
in_extents size room = min MOST_EXTENTS (room / size) * size

-- the blocks of the extents, the size of which is this one or the first of its doubles that leaves at most 1,024
abbrev pub taken : (doublings size room : ℕ) → ℕ
taken n size room = in_extents (doubled n size room) room

-- a size that is not doubled
taken_done : (n size room : ℕ) → room / size ≤ MOST_EXTENTS → taken n size room ≡ in_extents size room
taken_done n size room few = ap (λ (x : ℕ). in_extents x room) (doubled_done n size room few)

-- one that is
taken_more : (n size room : ℕ) → MOST_EXTENTS < room / size → taken (suc n) size room ≡ taken n (2 * size) room
taken_more n size room many = ap (λ (x : ℕ). in_extents x room) (doubled_once_more n size room many)

-- where no doubling is left
taken_last : (size room : ℕ) → taken zero size room ≡ in_extents size room
unfolding doubled
taken_last size room = ap (λ (x : ℕ). in_extents x room) refl

-- more room has no fewer extents of one size
extents_grow : (size room more : ℕ) → 1 ≤ size → room ≤ more → in_extents size room ≤ in_extents size more
extents_grow size room more some grows =
    let parts : room / size ≤ more / size = le-div (room / size) more size some (omega (arith, div-mul-le_self room size)) in
    mul-le (min MOST_EXTENTS (room / size)) size (min MOST_EXTENTS (more / size)) size (omega arith) (omega arith)

-- room for half of the most extents has as many
half_in_extents : (size room : ℕ) → 1 ≤ size → 512 * size ≤ room → 512 * size ≤ in_extents size room
half_in_extents size room some large =
    let parts : 512 ≤ room / size = le-div 512 room size some large in
    mul-le 512 size (min MOST_EXTENTS (room / size)) size (omega arith) (omega arith)

-- more than 1,024 parts are that much room
many_are_large : (size room : ℕ) → MOST_EXTENTS < room / size → 1025 * size ≤ room
many_are_large size room many =
    omega (arith, div-mul-le_self room size, mul-le 1025 size (room / size) size (omega arith) (omega arith))

-- room for half of the most extents of a size has as many blocks, whichever size is taken
half_taken : (n size room : ℕ) → 1 ≤ size → 512 * size ≤ room → 512 * size ≤ taken n size room
half_taken zero size room some large = omega (arith, taken_last size room, half_in_extents size room some large)
half_taken (suc n) size room some large = elim (cases_lt MOST_EXTENTS (room / size)) [
  | inl many ↦ omega (
    arith,
    taken_more n size room many,
    half_taken n (2 * size) room (omega arith) (omega (arith, many_are_large size room many)),
  )
  | inr few ↦ omega (arith, taken_done (suc n) size room few, half_in_extents size room some large)
]

-- no more than 1,024 extents of this size
most_in_extents : (size room : ℕ) → in_extents size room ≤ 1024 * size
most_in_extents size room = mul-le (min MOST_EXTENTS (room / size)) size 1024 size (omega arith) (omega arith)

-- more room never gives fewer blocks to the extents: twice the size comes with half of the most extents at least
pub taken_grows : (n size room more : ℕ) → 1 ≤ size → room ≤ more → taken n size room ≤ taken n size more
taken_grows zero size room more some grows =
    omega (arith, taken_last size room, taken_last size more, extents_grow size room more some grows)
taken_grows (suc n) size room more some grows = elim (cases_lt MOST_EXTENTS (room / size)) [
  | inl many ↦
      let still : MOST_EXTENTS < more / size = le-div (suc MOST_EXTENTS) more size some (omega (arith, many_are_large size room many)) in
      omega (
        arith,
        taken_more n size room many,
        taken_more n size more still,
        taken_grows n (2 * size) room more (omega arith) grows,
      )
  | inr few ↦ elim (cases_lt MOST_EXTENTS (more / size)) [
    | inl many ↦ omega (
      arith,
      taken_done (suc n) size room few,
      most_in_extents size room,
      taken_more n size more many,
      half_taken n (2 * size) more (omega arith) (omega (arith, many_are_large size more many)),
    )
    | inr still ↦ omega (
      arith,
      taken_done (suc n) size room few,
      taken_done (suc n) size more still,
      extents_grow size room more some grows,
    )
  ]
]
