-- The volume has an extent at the block's place, no other is there, and it is one of 1,024.
use Rattle.std.proofs.Common.{◌≡◌, ℕ, ◌+◌, ◌*◌, ◌/◌, ◌<◌, ◌≤◌, length, ap, arith, rules}
use Rattle.std.proofs.lemmas.Nat.{mod_below, mul-le}
use Rattle.layout_map.specs.declared.sizes.TheConstants.{MOST_EXTENTS}
use Rattle.extents.specs.ExtentMaps.{place_of}
use Rattle.extents.proofs.extent_map.ExtentMap.where_is.Goals as goal
use Rattle.extents.proofs.extent_map.ExtentMap.where_is.Goals.{After-from}

pub bounds-extents_of-block : goal.bounds-extents_of-block
bounds-extents_of-block c =
    let each : ℕ = c.args.extents.now.blocks in
    let same : c.from-block.result / each ≡ place_of c.args.extents.now c.args.block = ap (λ (b : ℕ). b / each) c.from-block.ensures in
    omega (arith, same, (c.extents_of.ensures.extents.all c.requires.0 (place_of c.args.extents.now c.args.block) c.requires.1).0)

-- the extents up to this one have room below 1,024 of them
room : (c : After-from) → c.from.result * c.args.extents.now.blocks + c.args.extents.now.blocks ≤ MOST_EXTENTS * c.args.extents.now.blocks
room c =
    let each : ℕ = c.args.extents.now.blocks in
    let place : ℕ = c.from-block.result / each in
    let same : place ≡ place_of c.args.extents.now c.args.block = ap (λ (b : ℕ). b / each) c.from-block.ensures in
    let within : place < length c.extents_of.result.now =
    omega (arith, same, (c.extents_of.ensures.extents.all c.requires.0 (place_of c.args.extents.now c.args.block) c.requires.1).0) in
    let below : c.from.result < MOST_EXTENTS = omega (arith, c.from.ensures, c.extents_of.ensures.below place within) in
    let rest = mul-le (c.from.result + 1) each MOST_EXTENTS each (omega (arith, below)) (omega arith) in
    omega (arith, rest)

pub overflow_mul-result : goal.overflow_mul-result
overflow_mul-result c = omega (arith, room c, c.args.extents.now.limits.fits)

pub overflow_add-result : goal.overflow_add-result
overflow_add-result c = omega (arith, room c, c.args.extents.now.limits.fits)

pub overflow_add-result-2 : goal.overflow_add-result-2
overflow_add-result-2 c =
    let each : ℕ = c.args.extents.now.blocks in
    omega (
      arith,
      room c,
      c.args.extents.now.limits.fits,
      mod_below c.from-block.result each (omega (arith, c.args.extents.now.limits.some)),
    )

pub returns : goal.returns
returns c = search rules
