-- The blocks of an extent, whatever their number is: a block's place, and its sector.
use Rattle.std.proofs.Common.{◌≡◌, inl, inr, ℕ, ◌+◌, ◌-◌, ◌*◌, ◌/◌, ◌%◌, ◌<◌, ◌≤◌, ap, sym, ◌∙◌, arith}
use Rattle.std.proofs.lemmas.Nat.{div-add-mod', div-mul-add, div_below, mod-mul-add, mod_below, mul-add-lt, mul-le}
use Rattle.std.proofs.Math.Nat.{div-eq_of_lt}
use Rattle.std.proofs.lemmas.Bool.{cases_lt}
use Rattle.std.proofs.lemmas.Grind.{div_ceil_times}
use Rattle.std.specs.Int.{div_ceil}
use Rattle.extents.specs.declared.extent_layout.ExtentLayout.{ExtentLayout}
use Rattle.extents.specs.ExtentMaps.{sector_of_block}
use Rattle.extents.specs.VolumeTables.{extents_for, most_blocks}
use Rattle.extents.specs.declared.record.TheConstants.{MOST_BLOCKS}
use Rattle.layout_map.specs.declared.sizes.TheConstants.{MOST_EXTENTS}

-- a block is one by its place and its number in its extent
pub block_is_one : (each block other : ℕ) → block / each ≡ other / each → block % each ≡ other % each → block ≡ other
block_is_one each block other same_place same_number =
    sym (div-add-mod' block each) ∙ ap (λ (p : ℕ). p * each + block % each) same_place ∙ ap (λ (n : ℕ). other / each * each + n) same_number
    ∙ div-add-mod' other each

-- a sector is of one extent, and has one number in it
pub sector_is_of_one : (extents : ExtentLayout) (extent extent' block other : ℕ) → sector_of_block extents extent block ≡ sector_of_block extents extent' other
    → (extent ≡ extent') × (block % extents.blocks ≡ other % extents.blocks)
sector_is_of_one extents extent extent' block other same =
    let each : ℕ = extents.blocks in
    let some : 0 < each = omega (arith, extents.limits.some) in
    let number : block % each < each = mod_below block each some in
    let number' : other % each < each = mod_below other each some in
    let within : extent * each + block % each ≡ extent' * each + other % each = omega (arith, same) in (
      sym (div-mul-add extent each (block % each) number) ∙ ap (λ (n : ℕ). n / each) within ∙ div-mul-add extent' each (other % each) number',
      sym (mod-mul-add extent each (block % each) number) ∙ ap (λ (n : ℕ). n % each) within ∙ mod-mul-add extent' each (other % each) number',
    )

-- the blocks of the first extents lie below the next one
pub sector_within : (extents : ExtentLayout) (extent block count : ℕ) → extent < count
    → sector_of_block extents extent block < extents.first + count * extents.blocks
sector_within extents extent block count below =
    let some : 0 < extents.blocks = omega (arith, extents.limits.some) in
    let least = mul-add-lt extent extents.blocks (block % extents.blocks) count below (mod_below block extents.blocks some) in
    omega (arith, least)

-- the extents of so many blocks have room for them
pub blocks_have_room : (each blocks : ℕ) → 1 ≤ each → blocks ≤ extents_for each blocks * each
blocks_have_room each blocks some =
    omega (arith, some, div-add-mod' (blocks + (each - 1)) each, mod_below (blocks + (each - 1)) each (omega (arith, some)))

-- they are the blocks divided by those of an extent, rounded up
pub rounded_up_is : (each blocks : ℕ) → 1 ≤ each → div_ceil blocks each ≡ extents_for each blocks
rounded_up_is each blocks some =
    let whole : div_ceil blocks each * each < blocks + each = (div_ceil_times blocks each (omega (arith, some))).1 in
    let enough : blocks ≤ div_ceil blocks each * each = (div_ceil_times blocks each (omega (arith, some))).0 in
    let high = div_below (blocks + (each - 1)) each (div_ceil blocks each + 1) (omega (arith, some)) (omega (arith, some, enough)) in
    elim (cases_lt (extents_for each blocks) (div_ceil blocks each)) [
      | inl more ↦
          absurd (omega (
            arith,
            whole,
            blocks_have_room each blocks some,
            mul-le (extents_for each blocks + 1) each (div_ceil blocks each) each (omega (arith, more)) (omega arith),
          ))
      | inr few ↦ omega (arith, few, high)
    ]

-- each of so many blocks has its place in these
pub place_is_below : (each blocks block : ℕ) → 1 ≤ each → block < blocks → block / each < extents_for each blocks
place_is_below each blocks block some below =
    div_below block each (extents_for each blocks) (omega (arith, some)) (omega (arith, below, blocks_have_room each blocks some))

-- more blocks take no fewer extents
pub more_take_more : (each few many : ℕ) → 1 ≤ each → few ≤ many → extents_for each few ≤ extents_for each many
more_take_more each few many some more =
    let room = div_below (few + (each - 1)) each (extents_for each many + 1) (omega (arith, some))
    (omega (arith, some, more, blocks_have_room each many some)) in
    omega (arith, room)

-- none take none
pub none_take_none : (each blocks : ℕ) → 1 ≤ each → blocks ≡ 0 → 0 ≡ extents_for each blocks
none_take_none each blocks some none = sym (div-eq_of_lt (omega (arith, some, none)))

-- as many blocks as 1,024 extents have are those that a volume of the set may have
pub few_blocks : (each blocks : ℕ) → 1 ≤ each → blocks ≤ MOST_BLOCKS → extents_for each blocks ≤ MOST_EXTENTS → blocks ≤ most_blocks each
unfolding most_blocks
few_blocks each blocks some most few =
    omega (arith, most, blocks_have_room each blocks some, mul-le (extents_for each blocks) each MOST_EXTENTS each few (omega arith))

-- and no more
pub no_more_blocks : (each blocks : ℕ) → 1 ≤ each → blocks ≤ most_blocks each → extents_for each blocks ≤ MOST_EXTENTS
unfolding most_blocks
no_more_blocks each blocks some most =
    let room = div_below (blocks + (each - 1)) each (MOST_EXTENTS + 1) (omega (arith, some)) (omega (arith, some, most)) in
    omega (arith, room)
