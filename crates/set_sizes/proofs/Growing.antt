-- More stripes make a set where fewer do, and one with no less room.
use Rattle.std.proofs.Common.{◌≡◌, ℕ, ◌+◌, ◌-◌, ◌*◌, ◌/◌, ◌^◌, ◌<◌, ◌≤◌, Result, Ok, Err, IsOk, IfErr, inl, inr, ap, arith}
use Rattle.std.proofs.Math.Nat.{div-mul-le_self}
use Rattle.std.proofs.lemmas.Bool.{cases_lt}
use Rattle.std.proofs.lemmas.Nat.{le-div, mul-le}
use Rattle.layout_map.specs.declared.format.Format.TheVariants.{Two}
use Rattle.layout_map.specs.declared.sizes.TheConstants.{FIRST_ROW}
use Rattle.layout_map.specs.Placement.{rows_of, data_sectors_of, extent_blocks, extents_of, first_extent, stripe_blocks, IsGeometry}
use Rattle.layout_map.proofs.Places.{chunk_least, extent_least, stripe_least}
use Rattle.set_sizes.specs.Rooms.{room_of, HasRoom, LiesOn}
use Rattle.set_sizes.proofs.Doubling.{taken_grows}

-- more stripes have no less data
data_grows : (members chunk fewer more : ℕ) → fewer ≤ more → data_sectors_of members chunk fewer ≤ data_sectors_of members chunk more
data_grows members chunk fewer more grows =
    mul-le (fewer * (members - 1)) chunk (more * (members - 1)) chunk
    (mul-le fewer (members - 1) more (members - 1) grows (omega arith)) (omega arith)

-- and no less room
pub room_grows : {members chunk fewer more : ℕ} → IsGeometry Two members chunk fewer → fewer ≤ more
    → room_of Two members chunk fewer ≤ room_of Two members chunk more
room_grows {members} {chunk} {fewer} {more} is_set grows =
    taken_grows 24 (stripe_blocks members chunk)
    (data_sectors_of members chunk fewer - first_extent Two members chunk) (data_sectors_of members chunk more - first_extent Two members chunk)
    (omega (arith, stripe_least members chunk is_set.members_least (chunk_least is_set))) (omega (arith, data_grows members chunk fewer more grows))

-- so they have an extent where fewer have
extent_stays : {members chunk fewer more : ℕ} → IsGeometry Two members chunk fewer → fewer ≤ more → 1 ≤ extents_of Two members chunk more
extent_stays {members} {chunk} {fewer} {more} is_set grows = elim (cases_lt 0 (extents_of Two members chunk more)) [
  | inl some ↦ some
  | inr few ↦
      let none : extents_of Two members chunk more ≡ 0 = omega (arith, few) in
      let empty : room_of Two members chunk more ≡ 0 = omega (arith, ap (λ (e : ℕ). e * extent_blocks Two members chunk more) none) in
      let some : 1 * 16 ≤ room_of Two members chunk fewer =
      mul-le 1 16 (extents_of Two members chunk fewer) (extent_blocks Two members chunk fewer) is_set.has_extent (extent_least is_set) in
      absurd (omega (arith, empty, some, room_grows is_set grows))
]

-- more stripes make a set where fewer do, if they have places on a device
pub set_grows : {members chunk fewer more : ℕ} → IsGeometry Two members chunk fewer → fewer ≤ more → FIRST_ROW + rows_of chunk more < 2 ^ 32
    → IsGeometry Two members chunk more
set_grows {members} {chunk} {fewer} {more} is_set grows fit = record {
  members_least = is_set.members_least;
  members_most = is_set.members_most;
  chunk_size = is_set.chunk_size;
  stripes_least = omega (arith, is_set.stripes_least, grows);
  stripes_most = omega (arith, fit, mul-le more 1 more chunk (omega arith) (omega (arith, chunk_least is_set)));
  rows_fit = fit;
  has_extent = extent_stays is_set grows;
}

-- and they have room for what fewer have room for
pub has_room_grows : {members chunk blocks fewer more : ℕ} → HasRoom members chunk blocks fewer → fewer ≤ more
    → FIRST_ROW + rows_of chunk more < 2 ^ 32 → HasRoom members chunk blocks more
has_room_grows had grows fit = record {
  is_set = set_grows had.is_set grows fit;
  room = omega (arith, had.room, room_grows had.is_set grows);
}

-- fewer stripes have fewer rows
pub rows_fewer : (chunk fewer more : ℕ) → fewer ≤ more → FIRST_ROW + rows_of chunk more < 2 ^ 32 → FIRST_ROW + rows_of chunk fewer < 2 ^ 32
rows_fewer chunk fewer more grows fit = omega (arith, fit, mul-le fewer chunk more chunk grows (omega arith))

-- all rows of a set lie below the last sector that a device can have
pub lies_on_most : {members chunk stripes : ℕ} → IsGeometry Two members chunk stripes → LiesOn members chunk 4294967295 stripes
lies_on_most is_set = record {
  is_set = is_set;
  rows = omega (arith, is_set.rows_fit);
}

-- where no set of the most stripes that lie on members is made, no other one lies there
pub none_lies : {members chunk sectors : ℕ} → sectors < 2 ^ 32 → ¬ IsGeometry Two members chunk ((sectors - FIRST_ROW) / chunk)
    → (stripes : ℕ) → ¬ LiesOn members chunk sectors stripes
none_lies {members} {chunk} {sectors} fits refused stripes lies =
    let some : 0 < chunk = omega (arith, chunk_least lies.is_set) in
    refused (
    set_grows lies.is_set (le-div stripes (sectors - FIRST_ROW) chunk some (omega (arith, lies.rows)))
    (omega (arith, lies.rows, fits, div-mul-le_self (sectors - FIRST_ROW) chunk))
    )

-- what is so of an error where there is no value
pub at_refusal : {T E P : Type 0} (result : Result T E) → (¬ IsOk result → P) → IfErr result (λ _. P)
at_refusal (Ok value) so = tt
at_refusal (Err error) so = so (λ is. cc)
