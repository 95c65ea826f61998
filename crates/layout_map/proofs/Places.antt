-- What follows from the limits and the placement.
use Rattle.std.proofs.Common.{◌≡◌, ◌==◌, ◌↔◌, ◌≢◌, ◌⊎◌, inl, inr, ℕ, ◌+◌, ◌-◌, ◌*◌, ◌/◌, ◌%◌, ◌^◌, ◌<◌, ◌≤◌, IsTrue, Bool, true, false, zero, suc, min}
use Rattle.std.proofs.Common.{nat_lt, if◌then◌else◌, refl, sym, ◌∙◌, ap, subst, arith}
use Rattle.std.proofs.lemmas.Bool.{cases_eq, or_cases, eqb-true, le-ltb, lt-ltb}
use Rattle.std.proofs.lemmas.Bool.Decides.{nat_tests}
use Rattle.std.proofs.Math.Nat.{div-lt_iff_lt-mul}
use Rattle.std.proofs.lemmas.Nat.{div-add-mod', div-mul-add, mod-mul-add, div_below, mod_below, mul-add-lt, mul-le}
use Rattle.layout_map.specs.declared.sizes.TheConstants.{BODY_SECTORS, FIRST_BODY, FIRST_ROW, HALVES, MOST_EXTENTS, MOST_MEMBERS}
use Rattle.layout_map.specs.declared.format.Format.{Format}
use Rattle.layout_map.specs.declared.format.Format.TheVariants.{One, Two}
use Rattle.layout_map.specs.Formats.{is_chunk_size, is_small_chunk, journal_sectors}
use Rattle.layout_map.specs.Placement.{rows_of, data_sectors_of, doubled, extent_blocks, extents_of, first_extent, stripe_blocks}
use Rattle.layout_map.specs.Placement.{IsGeometry, member_of_chunk, stripe_of_chunk, IsPlace, IsParityOf}
use Rattle.layout_map.specs.Law.{HoldsOneSector}
use Rattle.layout_map.proofs.Chunks.{parity_is_free, chunk_is_only, chunk_on, chunk_is_held}

-- the five sizes of a chunk of a set of format 1
pub chunk_cases : {members chunk stripes : ℕ} → IsGeometry One members chunk stripes → (chunk ≡ 8)
    ⊎ ((chunk ≡ 16) ⊎ ((chunk ≡ 32) ⊎ ((chunk ≡ 64) ⊎ (chunk ≡ 128))))
chunk_cases {chunk} limits = by_size limits.chunk_size
  where
    by_size : IsTrue (is_small_chunk chunk) → (chunk ≡ 8) ⊎ ((chunk ≡ 16) ⊎ ((chunk ≡ 32) ⊎ ((chunk ≡ 64) ⊎ (chunk ≡ 128))))
    by_size size = elim (or_cases _ (chunk == 128) size) [
      | inr is ↦ inr (inr (inr (inr (eqb-true chunk 128 is))))
      | inl fewer ↦ elim (or_cases _ (chunk == 64) fewer) [
        | inr is ↦ inr (inr (inr (inl (eqb-true chunk 64 is))))
        | inl fewer' ↦ elim (or_cases _ (chunk == 32) fewer') [
          | inr is ↦ inr (inr (inl (eqb-true chunk 32 is)))
          | inl fewest ↦ elim (or_cases (chunk == 8) (chunk == 16) fewest) [
            | inl is ↦ inl (eqb-true chunk 8 is)
            | inr is ↦ inr (inl (eqb-true chunk 16 is))
          ]
        ]
      ]
    ]

-- a chunk has 8 sectors at least
pub least_of_chunk : (format : Format) (chunk : ℕ) → IsTrue (is_chunk_size format chunk) → 8 ≤ chunk
least_of_chunk One chunk size = grind (arith, nat_tests)
least_of_chunk Two chunk size = grind (arith, nat_tests)

-- and 1,024 at most
pub most_of_chunk : (format : Format) (chunk : ℕ) → IsTrue (is_chunk_size format chunk) → chunk ≤ 1024
most_of_chunk One chunk size = grind (arith, nat_tests)
most_of_chunk Two chunk size = grind (arith, nat_tests)

pub chunk_least : {format : Format} {members chunk stripes : ℕ} → IsGeometry format members chunk stripes → 8 ≤ chunk
chunk_least {format} {chunk} limits = least_of_chunk format chunk limits.chunk_size

pub chunk_most : {format : Format} {members chunk stripes : ℕ} → IsGeometry format members chunk stripes → chunk ≤ 1024
chunk_most {format} {chunk} limits = most_of_chunk format chunk limits.chunk_size

-- no set has more rows: each has a sector on a device
pub rows_most : {format : Format} {members chunk stripes : ℕ} → IsGeometry format members chunk stripes → rows_of chunk stripes < 4294967288
rows_most limits = omega (arith, limits.rows_fit)

-- no set of format 1 has more rows
pub small_rows_most : {members chunk stripes : ℕ} → IsGeometry One members chunk stripes → rows_of chunk stripes ≤ 8388608
small_rows_most {chunk} {stripes} limits = omega (arith, mul-le stripes chunk 65536 128 limits.stripes_most (small_chunk_most chunk limits.chunk_size))
  where
    small_chunk_most : (chunk : ℕ) → IsTrue (is_small_chunk chunk) → chunk ≤ 128
    small_chunk_most chunk size = grind (arith, nat_tests)

-- the data sectors fill all members' rows but one's
pub data_sectors_by_rows : (members chunk stripes : ℕ) → data_sectors_of members chunk stripes ≡ rows_of chunk stripes * (members - 1)
data_sectors_by_rows members chunk stripes = omega arith

-- no set has more data sectors
pub data_sectors_most : (members chunk stripes : ℕ) → members ≤ MOST_MEMBERS → FIRST_ROW + rows_of chunk stripes < 2 ^ 32
    → data_sectors_of members chunk stripes ≤ 30064771009
data_sectors_most members chunk stripes few fit =
    omega (
      arith,
      data_sectors_by_rows members chunk stripes,
      mul-le (rows_of chunk stripes) (members - 1) 4294967287 7 (omega (arith, fit)) (omega (arith, few)),
    )

-- no set has more extents
pub extents_most : (format : Format) (members chunk stripes : ℕ) → extents_of format members chunk stripes ≤ MOST_EXTENTS
extents_most format members chunk stripes = omega arith

-- so many parts of a size are no more than what was divided
pub parts_fit : (most whole first size : ℕ) → 1 ≤ size → 1 ≤ min most ((whole - first) / size)
    → first + min most ((whole - first) / size) * size ≤ whole
parts_fit most whole first size some one =
    let parts : ℕ = (whole - first) / size in
    let back : parts * size + (whole - first) % size ≡ whole - first = div-add-mod' (whole - first) size in
    omega (arith, one, some, back, mul-le (min most parts) size parts size (omega arith) (omega arith), mul-le 1 1 parts size (omega (arith, one)) some)

-- a size of which there is no room for more than 1,024 is not doubled
pub doubled_done : (doublings size room : ℕ) → room / size ≤ MOST_EXTENTS → doubled doublings size room ≡ size
unfolding doubled
doubled_done zero size room few = refl
doubled_done (suc n) size room few = ap (λ (more : Bool). if more then doubled n (2 * size) room else size) (le-ltb _ _ few)

-- another one is
pub doubled_once_more : (doublings size room : ℕ) → MOST_EXTENTS < room / size → doubled (suc doublings) size room ≡ doubled doublings (2 * size) room
unfolding doubled
doubled_once_more n size room many = ap (λ (more : Bool). if more then doubled n (2 * size) room else size) (lt-ltb _ _ many)

-- a size only grows
pub doubled_least : (doublings size room : ℕ) → size ≤ doubled doublings size room
unfolding doubled
doubled_least zero size room = omega (arith)
doubled_least (suc n) size room = by_test (nat_lt MOST_EXTENTS (room / size)) (doubled_least n (2 * size) room)
  where
    by_test : (more : Bool) → 2 * size ≤ doubled n (2 * size) room → size ≤ (if more then doubled n (2 * size) room else size)
    by_test true more = omega (arith, more)
    by_test false more = omega arith

-- a stripe has blocks, and an extent
pub stripe_least : (members chunk : ℕ) → 3 ≤ members → 8 ≤ chunk → 16 ≤ stripe_blocks members chunk
stripe_least members chunk more size = omega (arith, mul-le 8 2 chunk (members - 1) size (omega (arith, more)))

pub extent_least : {format : Format} {members chunk stripes : ℕ} → IsGeometry format members chunk stripes
    → 16 ≤ extent_blocks format members chunk stripes
extent_least {format} {members} {chunk} {stripes} limits = by_format format (stripe_least members chunk limits.members_least (chunk_least limits))
  where
    by_format : (format : Format) → 16 ≤ stripe_blocks members chunk → 16 ≤ extent_blocks format members chunk stripes
    by_format One some = omega arith
    by_format Two some =
        omega (
          arith,
          some,
          doubled_least 24 (stripe_blocks members chunk) (data_sectors_of members chunk stripes - first_extent Two members chunk),
        )

-- the extents lie within the data sectors, above the reserved ones
pub extents_fit : {format : Format} {members chunk stripes : ℕ} → IsGeometry format members chunk stripes
    → first_extent format members chunk + extents_of format members chunk stripes * extent_blocks format members chunk stripes
    ≤ data_sectors_of members chunk stripes
extents_fit {format} {members} {chunk} {stripes} limits =
    parts_fit MOST_EXTENTS (data_sectors_of members chunk stripes) (first_extent format members chunk) (extent_blocks format members chunk stripes)
    (omega (arith, extent_least limits)) limits.has_extent

-- the bodies of a journal of format 1 lie in each
pub journal_least : (format : Format) → FIRST_BODY + HALVES * BODY_SECTORS ≤ journal_sectors format
journal_least One = omega arith
journal_least Two = omega arith

-- a journal's length fits a sector number
pub journal_most : (format : Format) → journal_sectors format ≤ 8200
journal_most One = omega arith
journal_most Two = omega arith

-- the row of a place belongs to the stripe of its chunk
pub stripe_of_row : {members chunk logical member row : ℕ} → 0 < chunk → IsPlace members chunk logical member row
    → row / chunk ≡ stripe_of_chunk members (logical / chunk)
stripe_of_row {members} {chunk} {logical} some place =
    ap (λ (r : ℕ). r / chunk) place.on_row ∙ div-mul-add (stripe_of_chunk members (logical / chunk)) chunk (logical % chunk) (mod_below logical chunk some)

-- a sector keeps its number within the chunk
pub offset_of_row : {members chunk logical member row : ℕ} → 0 < chunk → IsPlace members chunk logical member row → row % chunk ≡ logical % chunk
offset_of_row {members} {chunk} {logical} some place =
    ap (λ (r : ℕ). r % chunk) place.on_row ∙ mod-mul-add (stripe_of_chunk members (logical / chunk)) chunk (logical % chunk) (mod_below logical chunk some)

-- a place is on one of the members
pub place_member_below : {format : Format} {members chunk stripes logical member row : ℕ} → IsGeometry format members chunk stripes
    → IsPlace members chunk logical member row → member < members
place_member_below {members} {chunk} {stripes} {logical} limits place =
    omega (arith, place.on_member, limits.members_least, mod_below (logical / chunk) members (omega (arith, limits.members_least)))

-- the place of a data sector is in one of the rows
pub place_row_below : {format : Format} {members chunk stripes logical member row : ℕ} → IsGeometry format members chunk stripes
    → logical < data_sectors_of members chunk stripes
    → IsPlace members chunk logical member row → row < rows_of chunk stripes
place_row_below {members} {chunk} {stripes} {logical} limits below place =
    let some : 0 < chunk = omega (arith, chunk_least limits) in
    let in_chunks : logical / chunk < stripes * (members - 1) = div_below logical chunk (stripes * (members - 1)) some below in
    let in_stripes : logical / chunk / (members - 1) < stripes =
    div_below (logical / chunk) (members - 1) stripes (omega (arith, limits.members_least)) in_chunks in
    omega (arith, place.on_row, mul-add-lt (logical / chunk / (members - 1)) chunk (logical % chunk) stripes in_stripes (mod_below logical chunk some))

-- what lies in one of the rows is a data sector
pub logical_below : {format : Format} {members chunk stripes logical member row : ℕ} → IsGeometry format members chunk stripes → row < rows_of chunk stripes
    → IsPlace members chunk logical member row → logical < data_sectors_of members chunk stripes
logical_below {members} {chunk} {stripes} {logical} {member} {row} limits below place =
    let some : 0 < chunk = omega (arith, chunk_least limits) in
    let more : 0 < members - 1 = omega (arith, limits.members_least) in
    let in_stripes : row / chunk < stripes = div_below row chunk stripes some below in
    let in_chunks : logical / chunk < stripes * (members - 1) = (div-lt_iff_lt-mul more).0 (omega (arith, in_stripes, stripe_of_row some place)) in
    (div-lt_iff_lt-mul some).0 in_chunks

-- a logical sector has one place
pub place_is_one : {members chunk logical member row member' row' : ℕ} → IsPlace members chunk logical member row → IsPlace members chunk logical member' row'
    → (member ≡ member') × (row ≡ row')
place_is_one place other = (place.on_member ∙ sym other.on_member, place.on_row ∙ sym other.on_row)

-- a place has one logical sector
pub logical_is_one : {format : Format} {members chunk stripes first second member row : ℕ} → IsGeometry format members chunk stripes
    → IsPlace members chunk first member row → IsPlace members chunk second member row → first ≡ second
logical_is_one {members} {chunk} {stripes} {first} {second} limits one two =
    let some : 0 < chunk = omega (arith, chunk_least limits) in
    let same_chunk : first / chunk ≡ second / chunk = chunk_is_only members limits.members_least limits.members_most (first / chunk) (second / chunk)
    (sym (stripe_of_row some one) ∙ stripe_of_row some two) (sym one.on_member ∙ two.on_member) in
    let same_offset : first % chunk ≡ second % chunk = sym (offset_of_row some one) ∙ offset_of_row some two in
    sym (div-add-mod' first chunk) ∙ ap (λ (c : ℕ). c * chunk + first % chunk) same_chunk ∙ ap (λ (r : ℕ). second / chunk * chunk + r) same_offset
    ∙ div-add-mod' second chunk

-- the sectors after a sector of a chunk lie in the rows after its row, on the same member
pub place_goes_on : {members chunk logical member row : ℕ} (further : ℕ) → IsPlace members chunk logical member row → logical % chunk + further < chunk
    → IsPlace members chunk (logical + further) member (row + further)
place_goes_on {members} {chunk} {logical} {member} {row} further place within =
    let whole : logical + further ≡ logical / chunk * chunk + (logical % chunk + further) = omega (arith, div-add-mod' logical chunk) in
    let same_chunk : (logical + further) / chunk ≡ logical / chunk = ap (λ (l : ℕ). l / chunk) whole
    ∙ div-mul-add (logical / chunk) chunk (logical % chunk + further) within in
    let offset : (logical + further) % chunk ≡ logical % chunk + further = ap (λ (l : ℕ). l % chunk) whole
    ∙ mod-mul-add (logical / chunk) chunk (logical % chunk + further) within in
    record {
      on_member = place.on_member ∙ sym (ap (member_of_chunk members) same_chunk);
      on_row = omega (arith, place.on_row, offset, ap (λ (c : ℕ). stripe_of_chunk members c * chunk) same_chunk);
    }

-- the member with a row's parity
abbrev pub parity_member_of : ℕ → ℕ → ℕ → ℕ
parity_member_of members chunk row = members - 1 - row / chunk % members

-- it holds none of the stripe's chunks
pub parity_is_there : {format : Format} {members chunk stripes : ℕ} (row : ℕ) → IsGeometry format members chunk stripes
    → IsParityOf members chunk row (parity_member_of members chunk row)
parity_is_there {members} {chunk} row limits = record {
  in_set = omega (arith, limits.members_least);
  holds_none = λ c is. parity_is_free members limits.members_least limits.members_most c (row / chunk) is;
}

-- the logical sector on a member that has no parity of the row
abbrev pub sector_on : ℕ → ℕ → ℕ → ℕ → ℕ → ℕ
sector_on members chunk parity member row = chunk_on members (row / chunk) parity member * chunk + row % chunk

-- it lies there
pub sector_is_placed : {format : Format} {members chunk stripes : ℕ} (parity member row : ℕ) → IsGeometry format members chunk stripes
    → parity ≡ parity_member_of members chunk row → member < members → member ≢ parity
    → IsPlace members chunk (sector_on members chunk parity member row) member row
sector_is_placed {members} {chunk} parity member row limits is within other =
    let some : 0 < chunk = omega (arith, chunk_least limits) in
    let offset : row % chunk < chunk = mod_below row chunk some in
    let c : ℕ = chunk_on members (row / chunk) parity member in
    let held = chunk_is_held members limits.members_least limits.members_most (row / chunk) parity member is within other in
    let its_chunk : (c * chunk + row % chunk) / chunk ≡ c = div-mul-add c chunk (row % chunk) offset in
    let its_offset : (c * chunk + row % chunk) % chunk ≡ row % chunk = mod-mul-add c chunk (row % chunk) offset in
    let its_stripe : stripe_of_chunk members ((c * chunk + row % chunk) / chunk) ≡ row / chunk = ap (stripe_of_chunk members) its_chunk ∙ held.0 in
    record {
      on_member = sym (ap (member_of_chunk members) its_chunk ∙ held.1);
      on_row = sym (div-add-mod' row chunk) ∙ ap (λ (s : ℕ). s * chunk + row % chunk) (sym its_stripe)
          ∙ ap (λ (r : ℕ). stripe_of_chunk members ((c * chunk + row % chunk) / chunk) * chunk + r) (sym its_offset);
    }

-- a member that holds a data sector of a row has none of its parity
pub place_is_no_parity : {format : Format} {members chunk stripes logical member row : ℕ} → IsGeometry format members chunk stripes
    → IsPlace members chunk logical member row → ¬ IsParityOf members chunk row member
place_is_no_parity {members} {chunk} {stripes} {logical} limits place parity =
    parity.holds_none (logical / chunk) (sym (stripe_of_row (omega (arith, chunk_least limits)) place)) (sym place.on_member)

-- it is another member than the one with the row's parity
pub place_beside_parity : {format : Format} {members chunk stripes logical member parity row : ℕ} → IsGeometry format members chunk stripes
    → IsPlace members chunk logical member row → IsParityOf members chunk row parity → member ≢ parity
place_beside_parity {members} {chunk} {row} limits place parity same =
    place_is_no_parity limits place (subst (λ (m : ℕ). IsParityOf members chunk row m) (sym same) parity)

-- no other member holds none of the stripe's chunks
pub parity_is_at : {format : Format} {members chunk stripes member row : ℕ} → IsGeometry format members chunk stripes → IsParityOf members chunk row member
    → member ≡ parity_member_of members chunk row
parity_is_at {members} {chunk} {stripes} {member} {row} limits parity = elim (cases_eq member (parity_member_of members chunk row)) [
  | inl same ↦ same
  | inr other ↦ absurd (place_is_no_parity limits (sector_is_placed (parity_member_of members chunk row) member row limits refl parity.in_set other) parity)
]

-- a row's parity is on one member
pub parity_is_one : {format : Format} {members chunk stripes member member' row : ℕ} → IsGeometry format members chunk stripes
    → IsParityOf members chunk row member → IsParityOf members chunk row member' → member ≡ member'
parity_is_one limits one two = parity_is_at limits one ∙ sym (parity_is_at limits two)

-- the rows of a stripe have their parity on one member
pub parity_of_stripe : {members chunk row row' member : ℕ} → row / chunk ≡ row' / chunk → IsParityOf members chunk row member
    → IsParityOf members chunk row' member
parity_of_stripe same parity = record {
  in_set = parity.in_set;
  holds_none = λ c is. parity.holds_none c (is ∙ sym same);
}

-- each other member holds exactly one data sector of the row
pub data_beside_parity : {format : Format} {members chunk stripes parity member row : ℕ} → IsGeometry format members chunk stripes → row < rows_of chunk stripes
    → IsParityOf members chunk row parity → member < members → member ≢ parity → HoldsOneSector members chunk stripes member row
data_beside_parity {members} {chunk} {stripes} {parity} {member} {row} limits below is within other =
    let placed = sector_is_placed parity member row limits (parity_is_at limits is) within other in
    record {
      logical = sector_on members chunk parity member row;
      below = logical_below limits below placed;
      placed = placed;
      only = λ another its. logical_is_one limits its placed;
    }

-- each sector of each member holds exactly one data sector, or is its row's parity
pub data_or_parity : {format : Format} {members chunk stripes member row : ℕ} → IsGeometry format members chunk stripes → member < members
    → row < rows_of chunk stripes
    → HoldsOneSector members chunk stripes member row ⊎ IsParityOf members chunk row member
data_or_parity {members} {chunk} {stripes} {member} {row} limits within below = elim (cases_eq member (parity_member_of members chunk row)) [
  | inl same ↦ inr (subst (λ (m : ℕ). IsParityOf members chunk row m) (sym same) (parity_is_there row limits))
  | inr other ↦ inl (data_beside_parity limits below (parity_is_there row limits) within other)
]

-- the members that hold a data sector of a row are exactly the others than the one with its parity
pub data_member_iff : {format : Format} {members chunk stripes parity member row : ℕ} → IsGeometry format members chunk stripes → row < rows_of chunk stripes
    → IsParityOf members chunk row parity → member < members → HoldsOneSector members chunk stripes member row ↔ (member ≢ parity)
data_member_iff {members} {chunk} {stripes} {parity} {member} {row} limits below is within = (
  λ holds same. place_is_no_parity limits holds.placed (subst (λ (m : ℕ). IsParityOf members chunk row m) (sym same) is),
  λ other. data_beside_parity limits below is within other,
)
