-- Where the data sectors of a set lie: the left-symmetric layout.
-- Members, stripes, rows, chunks and sectors count from 0. A row is one sector of every member, and a stripe is a chunk of rows.
use Rattle.layout_map.specs.declared.format.Format.{Format}
use Rattle.layout_map.specs.declared.format.Format.TheVariants.{One, Two}
use Rattle.layout_map.specs.declared.sizes.TheConstants.{EXTENT_SECTORS, FIRST_ROW, MOST_EXTENTS, MOST_MEMBERS, RESERVED_SECTORS}
use Rattle.layout_map.specs.Formats.{is_chunk_size, stripes_limit}
use Rattle.std.specs.Prelude.{◌≡◌, ◌≢◌, nat_lt, ℕ, zero, suc, if◌then◌else◌, IsTrue, ◌+◌, ◌-◌, ◌*◌, ◌/◌, ◌%◌, ◌^◌, ◌<◌, ◌≤◌, min}

-- how many rows there are: a chunk of rows for each stripe
abbrev pub rows_of : ℕ → ℕ → ℕ
rows_of chunk stripes = stripes * chunk

-- how many data sectors there are: in each stripe all members but one hold a chunk of data
abbrev pub data_sectors_of : ℕ → ℕ → ℕ → ℕ
data_sectors_of members chunk stripes = stripes * (members - 1) * chunk

-- the blocks of a stripe: all members but one hold a chunk of data
abbrev pub stripe_blocks : ℕ → ℕ → ℕ
stripe_blocks members chunk = chunk * (members - 1)

-- the logical sector with which the extents begin: 64, in format 2 the first one from there on with which a stripe begins
abbrev pub first_extent : Format → ℕ → ℕ → ℕ
first_extent One members chunk = RESERVED_SECTORS
first_extent Two members chunk = (RESERVED_SECTORS + stripe_blocks members chunk - 1) / stripe_blocks members chunk * stripe_blocks members chunk

-- this size, or the first of its doubles, of which so much room has at most 1,024; so many doublings at most
unfoldable pub doubled : (doublings size room : ℕ) → ℕ
doubled zero size room = size
doubled (suc n) size room = if nat_lt MOST_EXTENTS (room / size) then doubled n (2 * size) room else size

-- the blocks of an extent: 64, in format 2 as many stripes as leave at most 1,024 extents, 2^s of them
abbrev pub extent_blocks : Format → ℕ → ℕ → ℕ → ℕ
extent_blocks One members chunk stripes = EXTENT_SECTORS
extent_blocks Two members chunk stripes =
    doubled 24 (stripe_blocks members chunk) (data_sectors_of members chunk stripes - first_extent Two members chunk)

-- how many extents lie above the reserved sectors: 1,024 at most, and none where there is no room, since `-` stops at 0
abbrev pub extents_of : Format → ℕ → ℕ → ℕ → ℕ
extents_of format members chunk stripes =
    min MOST_EXTENTS ((data_sectors_of members chunk stripes - first_extent format members chunk) / extent_blocks format members chunk stripes)

-- the limits of a set
pub record IsGeometry (format : Format) (members chunk stripes : ℕ) : Type 0 where
  pub members_least : 3 ≤ members
  pub members_most : members ≤ MOST_MEMBERS
  pub chunk_size : IsTrue (is_chunk_size format chunk)
  pub stripes_least : 2 ≤ stripes
  pub stripes_most : stripes ≤ stripes_limit format
  pub rows_fit : FIRST_ROW + rows_of chunk stripes < 2 ^ 32
  pub has_extent : 1 ≤ extents_of format members chunk stripes

-- the member that holds chunk c
abbrev pub member_of_chunk : ℕ → ℕ → ℕ
member_of_chunk members c = c % members

-- the stripe that has chunk c
abbrev pub stripe_of_chunk : ℕ → ℕ → ℕ
stripe_of_chunk members c = c / (members - 1)

-- the logical sector lies on this member in this row: it is sector `logical mod chunk` of chunk `logical div chunk`
pub record IsPlace (members chunk logical member row : ℕ) : Type 0 where
  pub on_member : member ≡ member_of_chunk members (logical / chunk)
  pub on_row : row ≡ stripe_of_chunk members (logical / chunk) * chunk + logical % chunk

-- the row's parity is on this member: a member that holds no chunk of the row's stripe
pub record IsParityOf (members chunk row member : ℕ) : Type 0 where
  pub in_set : member < members
  pub holds_none : (c : ℕ) → stripe_of_chunk members c ≡ row / chunk → member_of_chunk members c ≢ member
