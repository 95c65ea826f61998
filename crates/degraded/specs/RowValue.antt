-- What the rows of a set say: the value of each member in each row, and the list of logical sectors.
use Rattle.std.specs.Prelude.{ℕ, ◌+◌, ◌*◌, ◌/◌, ◌%◌, ◌<◌, ◌==◌, Bool, not, if◌then◌else◌, List, Option, Some, None, unwrap_or, map, filter}
use Rattle.std.specs.List.{range_with_len}
use Rattle.sector_model.specs.History.{Bytes}
use Rattle.layout_map.specs.declared.geometry.Geometry.{Geometry}
use Rattle.layout_map.specs.Placement.{data_sectors_of, member_of_chunk, stripe_of_chunk}
use Rattle.parity.specs.Xor.{xor_of_all, zero_sector, IsSoundRow}

-- where the rows of a set come from
pub record Rows : Type 0 where
  pub members : ℕ
  -- the sector that the last entry has for a member in a row
  pub entry : (row member : ℕ) → Option Bytes
  -- whether the member's own sector counts: it is live and, when it is rebuilding, the row is below the position
  pub trusted : (row member : ℕ) → Bool
  pub own : (row member : ℕ) → Bytes

-- the members but one
abbrev pub others : (members member : ℕ) → List ℕ
others members member = filter (λ other. not (other == member)) (range_with_len 0 members)

-- a sector of an entry where it has one, else a member's own if that counts
abbrev pub direct_of : Option Bytes → Bool → Bytes → Option Bytes
direct_of (Some sector) trusted own = Some sector
direct_of None trusted own = if trusted then Some own else None

-- what is known of a member in a row without the other members
abbrev pub direct : Rows → (row member : ℕ) → Option Bytes
direct rows row member = direct_of (rows.entry row member) (rows.trusted row member) (rows.own row member)

-- The value of a member in a row: what is known of it directly, else the XOR of what is known of the others.
unfoldable pub value : Rows → (row member : ℕ) → Bytes
value rows row member = unwrap_or (direct rows row member)
    (xor_of_all (map (λ other. unwrap_or (direct rows row other) zero_sector) (others rows.members member)))

-- the same, where no entry counts
abbrev pub without_entry : Rows → Rows
without_entry rows = record rows { entry = λ row member. None }

-- the values of all members in a row
abbrev pub row_values : Rows → (row : ℕ) → List Bytes
row_values rows row = map (λ member. value rows row member) (range_with_len 0 rows.members)

-- the first so many rows are sound
abbrev pub AreSound : Rows → (row_count : ℕ) → Type 0
AreSound rows row_count = (row : ℕ) → row < row_count → IsSoundRow (row_values rows row)

-- the value of a logical sector: that at its place
abbrev pub logical_value : Geometry → Rows → (logical : ℕ) → Bytes
logical_value geometry rows logical = value rows
    (stripe_of_chunk geometry.members (logical / geometry.chunk) * geometry.chunk + logical % geometry.chunk)
    (member_of_chunk geometry.members (logical / geometry.chunk))

-- the values of all logical sectors, in order
unfoldable pub logical_list : Geometry → Rows → List Bytes
logical_list geometry rows = map (λ logical. logical_value geometry rows logical)
    (range_with_len 0 (data_sectors_of geometry.members geometry.chunk geometry.stripes))
