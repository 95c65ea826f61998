-- What the version of a table of volumes decides. A set of format 1 that was just made has version 1; version 2 has more volumes, with longer names. A set of
-- format 2 has version 3, as version 2, which tells clean extents from dirty ones besides.
use Rattle.std.specs.Prelude.{ℕ, ◌+◌, ◌-◌, ◌==◌, ◌≤◌, ◌≡◌, Bool, true, nat_le, if◌then◌else◌}
use Rattle.layout_map.specs.declared.format.Format.{Format}
use Rattle.layout_map.specs.declared.format.Format.TheVariants.{One, Two}
use Rattle.extents.specs.declared.version.TheConstants.{FIRST_VERSION, LAST_VERSION, LARGE_VERSION}

-- the versions that there are
abbrev pub IsVersion : ℕ → Type 0
IsVersion version = (FIRST_VERSION ≤ version) × (version ≤ LARGE_VERSION)

-- which of them a table of a set of this format may have
abbrev pub is_version_of : Format → (version : ℕ) → Bool
is_version_of One version = nat_le version LAST_VERSION
is_version_of Two version = version == LARGE_VERSION

-- a version that a table of a set of this format may have
abbrev pub IsVersionIn : Format → ℕ → Type 0
IsVersionIn format version = IsVersion version × (is_version_of format version ≡ true)

-- that of a set that was just made
abbrev pub fresh_version : Format → ℕ
fresh_version One = FIRST_VERSION
fresh_version Two = LARGE_VERSION

-- that of a table that was upgraded
abbrev pub upgraded_version : ℕ → ℕ
upgraded_version version = if version == FIRST_VERSION then LAST_VERSION else version

-- the table tells clean extents from dirty ones; where it doesn't, all are dirty
abbrev pub tells_dirty : ℕ → Bool
tells_dirty version = version == LARGE_VERSION

-- the first byte of a table; the last version begins with a sector of zeros, as the first does
unfoldable pub version_byte : ℕ → ℕ
version_byte version = if tells_dirty version then 0 else version - 1

-- a table of a set of this format that begins with this byte is of this version
abbrev pub IsBegunBy : Format → (byte version : ℕ) → Type 0
IsBegunBy format byte version = IsVersionIn format version × (byte ≡ version_byte version)

-- what is the one in version 1, and the other in versions 2 and 3
abbrev pub by_version : (version first second : ℕ) → ℕ
by_version version first second = if version == FIRST_VERSION then first else second

-- the most volumes, and so the records of a table
unfoldable pub most_volumes : ℕ → ℕ
most_volumes version = by_version version 32 64

-- the most bytes of a name
unfoldable pub most_name_bytes : ℕ → ℕ
most_name_bytes version = by_version version 24 63

-- the bytes of a record
unfoldable pub record_width : ℕ → ℕ
record_width version = by_version version 32 128

-- the records in a sector
unfoldable pub records_a_sector : ℕ → ℕ
records_a_sector version = by_version version 16 4

-- the sectors of records
unfoldable pub record_sectors : ℕ → ℕ
record_sectors version = by_version version 2 16

-- where a record has its number of blocks
unfoldable pub blocks_at : ℕ → ℕ
blocks_at version = by_version version 28 64

-- the sectors of a table: the first, those of records, and 8 of extents
unfoldable pub table_length : ℕ → ℕ
table_length version = 1 + record_sectors version + 8
