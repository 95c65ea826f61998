-- The one spelling of a table of volumes, as sectors of 512 bytes: 11 in version 1, and 25 in versions 2 and 3. Numbers have their lowest byte first.
use Rattle.std.specs.Prelude.{◌≡◌, ℕ, ◌+◌, ◌-◌, ◌*◌, ◌==◌, ◌&&◌, Bool, false, nat_lt, if◌then◌else◌, List, [], ◌∷◌, ◌++◌, Option, Some, None, length, map, take}
use Rattle.std.specs.Prelude.{drop, replicate}
use Rattle.std.specs.List.{flat_map, range_with_len}
use Rattle.byteorder.specs.Endian.{little_bytes}
use Rattle.extents.specs.declared.owned.Owned.{Owned}
use Rattle.extents.specs.declared.record.Record.{Record}
use Rattle.extents.specs.declared.volume_table.VolumeTable.{VolumeTable}
use Rattle.extents.specs.Versions.{record_width, records_a_sector, record_sectors, blocks_at, table_length, tells_dirty, version_byte}
use Rattle.extents.specs.declared.owner_codec.TheConstants.{DIRTY_MARK}

-- bytes that say nothing
unfoldable pub zeros : ℕ → List ℕ
zeros n = replicate n 0

-- a record in use: the length of the name, the name with zeros after it up to the blocks, the blocks, and zeros
unfoldable pub used_bytes : (version : ℕ) → Record → List ℕ
used_bytes version one =
    (length one.name.bytes.items ∷ []) ++ one.name.bytes.items ++ zeros (blocks_at version - (1 + length one.name.bytes.items))
    ++ little_bytes 4 one.blocks ++ zeros (record_width version - (blocks_at version + 4))

-- a record; one that is not used is all zero
abbrev pub record_bytes : (version : ℕ) → Option Record → List ℕ
record_bytes version None = zeros (record_width version)
record_bytes version (Some one) = used_bytes version one

-- what the table says of an extent: who has it, and whether it is marked
abbrev pub Entry : Type 0
Entry = Option Owned × Bool

-- that of an extent after the last
abbrev pub no_entry : Entry
no_entry = (None, false)

-- the number of the record that has an extent plus 1, and 0 for a free one
abbrev pub number_in : Option Owned → ℕ
number_in None = 0
number_in (Some one) = one.volume + 1

-- its place, and 0 for a free one
abbrev pub place_in : Option Owned → ℕ
place_in None = 0
place_in (Some one) = one.place

-- what a mark adds to it
abbrev pub mark : Bool → ℕ
mark marked = if marked then DIRTY_MARK else 0

-- so it is spelled, in 4 bytes
unfoldable pub entry_bytes : Entry → List ℕ
entry_bytes entry = little_bytes 2 (number_in entry.0) ++ little_bytes 2 (place_in entry.0 + mark entry.1)

-- the extents with these owners, of which these are dirty: marked are those, where the version tells them
abbrev pub entries_of : (version : ℕ) → List (Option Owned) → List Bool → List Entry
entries_of version [] dirty = []
entries_of version (owner ∷ owners) [] = (owner, tells_dirty version) ∷ entries_of version owners []
entries_of version (owner ∷ owners) (flag ∷ dirty) = (owner, tells_dirty version && flag) ∷ entries_of version owners dirty

-- a sector of records
unfoldable pub record_sector : (version : ℕ) → List (Option Record) → ℕ → List ℕ
record_sector version records number = flat_map (record_bytes version) (take (records_a_sector version) (drop (records_a_sector version * number) records))

-- a sector of extents, 128 a sector
unfoldable pub extent_sector : List Entry → ℕ → List ℕ
extent_sector entries number = flat_map entry_bytes (take 128 (drop (128 * number) entries))

-- the first sector: the version's byte, and zeros
unfoldable pub first_sector : (version : ℕ) → List ℕ
first_sector version = version_byte version ∷ zeros 511

-- sector 0 has the version; after it come the records, and then the extents
abbrev pub sector_of : (version : ℕ) → List (Option Record) → List Entry → ℕ → List ℕ
sector_of version records entries number =
    if number == 0 then first_sector version
    else (if nat_lt number (1 + record_sectors version) then record_sector version records (number - 1) else extent_sector entries
    (number - (1 + record_sectors version)))

-- the sectors of records and extents
unfoldable pub spelling : (version : ℕ) → List (Option Record) → List Entry → List (List ℕ)
spelling version records entries = map (sector_of version records entries) (range_with_len 0 (table_length version))

-- what a table says of its extents
abbrev pub entries_in : VolumeTable → List Entry
entries_in table = entries_of table.version table.extents table.dirty

-- the sectors of a table
abbrev pub table_sectors : VolumeTable → List (List ℕ)
table_sectors table = spelling table.version table.records (entries_in table)

-- sectors begin with those of a table
abbrev pub Spell : List (List ℕ) → VolumeTable → Type 0
Spell sectors table = take (table_length table.version) sectors ≡ table_sectors table
