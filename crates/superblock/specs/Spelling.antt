-- The one spelling of a superblock, as the 512 bytes of a sector. Numbers are little-endian.
use Rattle.std.specs.Prelude.{ℕ, zero, suc, List, [], ◌∷◌, ◌++◌, replicate, codes}
use Rattle.byteorder.specs.Endian.{little_bytes}
use Rattle.layout_map.specs.declared.format.Format.{Format}
use Rattle.layout_map.specs.declared.format.Format.TheVariants.{One, Two}
use Rattle.superblock.specs.declared.state.State.{State}
use Rattle.superblock.specs.declared.state.State.TheVariants.{Missing, InSync, Rebuilding}
use Rattle.superblock.specs.declared.table.Superblock.{Superblock}
use Rattle.superblock.specs.Tables.{state_at, incarnation_at}

-- the mark at the beginning, by the format of the set
unfoldable pub begin_mark : Format → List ℕ
begin_mark One = codes "RAID5JV1"
begin_mark Two = codes "RAID5JV2"

-- the mark at the end
unfoldable pub end_mark : Format → List ℕ
end_mark One = codes "1VJ5DIAR"
end_mark Two = codes "2VJ5DIAR"

-- the digit of a format in its marks: that of its number
abbrev pub format_digit : Format → ℕ
format_digit One = 49
format_digit Two = 50

-- so many bytes 0
unfoldable pub zeros : ℕ → List ℕ
zeros n = replicate n 0

-- the byte of a state
abbrev pub state_byte : State → ℕ
state_byte Missing = 0
state_byte InSync = 1
state_byte Rebuilding = 2

-- the entry of a slot, 16 bytes: its state, seven zeros, its incarnation
unfoldable pub entry_bytes : State → ℕ → List ℕ
entry_bytes state incarnation = (state_byte state ∷ []) ++ zeros 7 ++ little_bytes 8 incarnation

-- the entries of the first slots, as many as the number says
unfoldable pub entries_bytes : ℕ → List State → List ℕ → List ℕ
entries_bytes zero states incarnations = []
entries_bytes (suc slot) states incarnations = entries_bytes slot states incarnations ++ entry_bytes (state_at states slot) (incarnation_at incarnations slot)

-- before the entries, 40 bytes: the mark, the set's id, the generation, the members, the role, the chunk's sectors and the stripes
unfoldable pub head_bytes : Superblock → List ℕ
head_bytes superblock =
    begin_mark superblock.table.geometry.format ++ superblock.table.id ++ little_bytes 8 superblock.table.generation
    ++ (superblock.table.geometry.members ∷ []) ++ (superblock.role ∷ [])
    ++ little_bytes 2 superblock.table.geometry.chunk ++ little_bytes 4 superblock.table.geometry.stripes

-- after the entries, 312 bytes: the position, the incarnation of the role's own slot, zeros and the mark
unfoldable pub tail_bytes : Superblock → List ℕ
tail_bytes superblock =
    little_bytes 8 superblock.table.position
    ++ little_bytes 8 (incarnation_at superblock.table.incarnations superblock.role)
    ++ zeros 288 ++ end_mark superblock.table.geometry.format

-- the sector that spells a superblock: ten entries between head and tail
unfoldable pub superblock_sector : Superblock → List ℕ
superblock_sector superblock =
    head_bytes superblock ++ entries_bytes 10 superblock.table.states superblock.table.incarnations ++ tail_bytes superblock
