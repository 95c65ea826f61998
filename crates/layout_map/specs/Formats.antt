-- What the format of a set decides.
use Rattle.layout_map.specs.declared.format.Format.{Format}
use Rattle.layout_map.specs.declared.format.Format.TheVariants.{One, Two}
use Rattle.layout_map.specs.declared.sizes.TheConstants.{BODY_SECTORS, FIRST_BODY, HALVES}
use Rattle.layout_map.specs.declared.sizes.TheConstants.{LARGE_BODY_SECTORS, LARGE_REBUILD_ROWS, REBUILD_ROWS}
use Rattle.std.specs.Prelude.{ℕ, Bool, ◌+◌, ◌*◌, ◌==◌, ◌||◌}

-- the sizes that a chunk may have, in sectors: powers of 2 from 8 on
abbrev pub is_small_chunk : ℕ → Bool
is_small_chunk chunk = chunk == 8 || chunk == 16 || chunk == 32 || chunk == 64 || chunk == 128

abbrev pub is_chunk_size : Format → ℕ → Bool
is_chunk_size One chunk = is_small_chunk chunk
is_chunk_size Two chunk = is_small_chunk chunk || chunk == 256 || chunk == 512 || chunk == 1024

-- the most stripes, the rows of which have to have a place on a device besides
abbrev pub stripes_limit : Format → ℕ
stripes_limit One = 65536
stripes_limit Two = 4294967295

-- the sectors of the body of each half of a journal
abbrev pub body_sectors : Format → ℕ
body_sectors One = BODY_SECTORS
body_sectors Two = LARGE_BODY_SECTORS

-- the least sectors of a journal: both bodies end there
abbrev pub journal_sectors : Format → ℕ
journal_sectors format = FIRST_BODY + HALVES * body_sectors format

-- the rows of a step of a rebuild
abbrev pub rebuild_rows : Format → ℕ
rebuild_rows One = REBUILD_ROWS
rebuild_rows Two = LARGE_REBUILD_ROWS
