-- What nothing, and what is stale, counts for.
use Rattle.std.proofs.Common.{ℕ, List, length, None, ap, arith}
use Rattle.superblock.specs.declared.table.Table.{Table}
use Rattle.superblock.specs.declared.table.Superblock.{Superblock}
use Rattle.superblock.specs.Counted.{Content, Counts, IsLive, IsStale}
use Rattle.array_io.proofs.Images.Spellings.{Spellings}

-- no superblock stands where there is no device
pub none_counts : Spellings → (id : List ℕ) (devices slot place : ℕ) (superblock : Superblock) → ¬ Counts id devices slot None place superblock
none_counts spellings id devices slot place superblock counts = absurd (omega (arith, ap length counts.stands, spellings.superblock_long superblock))

-- no device is not a live one
pub none_is_out : Spellings → (devices : ℕ) (table : Table) (slot : ℕ) → ¬ IsLive devices table slot None
none_is_out spellings devices table slot live =
    none_counts spellings table.id devices slot live.incarnation.place live.incarnation.newest live.incarnation.counted

-- and what is stale is not live
pub stale_is_out : (devices : ℕ) (table : Table) (slot : ℕ) (content : Content) → IsStale devices table slot content → ¬ IsLive devices table slot content
stale_is_out devices table slot content stale live =
    absurd (omega (arith, stale.earlier live.incarnation.place live.incarnation.newest live.incarnation.counted, live.incarnation.own))
