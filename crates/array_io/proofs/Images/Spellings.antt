-- What the codecs of superblocks and seals prove of their spellings. The laws here need no more of them.
use Rattle.std.specs.Prelude.{◌≡◌, ◌≢◌, length}
use Rattle.parity.specs.Xor.{zero_sector}
use Rattle.superblock.specs.declared.table.Superblock.{Superblock}
use Rattle.superblock.specs.Spelling.{superblock_sector}
use Rattle.stripe_journal.specs.declared.seal.Seal.{Seal}
use Rattle.stripe_journal.specs.Spelling.{seal_sector}

pub record Spellings : Type 0 where
  -- every spelling of a superblock is a sector
  pub superblock_long : (superblock : Superblock) → length (superblock_sector superblock) ≡ 512
  -- a sector spells one superblock at most, and one seal at most
  pub one_superblock : (first second : Superblock) → superblock_sector first ≡ superblock_sector second → first ≡ second
  pub one_seal : (first second : Seal) → seal_sector first ≡ seal_sector second → first ≡ second
  -- a sector of zeros spells neither
  pub zero_no_superblock : (superblock : Superblock) → zero_sector ≢ superblock_sector superblock
  pub zero_no_seal : (seal : Seal) → zero_sector ≢ seal_sector seal
