-- What the spelling of superblocks and the choice among them keep.
use Rattle.std.specs.Prelude.{◌≡◌, List, length, Option}
use Rattle.superblock.specs.declared.table.Superblock.{Superblock}
use Rattle.superblock.specs.Chosen.{IsFirstGreatest}
use Rattle.superblock.specs.Spelling.{superblock_sector}

-- a sector spells one superblock at most
abbrev pub OneSectorSpellsOne : Type 0
OneSectorSpellsOne = (first second : Superblock) → superblock_sector first ≡ superblock_sector second → first ≡ second

-- every spelling has the length of a sector
abbrev pub SpellingsAreSectors : Type 0
SpellingsAreSectors = (superblock : Superblock) → length (superblock_sector superblock) ≡ 512

-- the first of those with the greatest generation is only one
abbrev pub FirstGreatestIsOne : Type 0
FirstGreatestIsOne = (found : List (Option Superblock)) (first second : Superblock) → IsFirstGreatest found first → IsFirstGreatest found second
    → first ≡ second
