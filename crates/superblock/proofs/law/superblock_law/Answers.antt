use Rattle.superblock.proofs.Choice.{first_is_one}
use Rattle.superblock.proofs.Spelled.{length-superblock_sector, one_superblock}
use Rattle.superblock.proofs.law.superblock_law.Goals as goal

pub returns-clause-one : goal.returns-clause-one
returns-clause-one c = one_superblock

pub returns-clause-sector : goal.returns-clause-sector
returns-clause-sector c = length-superblock_sector

pub returns-clause-first : goal.returns-clause-first
returns-clause-first c = first_is_one
