-- The data that a commit is given.
use Rattle.batch.specs.Places.{Given}
use Rattle.batch.specs.ZeroSectors.{with_zeros}
use Rattle.array_io.specs.declared.forming.Contents.{Contents}
use Rattle.array_io.specs.declared.forming.Contents.TheVariants.{Sectors, Zeros}

-- the logical sectors, each with what is written there
abbrev pub given_of : Contents → Given
given_of (Sectors sectors) = sectors.now
given_of (Zeros sectors) = with_zeros sectors.now
