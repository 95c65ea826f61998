-- What is read of an input besides its lines.
use Rattle.std.specs.Prelude.{◌≡◌, ℕ, ◌<◌, List, length, Option, OnSome}
use Rattle.std.specs.List.{flat_map}
use Rattle.std.specs.Io.KnownBytes.{Consumes, IsAtEnd}
use Rattle.volume_table.specs.Volumes.{Block}

-- the bytes of blocks, one block after another
abbrev pub bytes_of : List Block → List ℕ
bytes_of blocks = flat_map (λ block. block) blocks

-- so many bytes were read
pub record Skips (old new : Option (List ℕ)) (count : ℕ) : Type 0 where
  pub skipped : List ℕ
  pub consumed : Consumes old new skipped
  pub all : length skipped ≡ count

-- fewer bytes were read than so many
pub record StopsBefore (old new : Option (List ℕ)) (count : ℕ) : Type 0 where
  pub read : List ℕ
  pub consumed : Consumes old new read
  pub fewer : length read < count

-- and there were no more
pub record EndsBefore (old new : Option (List ℕ)) (count : ℕ) : Type 0 where
  pub stops : StopsBefore old new count
  pub none_left : OnSome old (IsAtEnd new)
