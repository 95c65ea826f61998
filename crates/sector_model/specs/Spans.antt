-- Bytes that lie together in a file, in a buffer.
use Rattle.std.specs.Prelude.{◌≡◌, ℕ, ◌+◌, ◌-◌, List, nat_lt, if◌then◌else◌, slice_index_or}
use Rattle.sector_model.specs.DeviceFiles.{Contents}

-- what a file shows on which the first so many of these bytes are put from a place on; none of them is safe by that
abbrev pub with_span : Contents → (start len : ℕ) → (bytes : List ℕ) → Contents
with_span contents start len bytes = record {
  size = contents.size;
  byte = λ p. if nat_lt p start then contents.byte p else if nat_lt p (start + len) then slice_index_or bytes (p - start) 0 else contents.byte p;
  safe = contents.safe;
}

-- the one shows what the other does, and as much of it is safe
pub record IsShownAs (first second : Contents) : Type 0 where
  pub size : second.size ≡ first.size
  pub byte : (p : ℕ) → second.byte p ≡ first.byte p
  pub safe : (p : ℕ) → second.safe p ≡ first.safe p
