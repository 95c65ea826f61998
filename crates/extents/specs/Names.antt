-- Names of volumes.
use Rattle.std.specs.Prelude.{◌≡◌, ℕ, ◌<◌, ◌≤◌, ◌==◌, ◌&&◌, ◌||◌, Bool, true, nat_le, List, length, slice_index}
use Rattle.extents.specs.declared.name.TheConstants.{MOST_NAME_BYTES}

-- a to z
abbrev pub is_letter : ℕ → Bool
is_letter byte = nat_le 97 byte && nat_le byte 122

-- 0 to 9
abbrev pub is_digit : ℕ → Bool
is_digit byte = nat_le 48 byte && nat_le byte 57

-- a letter, a digit, a hyphen or an underscore
abbrev pub is_name_byte : ℕ → Bool
is_name_byte byte = is_letter byte || is_digit byte || byte == 45 || byte == 95

-- 1 to 63 bytes that may stand in a name, the first of them a letter
pub record IsGoodName (bytes : List ℕ) : Type 0 where
  pub not_empty : 1 ≤ length bytes
  pub short : length bytes ≤ MOST_NAME_BYTES
  pub starts : is_letter (slice_index bytes 0) ≡ true
  pub each : (k : ℕ) → k < length bytes → is_name_byte (slice_index bytes k) ≡ true
