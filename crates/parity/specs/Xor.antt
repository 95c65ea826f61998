-- The bytewise XOR of sectors. A sector is a list of 512 bytes.
use Rattle.std.specs.Prelude.{◌≡◌, ℕ, List, [], ◌∷◌, map, bit_xor, slice_index}
use Rattle.std.specs.List.{range_with_len}

-- the n bytes that a function gives for the places 0, 1, .., n - 1
unfoldable pub bytes_by_place : ℕ → (ℕ → ℕ) → List ℕ
bytes_by_place n byte_at = map byte_at (range_with_len 0 n)

-- the XOR of two sectors: the byte at each of the 512 places is the XOR of the two bytes there
unfoldable pub xor_of : List ℕ → List ℕ → List ℕ
xor_of a b = bytes_by_place 512 (λ k. bit_xor (slice_index a k) (slice_index b k))

-- the sector whose 512 bytes are 0
unfoldable pub zero_sector : List ℕ
zero_sector = bytes_by_place 512 (λ k. 0)

-- the XOR of any number of sectors; of none it is zero
abbrev pub xor_of_all : List (List ℕ) → List ℕ
xor_of_all [] = zero_sector
xor_of_all (sector ∷ sectors) = xor_of sector (xor_of_all sectors)

-- the sectors of a row, the parity among them, XOR to zero at each place
abbrev pub IsSoundRow : List (List ℕ) → Type 0
IsSoundRow row = xor_of_all row ≡ zero_sector
