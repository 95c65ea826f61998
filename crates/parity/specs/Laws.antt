-- The laws of parity.
use Rattle.std.specs.Prelude.{◌≡◌, ◌≢◌, ℕ, ◌<◌, List, [], ◌∷◌, ◌++◌, length, bit_xor, slice_index, slice_index_or, slice_set}
use Rattle.parity.specs.Xor.{xor_of, xor_of_all, IsSoundRow}

-- an XOR of two sectors has 512 bytes, and the byte at each place is the XOR of the two bytes there
abbrev pub ByteByByte : Type 0
ByteByByte = (a b : List ℕ) → (length (xor_of a b) ≡ 512) × ((k : ℕ) → k < 512 → slice_index (xor_of a b) k ≡ bit_xor (slice_index a k) (slice_index b k))

-- in a sound row of any number of sectors each sector is the XOR of all the others
abbrev pub AnyOneFromTheOthers : Type 0
AnyOneFromTheOthers = (before after : List (List ℕ)) (sector : List ℕ) → length sector ≡ 512 → IsSoundRow (before ++ sector ∷ after)
    → sector ≡ xor_of_all (before ++ after)

-- the XOR of all the others, put at any place among them, makes a sound row
abbrev pub OthersGiveTheMissingOne : Type 0
OthersGiveTheMissingOne = (before after : List (List ℕ)) → IsSoundRow (before ++ xor_of_all (before ++ after) ∷ after)

-- a sound row, of which one sector is replaced and the parity is XORed with the old and the new sector, is sound again
abbrev pub DeltaKeepsRowsSound : Type 0
DeltaKeepsRowsSound = (row : List (List ℕ)) (data_place parity_place : ℕ) (new : List ℕ) → data_place < length row → parity_place < length row
    → data_place ≢ parity_place → IsSoundRow row
    → IsSoundRow (slice_set (slice_set row data_place new) parity_place
    (xor_of (xor_of (slice_index_or row parity_place []) (slice_index_or row data_place [])) new))
