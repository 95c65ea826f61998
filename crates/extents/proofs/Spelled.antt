-- Records and owners, field by field.
use Rattle.std.proofs.Common.{◌≡◌, ℕ, zero, suc, ◌+◌, ◌-◌, ◌*◌, ◌%◌, ◌^◌, nat_le, Bool, true, false, ◌<◌, ◌≤◌, List, [], ◌∷◌, ◌++◌, Option, Some, None, length}
use Rattle.std.proofs.Common.{take, drop, set, get_or, refl, sym}
use Rattle.std.proofs.lemmas.Bool.{le-leb, lt-leb}
use Rattle.std.proofs.lemmas.Nat.{mod-mul-add}
use Rattle.std.proofs.Common.{ap, ◌∙◌, append_assoc, arith}
use Rattle.std.proofs.lemmas.List.{length-append, length-take, length-drop, take_at, take_all, drop_at, drop_all, append-nil}
use borrow.Rule.Slice.PartMut.{put_mid}
use Rattle.byteorder.specs.Endian.{little_bytes, little_number}
use Rattle.byteorder.specs.Numbers.{length-bytes_low_first, little_number-reads_back}
use Rattle.extents.specs.declared.owned.Owned.{Owned}
use Rattle.extents.specs.declared.record.Record.{Record}
use Rattle.extents.specs.Cells.{OwnerHasRoom, is_marked}
use Rattle.extents.specs.TableSpelling.{Entry, entry_bytes, mark, number_in, place_in, record_bytes, used_bytes, zeros}
use Rattle.extents.proofs.Bytes.{length-zeros, started, started_none, started_more, started_zeros, started_all, set_first}
use Rattle.extents.specs.Versions.{most_name_bytes, record_width, blocks_at}
use Rattle.extents.specs.VolumeTables.{IsShort}
use Rattle.extents.proofs.Versions.{numbers_fit}

pub length-little_bytes : (n x : ℕ) → length (little_bytes n x) ≡ n
length-little_bytes n x = length-bytes_low_first 0 n x

-- a number that was written over bytes of its own width
pub written : (n : ℕ) (bytes xs : List ℕ) → bytes ++ drop n (take n xs) ≡ bytes
written n bytes xs = ap (λ (ys : List ℕ). bytes ++ ys) (drop_all n (take n xs) (omega (arith, length-take n xs))) ∙ append-nil bytes

-- so it is where the part is from some place to that and so many more
pub written_at : (at n : ℕ) (bytes xs : List ℕ) → bytes ++ drop n (take (at + n - at) xs) ≡ bytes
written_at at n bytes xs = ap (λ (k : ℕ). bytes ++ drop n (take k xs)) (let same : at + n - at ≡ n = omega arith in same) ∙ written n bytes xs

-- a number that was read from bytes of its own width
pub read_back : (n x : ℕ) → x < 256 ^ n → little_number n (little_bytes n x) ≡ x
read_back n x fits = ap (little_number n) (sym (append-nil (little_bytes n x))) ∙ little_number-reads_back n x [] fits

-- ---- a record in use, of a version that its name fits

-- a name of this version is no longer than this
abbrev pub FitsName : ℕ → Record → Type 0
FitsName version used = length used.name.bytes.items ≤ most_name_bytes version

length-front : (version : ℕ) (used : Record) → FitsName version used
    → length (((length used.name.bytes.items ∷ []) ++ used.name.bytes.items) ++ zeros (blocks_at version - (1 + length used.name.bytes.items))) ≡ blocks_at
    version
length-front version used short =
    let name = used.name.bytes.items in
    let first = length name ∷ [] in
    let fits = (numbers_fit version).name in
    omega (
      arith,
      length-append first name,
      length-append (first ++ name) (zeros (blocks_at version - (1 + length name))),
      length-zeros (blocks_at version - (1 + length name)),
    )

pub length-used_bytes : (version : ℕ) (used : Record) → FitsName version used → length (used_bytes version used) ≡ record_width version
unfolding used_bytes
length-used_bytes version used short =
    let name = used.name.bytes.items in
    let front = ((length name ∷ []) ++ name) ++ zeros (blocks_at version - (1 + length name)) in
    let long : length front ≡ blocks_at version = length-front version used short in
    let fits = (numbers_fit version).blocks in
    omega (
      arith,
      length-append front (little_bytes 4 used.blocks),
      length-append (front ++ little_bytes 4 used.blocks) (zeros (record_width version - (blocks_at version + 4))),
      length-little_bytes 4 used.blocks,
      length-zeros (record_width version - (blocks_at version + 4)),
    )

-- what is written field by field over zeros
pub used_spelled : (version : ℕ) (used : Record) (start number : List ℕ) (n : ℕ) → FitsName version used → start ≡ zeros (record_width version)
    → length used.name.bytes.items ≡ n
    → number ≡ little_bytes 4 used.blocks → put_mid (blocks_at version) 4 (put_mid 1 n (set start 0 n) used.name.bytes.items) number ≡ used_bytes version used
unfolding used_bytes
used_spelled version used start number n short clear name_long is =
    let size = record_width version in
    let at = blocks_at version in
    let name = used.name.bytes.items in
    let first = length name ∷ [] in
    let with_name = first ++ name in
    let with_rest = with_name ++ zeros (at - (1 + length name)) in
    let with_blocks = with_rest ++ number in
    let name_fits = (numbers_fit version).name in
    let blocks_fit = (numbers_fit version).blocks in
    let long0 : length with_name ≡ 1 + length name = length-append first name in
    let long1 : length with_rest ≡ at = length-front version used short in
    let number_long : length number ≡ 4 = ap length is ∙ length-little_bytes 4 used.blocks in
    let long2 : length with_blocks ≡ at + 4 = omega (arith, length-append with_rest number) in
    let begun : set start 0 n ≡ started size first =
    ap (set start 0) (sym name_long) ∙ set_first start (length name) (omega (arith, ap length clear, length-zeros size))
    ∙ started_more size 0 1 [] first start refl refl (omega arith) (clear ∙ started_none size) in
    let named : put_mid 1 n (set start 0 n) name ≡ started size with_name =
    started_more size 1 n first name (set start 0 n) refl name_long (omega arith) begun in
    let padded : put_mid 1 n (set start 0 n) name ≡ started size with_rest = named ∙ started_zeros size (at - (1 + length name)) with_name (omega arith) in
    started_more size at 4 with_rest number (put_mid 1 n (set start 0 n) name) long1 number_long (omega arith) padded
    ∙ started_zeros size (size - (at + 4)) with_blocks (omega arith)
    ∙ started_all size (with_blocks ++ zeros (size - (at + 4)))
    (omega (arith, length-append with_blocks (zeros (size - (at + 4))), length-zeros (size - (at + 4))))
    ∙ ap (λ (xs : List ℕ). (with_rest ++ xs) ++ zeros (size - (at + 4))) is

-- the bytes of a record in use, its length first
grouped : (version : ℕ) (used : Record) → (rest : List ℕ) × (used_bytes version used ≡ length used.name.bytes.items ∷ (used.name.bytes.items ++ rest))
unfolding used_bytes
grouped version used =
    let name = used.name.bytes.items in
    (zeros (blocks_at version - (1 + length name)) ++ (little_bytes 4 used.blocks ++ zeros (record_width version - (blocks_at version + 4))), simp append_assoc)

pub used_first : (version : ℕ) (used : Record) → get_or (used_bytes version used) 0 0 ≡ length used.name.bytes.items
used_first version used = ap (λ (xs : List ℕ). get_or xs 0 0) (grouped version used).1

pub used_name : (version : ℕ) (used : Record) (n : ℕ) → length used.name.bytes.items ≡ n → take n (drop 1 (used_bytes version used)) ≡ used.name.bytes.items
used_name version used n long = ap (λ (xs : List ℕ). take n (drop 1 xs)) (grouped version used).1
    ∙ take_at used.name.bytes.items (grouped version used).0 n long

pub used_number : (version : ℕ) (used : Record) → FitsName version used
    → little_number 4 (take 4 (drop (blocks_at version) (used_bytes version used))) ≡ used.blocks
unfolding used_bytes
used_number version used short =
    let name = used.name.bytes.items in
    let front = ((length name ∷ []) ++ name) ++ zeros (blocks_at version - (1 + length name)) in
    let number = little_bytes 4 used.blocks in
    let rest = zeros (record_width version - (blocks_at version + 4)) in
    let most = used.most in
    let at : take 4 (drop (blocks_at version) ((front ++ number) ++ rest)) ≡ number =
    ap (λ (xs : List ℕ). take 4 (drop (blocks_at version) xs)) (append_assoc front number rest)
    ∙ ap (take 4) (drop_at front (number ++ rest) (blocks_at version) (length-front version used short))
    ∙ take_at number rest 4 (length-little_bytes 4 used.blocks) in
    ap (little_number 4) at ∙ read_back 4 used.blocks (omega arith)

-- ---- a record

pub length-record_bytes : (version : ℕ) (one : Option Record) → IsShort version one → length (record_bytes version one) ≡ record_width version
length-record_bytes version None short = length-zeros (record_width version)
length-record_bytes version (Some used) short = length-used_bytes version used (short used refl)

-- a record in use begins with a length above 0
record_first : (version : ℕ) (from : List ℕ) (used : Record) → from ≡ used_bytes version used → get_or from 0 0 ≡ length used.name.bytes.items
record_first version from used is = ap (λ (xs : List ℕ). get_or xs 0 0) is ∙ used_first version used

pub length_read : (version : ℕ) (from : List ℕ) (used : Record) → FitsName version used → from ≡ used_bytes version used
    → get_or from 0 0 ≤ most_name_bytes version
length_read version from used short is = let first = record_first version from used is in omega arith

pub name_read : (version : ℕ) (from : List ℕ) (used : Record) (n k : ℕ) → from ≡ used_bytes version used → n ≡ get_or from 0 0 → k ≡ n
    → take k (drop 1 from) ≡ used.name.bytes.items
name_read version from used n k is read same =
    ap (λ (xs : List ℕ). take k (drop 1 xs)) is ∙ used_name version used k (sym (record_first version from used is) ∙ sym read ∙ sym same)

pub blocks_read : (version : ℕ) (from : List ℕ) (used : Record) → FitsName version used → from ≡ used_bytes version used
    → little_number 4 (take 4 (drop (blocks_at version) from)) ≡ used.blocks
blocks_read version from used short is = ap (λ (xs : List ℕ). little_number 4 (take 4 (drop (blocks_at version) xs))) is ∙ used_number version used short

-- so they are read from their place to that and four more
pub blocks_read_at : (version : ℕ) (from : List ℕ) (used : Record) (at : ℕ) → FitsName version used → at ≡ blocks_at version → from ≡ used_bytes version used
    → little_number 4 (take (at + 4 - at) (drop at from)) ≡ used.blocks
blocks_read_at version from used at short place is =
    ap (λ (k : ℕ). little_number 4 (take k (drop at from))) (let same : at + 4 - at ≡ 4 = omega arith in same)
    ∙ ap (λ (k : ℕ). little_number 4 (take 4 (drop k from))) place
    ∙ blocks_read version from used short is

pub not_used : (version : ℕ) (from : List ℕ) (one : Option Record) → from ≡ record_bytes version one → get_or from 0 0 ≡ 0 → one ≡ None
not_used version from None is zero_first = refl
not_used version from (Some used) is zero_first = absurd (let some = used.name.good.not_empty in let first = record_first version from used is in omega arith)

pub first_of_zeros : (n : ℕ) → get_or (zeros n) 0 0 ≡ 0
unfolding zeros
first_of_zeros zero = refl
first_of_zeros (suc n) = refl

pub in_use : (version : ℕ) (from : List ℕ) (one : Option Record) → IsShort version one → from ≡ record_bytes version one → (get_or from 0 0 ≡ 0 → ⊥)
    → (used : Record) × (one ≡ Some used) × FitsName version used × (from ≡ used_bytes version used)
in_use version from None short is other = absurd (other (ap (λ (xs : List ℕ). get_or xs 0 0) is ∙ first_of_zeros (record_width version)))
in_use version from (Some used) short is other = (used, refl, short used refl, is)

-- ---- what is said of an extent

pub length-entry_bytes : (entry : Entry) → length (entry_bytes entry) ≡ 4
unfolding entry_bytes
length-entry_bytes entry =
    let number = little_bytes 2 (number_in entry.0) in
    let place = little_bytes 2 (place_in entry.0 + mark entry.1) in
    omega (arith, length-append number place, length-little_bytes 2 (number_in entry.0), length-little_bytes 2 (place_in entry.0 + mark entry.1))

-- the numbers of an owner with room
pub number_most : (owner : Option Owned) → OwnerHasRoom owner → number_in owner ≤ 256
number_most None room = omega arith
number_most (Some one) room = omega (arith, (room one refl).volume)

pub place_most : (owner : Option Owned) → OwnerHasRoom owner → place_in owner < 32768
place_most None room = omega arith
place_most (Some one) room = omega (arith, (room one refl).place)

pub mark_most : (marked : Bool) → mark marked ≤ 32768
mark_most true = omega arith
mark_most false = omega arith

-- what is read of a place with a mark
mark_in : (place : ℕ) (marked : Bool) → place < 32768 → nat_le 32768 (place + mark marked) ≡ marked
mark_in place true small = le-leb 32768 (place + 32768) (omega arith)
mark_in place false small = lt-leb 32768 (place + 0) (omega (arith, small))

place_of : (place : ℕ) (marked : Bool) → place < 32768 → (place + mark marked) % 32768 ≡ place
place_of place true small = ap (λ (n : ℕ). n % 32768) (let same : place + 32768 ≡ 1 * 32768 + place = omega arith in same) ∙ mod-mul-add 1 32768 place small
place_of place false small = ap (λ (n : ℕ). n % 32768) (let same : place + 0 ≡ 0 * 32768 + place = omega arith in same) ∙ mod-mul-add 0 32768 place small

-- what is read of an extent's bytes
pub entry_number : (owner : Option Owned) (marked : Bool) → OwnerHasRoom owner → little_number 2 (take 2 (entry_bytes (owner, marked))) ≡ number_in owner
unfolding entry_bytes
entry_number owner marked room =
    ap (little_number 2) (take_at (little_bytes 2 (number_in owner)) (little_bytes 2 (place_in owner + mark marked)) 2
    (length-little_bytes 2 (number_in owner)))
    ∙ read_back 2 (number_in owner) (omega (arith, number_most owner room))

pub entry_place : (owner : Option Owned) (marked : Bool) → OwnerHasRoom owner
    → little_number 2 (take 2 (drop 2 (entry_bytes (owner, marked)))) ≡ place_in owner + mark marked
unfolding entry_bytes
entry_place owner marked room =
    let place = little_bytes 2 (place_in owner + mark marked) in
    ap (λ (xs : List ℕ). little_number 2 (take 2 xs)) (drop_at (little_bytes 2 (number_in owner)) place 2 (length-little_bytes 2 (number_in owner)))
    ∙ ap (little_number 2) (take_all 2 place (let long = length-little_bytes 2 (place_in owner + mark marked) in omega arith))
    ∙ read_back 2 (place_in owner + mark marked) (omega (arith, place_most owner room, mark_most marked))

-- bytes are marked where the extent is
pub marked_is : (bytes : List ℕ) (owner : Option Owned) (marked : Bool) → OwnerHasRoom owner → bytes ≡ entry_bytes (owner, marked) → is_marked bytes ≡ marked
marked_is bytes owner marked room is =
    ap (λ (xs : List ℕ). nat_le 32768 (little_number 2 (take 2 (drop 2 xs)))) is ∙ ap (nat_le 32768) (entry_place owner marked room)
    ∙ mark_in (place_in owner) marked (place_most owner room)

pub number_read : (bytes : List ℕ) (owner : Option Owned) (marked : Bool) → OwnerHasRoom owner → bytes ≡ entry_bytes (owner, marked)
    → little_number 2 (take 2 bytes) ≡ number_in owner
number_read bytes owner marked room is = ap (λ (xs : List ℕ). little_number 2 (take 2 xs)) is ∙ entry_number owner marked room

pub place_read : (bytes : List ℕ) (owner : Option Owned) (marked : Bool) → OwnerHasRoom owner → bytes ≡ entry_bytes (owner, marked)
    → little_number 2 (take 2 (drop 2 bytes)) % 32768 ≡ place_in owner
place_read bytes owner marked room is =
    ap (λ (xs : List ℕ). little_number 2 (take 2 (drop 2 xs)) % 32768) is ∙ ap (λ (n : ℕ). n % 32768) (entry_place owner marked room)
    ∙ place_of (place_in owner) marked (place_most owner room)

-- an owner with the number 0 is none
pub free_of_number : (owner : Option Owned) → number_in owner ≡ 0 → owner ≡ None
free_of_number None zero_is = refl
free_of_number (Some one) zero_is = absurd (omega (arith, zero_is))

pub same_owner : (a b : Owned) → a.volume ≡ b.volume → a.place ≡ b.place → a ≡ b
same_owner a b volume place = λ i. record { volume = volume i; place = place i }

-- one with another is that of its numbers
pub owner_of_numbers : (owner : Option Owned) (volume place : ℕ) → number_in owner ≡ volume + 1 → place_in owner ≡ place
    → owner ≡ Some (record { volume = volume; place = place })
owner_of_numbers None volume place number_is place_is = absurd (omega (arith, number_is))
owner_of_numbers (Some one) volume place number_is place_is =
    ap Some (same_owner one (record { volume = volume; place = place }) (omega (arith, number_is)) place_is)

-- owners with the same numbers are one
pub one_owner_by : (first second : Option Owned) → number_in first ≡ number_in second → place_in first ≡ place_in second → first ≡ second
one_owner_by None second number_is place_is = sym (free_of_number second (sym number_is))
one_owner_by (Some one) second number_is place_is = sym (owner_of_numbers second one.volume one.place (sym number_is) (sym place_is))

-- what is written for an extent, one number after the other
pub entry_spelled : (entry : Entry) (bytes first second : List ℕ) → length bytes ≡ 4 → first ≡ little_bytes 2 (number_in entry.0)
    → second ≡ little_bytes 2 (place_in entry.0 + mark entry.1) → put_mid 2 2 (first ++ drop 2 bytes) second ≡ entry_bytes entry
unfolding entry_bytes
entry_spelled entry bytes first second long first_is second_is =
    let first_long : length first ≡ 2 = ap length first_is ∙ length-little_bytes 2 (number_in entry.0) in
    let all = first ++ drop 2 bytes in
    let front : take 2 all ≡ first = take_at first (drop 2 bytes) 2 first_long in
    let none : drop 2 (drop 2 all) ≡ [] = ap (drop 2) (drop_at first (drop 2 bytes) 2 first_long)
    ∙ drop_all 2 (drop 2 bytes) (omega (arith, length-drop 2 bytes)) in
    ap (λ (xs : List ℕ). xs ++ (second ++ drop 2 (drop 2 all))) front
    ∙ ap (λ (xs : List ℕ). first ++ (second ++ xs)) none
    ∙ ap (λ (xs : List ℕ). first ++ xs) (append-nil second ∙ second_is)
    ∙ ap (λ (xs : List ℕ). xs ++ little_bytes 2 (place_in entry.0 + mark entry.1)) first_is
