-- The laws of the XOR of sectors. Other crates cite these, and never the bytes.
use Rattle.std.proofs.Common.{◌≡◌, ◌≢◌, ℕ, zero, suc, ◌+◌, ◌<◌, List, [], ◌∷◌, ◌++◌, length, get_or, set, take, drop, replicate, refl, sym, ap, ◌∙◌, arith}
use Rattle.std.specs.Prelude.{bit_xor}
use Rattle.std.specs.Int.Bits.{xor_self, xor_assoc, xor_zero_l}
use Rattle.std.proofs.lemmas.Nat.{xor_comm}
use Rattle.std.proofs.lemmas.List.{get_or-set_other, length-set, length-replicate, get_or-replicate, take_more, take-append-drop, drop_more}
use Rattle.std.proofs.lemmas.List.FromFn.{length-map-range_with_len, get_or-map-range_with_len, fill_by_all}
use Rattle.parity.specs.Xor.{bytes_by_place, xor_of, zero_sector, xor_of_all, IsSoundRow}

-- so many bytes
length-bytes_by_place : (n : ℕ) (f : ℕ → ℕ) → length (bytes_by_place n f) ≡ n
unfolding bytes_by_place
length-bytes_by_place n f = length-map-range_with_len f 0 n

-- the byte at a place
get_or-bytes_by_place : (n : ℕ) (f : ℕ → ℕ) (k : ℕ) → k < n → get_or (bytes_by_place n f) k 0 ≡ f k
unfolding bytes_by_place
get_or-bytes_by_place n f k within = get_or-map-range_with_len f 0 n k k 0 within (omega arith)

-- a list of n bytes is known by its bytes
bytes_by_place_is : (n : ℕ) (f : ℕ → ℕ) (xs : List ℕ) → length xs ≡ n → ((k : ℕ) → k < n → get_or xs k 0 ≡ f k) → xs ≡ bytes_by_place n f
unfolding bytes_by_place
bytes_by_place_is n f xs long each = fill_by_all f xs n 0 long each

-- an XOR has 512 bytes
pub length-xor_of : (a b : List ℕ) → length (xor_of a b) ≡ 512
unfolding xor_of
length-xor_of a b = length-bytes_by_place 512 (λ k. bit_xor (get_or a k 0) (get_or b k 0))

-- the byte of an XOR at a place
pub get_or-xor_of : (a b : List ℕ) (k : ℕ) → k < 512 → get_or (xor_of a b) k 0 ≡ bit_xor (get_or a k 0) (get_or b k 0)
unfolding xor_of
get_or-xor_of a b k within = get_or-bytes_by_place 512 (λ k. bit_xor (get_or a k 0) (get_or b k 0)) k within

-- 512 bytes that are the XORs of those of two sectors are their XOR
pub xor_of_is : (a b c : List ℕ) → length c ≡ 512 → ((k : ℕ) → k < 512 → get_or c k 0 ≡ bit_xor (get_or a k 0) (get_or b k 0)) → c ≡ xor_of a b
unfolding xor_of
xor_of_is a b c long each = bytes_by_place_is 512 (λ k. bit_xor (get_or a k 0) (get_or b k 0)) c long each

-- the zero sector has 512 bytes
pub length-zero_sector : length zero_sector ≡ 512
unfolding zero_sector
length-zero_sector = length-bytes_by_place 512 (λ k. 0)

-- each byte of the zero sector is 0
pub get_or-zero_sector : (k : ℕ) → k < 512 → get_or zero_sector k 0 ≡ 0
unfolding zero_sector
get_or-zero_sector k within = get_or-bytes_by_place 512 (λ k. 0) k within

-- 512 bytes that are 0 are the zero sector
pub zero_sector_is : (c : List ℕ) → length c ≡ 512 → ((k : ℕ) → k < 512 → get_or c k 0 ≡ 0) → c ≡ zero_sector
unfolding zero_sector
zero_sector_is c long each = bytes_by_place_is 512 (λ k. 0) c long each

-- 512 zeros are the zero sector
pub zero_sector-replicate : (n : ℕ) → n ≡ 512 → replicate n 0 ≡ zero_sector
zero_sector-replicate n long = zero_sector_is (replicate n 0) (length-replicate n 0 ∙ long) (λ k within. get_or-replicate n k 0 0 (omega arith))

-- the order of two sectors is free
pub xor_of-comm : (a b : List ℕ) → xor_of a b ≡ xor_of b a
xor_of-comm a b = xor_of_is b a (xor_of a b) (length-xor_of a b) (λ k within. get_or-xor_of a b k within ∙ xor_comm (get_or a k 0) (get_or b k 0))

-- the grouping of three sectors is free
pub xor_of-assoc : (a b c : List ℕ) → xor_of (xor_of a b) c ≡ xor_of a (xor_of b c)
xor_of-assoc a b c =
    xor_of_is a (xor_of b c) (xor_of (xor_of a b) c) (length-xor_of (xor_of a b) c) (λ k within.
    get_or-xor_of (xor_of a b) c k within
    ∙ ap (λ n. bit_xor n (get_or c k 0)) (get_or-xor_of a b k within)
    ∙ xor_assoc (get_or a k 0) (get_or b k 0) (get_or c k 0)
    ∙ ap (λ n. bit_xor (get_or a k 0) n) (sym (get_or-xor_of b c k within)))

-- a sector XORed with itself is zero
pub xor_of-self : (a : List ℕ) → xor_of a a ≡ zero_sector
xor_of-self a = zero_sector_is (xor_of a a) (length-xor_of a a) (λ k within. get_or-xor_of a a k within ∙ xor_self (get_or a k 0))

-- zero changes no sector
pub xor_of-zero : (a : List ℕ) → length a ≡ 512 → xor_of zero_sector a ≡ a
xor_of-zero a long = sym (xor_of_is zero_sector a a long (λ k within.
    sym (ap (λ n. bit_xor n (get_or a k 0)) (get_or-zero_sector k within) ∙ xor_zero_l (get_or a k 0))))

-- zero changes no sector, on the right
pub xor_of-zero_right : (a : List ℕ) → length a ≡ 512 → xor_of a zero_sector ≡ a
xor_of-zero_right a long = xor_of-comm a zero_sector ∙ xor_of-zero a long

-- zero changes no XOR
pub xor_of-zero-xor_of : (a b : List ℕ) → xor_of zero_sector (xor_of a b) ≡ xor_of a b
xor_of-zero-xor_of a b = xor_of-zero (xor_of a b) (length-xor_of a b)

-- what is XORed in twice is gone
pub xor_of-xor_of-self : (a b : List ℕ) → xor_of a (xor_of a b) ≡ xor_of zero_sector b
xor_of-xor_of-self a b = sym (xor_of-assoc a a b) ∙ ap (λ s. xor_of s b) (xor_of-self a)

-- the XOR of any number of sectors has 512 bytes
pub length-xor_of_all : (sectors : List (List ℕ)) → length (xor_of_all sectors) ≡ 512
length-xor_of_all [] = length-zero_sector
length-xor_of_all (sector ∷ sectors) = length-xor_of sector (xor_of_all sectors)

-- zero changes no XOR of any number of sectors
pub xor_of-zero-xor_of_all : (sectors : List (List ℕ)) → xor_of zero_sector (xor_of_all sectors) ≡ xor_of_all sectors
xor_of-zero-xor_of_all sectors = xor_of-zero (xor_of_all sectors) (length-xor_of_all sectors)

-- the XOR of two rows of sectors
pub xor_of_all-append : (xs ys : List (List ℕ)) → xor_of_all (xs ++ ys) ≡ xor_of (xor_of_all xs) (xor_of_all ys)
xor_of_all-append [] ys = sym (xor_of-zero-xor_of_all ys)
xor_of_all-append (x ∷ xs) ys = ap (λ s. xor_of x s) (xor_of_all-append xs ys) ∙ sym (xor_of-assoc x (xor_of_all xs) (xor_of_all ys))

-- a sector among others may stand first
pub xor_of_all-middle : (before after : List (List ℕ)) (x : List ℕ) → xor_of_all (before ++ x ∷ after) ≡ xor_of x (xor_of_all (before ++ after))
xor_of_all-middle [] after x = refl
xor_of_all-middle (y ∷ before) after x =
    let rest = xor_of_all (before ++ after) in
    ap (λ s. xor_of y s) (xor_of_all-middle before after x) ∙ xor_of-left_comm y x rest
  where
    xor_of-left_comm : (a b c : List ℕ) → xor_of a (xor_of b c) ≡ xor_of b (xor_of a c)
    xor_of-left_comm a b c = sym (xor_of-assoc a b c) ∙ ap (λ s. xor_of s c) (xor_of-comm a b) ∙ xor_of-assoc b a c

-- the XOR of the first sectors, with one sector more
pub xor_of_all-take : (sectors : List (List ℕ)) (i : ℕ) → i < length sectors
    → xor_of_all (take (i + 1) sectors) ≡ xor_of (xor_of_all (take i sectors)) (get_or sectors i [])
xor_of_all-take sectors i within =
    let so_far = xor_of_all (take i sectors) in
    let sector = get_or sectors i [] in
    ap xor_of_all (take_more sectors i [] within)
    ∙ xor_of_all-append (take i sectors) (sector ∷ [])
    ∙ sym (xor_of-assoc so_far sector zero_sector)
    ∙ xor_of-comm (xor_of so_far sector) zero_sector
    ∙ xor_of-zero-xor_of so_far sector

-- one sector of a row replaced
pub xor_of_all-set : (row : List (List ℕ)) (place : ℕ) (new : List ℕ) → place < length row
    → xor_of_all (set row place new) ≡ xor_of (xor_of (xor_of_all row) (get_or row place [])) new
xor_of_all-set [] place new within = absurd (omega arith)
xor_of_all-set (x ∷ row) zero new within =
    let rest = xor_of_all row in
    sym (ap (λ s. xor_of s new) (xor_of-comm (xor_of x rest) x ∙ xor_of-xor_of-self x rest ∙ xor_of-zero-xor_of_all row) ∙ xor_of-comm rest new)
xor_of_all-set (x ∷ row) (suc place) new within =
    let rest = xor_of_all row in
    let old = get_or row place [] in
    ap (λ s. xor_of x s) (xor_of_all-set row place new (omega arith))
    ∙ sym (xor_of-assoc x (xor_of rest old) new)
    ∙ ap (λ s. xor_of s new) (sym (xor_of-assoc x rest old))

-- in a sound row each sector is the XOR of all the others
pub sector_from_others : (before after : List (List ℕ)) (sector : List ℕ) → length sector ≡ 512 → IsSoundRow (before ++ sector ∷ after)
    → sector ≡ xor_of_all (before ++ after)
sector_from_others before after sector long sound =
    let others = xor_of_all (before ++ after) in
    let zero_in_all : xor_of sector others ≡ zero_sector = sym (xor_of_all-middle before after sector) ∙ sound in
    sym (xor_of-zero sector long) ∙ xor_of-comm zero_sector sector ∙ sym (ap (λ s. xor_of sector s) zero_in_all)
    ∙ xor_of-xor_of-self sector others ∙ xor_of-zero-xor_of_all (before ++ after)

-- the XOR of all the others makes a row sound
pub sound_from_others : (before after : List (List ℕ)) → IsSoundRow (before ++ xor_of_all (before ++ after) ∷ after)
sound_from_others before after = xor_of_all-middle before after (xor_of_all (before ++ after)) ∙ xor_of-self (xor_of_all (before ++ after))

-- in a sound row the sector at a place is the XOR of the sectors at the other places
pub sector_from_others_at : (row : List (List ℕ)) (place : ℕ) → place < length row → length (get_or row place []) ≡ 512 → IsSoundRow row
    → get_or row place [] ≡ xor_of_all (take place row ++ drop (place + 1) row)
sector_from_others_at row place within long sound =
    let split : row ≡ take place row ++ get_or row place [] ∷ drop (place + 1) row =
    sym (take-append-drop place row) ∙ ap (λ rest. take place row ++ rest) (drop_more row place [] within) in
    sector_from_others (take place row) (drop (place + 1) row) (get_or row place []) long (sym (ap xor_of_all split) ∙ sound)

-- data sectors with their XOR as the last sector make a sound row
pub sound_with_parity : (data_sectors : List (List ℕ)) → IsSoundRow (data_sectors ++ xor_of_all data_sectors ∷ [])
sound_with_parity data_sectors =
    xor_of_all-append data_sectors (xor_of_all data_sectors ∷ [])
    ∙ ap (λ s. xor_of (xor_of_all data_sectors) s) (xor_of-zero_right (xor_of_all data_sectors) (length-xor_of_all data_sectors))
    ∙ xor_of-self (xor_of_all data_sectors)

-- a row of zero sectors is sound
pub sound_zeros : (n : ℕ) → IsSoundRow (replicate n zero_sector)
sound_zeros zero = refl
sound_zeros (suc n) = ap (λ s. xor_of zero_sector s) (sound_zeros n) ∙ xor_of-self zero_sector

-- (z + d + n) + p + (p + d + n) is z, for any d, n and p, where z is zero
settled : (d n p : List ℕ) → xor_of (xor_of (xor_of (xor_of zero_sector d) n) p) (xor_of (xor_of p d) n) ≡ zero_sector
settled d n p =
    ap (λ s. xor_of s (xor_of (xor_of p d) n)) regrouped
    ∙ xor_of-assoc zero_sector (xor_of (xor_of p d) n) (xor_of (xor_of p d) n)
    ∙ ap (λ s. xor_of zero_sector s) (xor_of-self (xor_of (xor_of p d) n))
    ∙ xor_of-zero zero_sector length-zero_sector
  where
    regrouped : xor_of (xor_of (xor_of zero_sector d) n) p ≡ xor_of zero_sector (xor_of (xor_of p d) n)
    regrouped =
        xor_of-comm (xor_of (xor_of zero_sector d) n) p
        ∙ ap (λ s. xor_of p s) (xor_of-assoc zero_sector d n)
        ∙ sym (xor_of-assoc p zero_sector (xor_of d n))
        ∙ ap (λ s. xor_of s (xor_of d n)) (xor_of-comm p zero_sector)
        ∙ xor_of-assoc zero_sector p (xor_of d n)
        ∙ ap (λ s. xor_of zero_sector s) (sym (xor_of-assoc p d n))

-- a sound row stays sound where one sector is replaced and another, the parity, takes the difference
pub sound_after_delta : (row : List (List ℕ)) (data_place parity_place : ℕ) (new : List ℕ) → data_place < length row → parity_place < length row
    → data_place ≢ parity_place → IsSoundRow row
    → IsSoundRow (set (set row data_place new) parity_place (xor_of (xor_of (get_or row parity_place []) (get_or row data_place [])) new))
sound_after_delta row data_place parity_place new data_within parity_within apart sound =
    let d = get_or row data_place [] in
    let p = get_or row parity_place [] in
    let changed = set row data_place new in
    let within : parity_place < length changed = omega (arith, length-set row data_place new) in
    let still : get_or changed parity_place [] ≡ p = get_or-set_other row data_place parity_place new [] (λ same. apart (sym same)) in
    let q = xor_of (xor_of p d) new in
    xor_of_all-set changed parity_place q within
    ∙ ap (λ s. xor_of (xor_of (xor_of_all changed) s) q) still
    ∙ ap (λ s. xor_of (xor_of s p) q) (xor_of_all-set row data_place new data_within ∙ ap (λ s. xor_of (xor_of s d) new) sound)
    ∙ settled d new p
