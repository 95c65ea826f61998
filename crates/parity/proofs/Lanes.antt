-- Sectors in vectors, one vector after the other.
use Rattle.std.proofs.Common.{◌≡◌, ℕ, zero, suc, ◌+◌, ◌*◌, ◌<◌, ◌≤◌, List, [], ◌∷◌, ◌++◌, length, get_or, set, take, drop, replicate, refl, sym, ap, ◌∙◌, arith}
use Rattle.std.proofs.Common.{append-nil, append_assoc, take-add, take-append-drop, length-drop, length-take-le}
use Rattle.std.specs.Prelude.{bit_xor, bit_or}
use Rattle.std.specs.Simd.Lanes.{chunk, put_chunk, zip2, fold_l}
use Rattle.std.proofs.lemmas.List.{take_more, take_more_set, drop-append-le, replicate-append-replicate}
use Rattle.std.proofs.lemmas.Nat.{le_or_l, le_or_r}
use Rattle.std.proofs.lemmas.Simd.{length-zip2, get_or-zip2, put_chunk_is}
use borrow.Rule.Slice.PartMut.{put_mid, mid_of}
use Rattle.parity.specs.Lanes.{sector_in}
use Rattle.parity.specs.Xor.{xor_of, zero_sector}
use Rattle.parity.proofs.Laws.{xor_of_is, zero_sector-replicate}

-- the bytes of two rows of vectors
sector_in-append : (xs ys : List (List ℕ)) → sector_in (xs ++ ys) ≡ sector_in xs ++ sector_in ys
sector_in-append [] ys = refl
sector_in-append (x ∷ xs) ys = ap (λ s. x ++ s) (sector_in-append xs ys) ∙ sym (append_assoc x (sector_in xs) (sector_in ys))

-- one vector after others
sector_in-push : (xs : List (List ℕ)) (x : List ℕ) → sector_in (xs ++ x ∷ []) ≡ sector_in xs ++ x
sector_in-push xs x = sector_in-append xs (x ∷ []) ∙ ap (λ s. sector_in xs ++ s) (append-nil x)

-- the bytes of the first vectors, with one vector more
pub sector_in-take : (xs : List (List ℕ)) (k : ℕ) → k < length xs → sector_in (take (k + 1) xs) ≡ sector_in (take k xs) ++ get_or xs k []
sector_in-take xs k within = ap sector_in (take_more xs k [] within) ∙ sector_in-push (take k xs) (get_or xs k [])

-- the same, where that vector is a new one
pub sector_in-take-set : (xs : List (List ℕ)) (k : ℕ) (x : List ℕ) → k < length xs → sector_in (take (k + 1) (set xs k x)) ≡ sector_in (take k xs) ++ x
sector_in-take-set xs k x within = ap sector_in (take_more_set xs k x within) ∙ sector_in-push (take k xs) x

-- the bytes of a sector up to a part, with one part more
pub take_more_chunk : (s : List ℕ) (k : ℕ) → take (64 * (k + 1)) s ≡ take (64 * k) s ++ chunk (64 * k) 64 s
take_more_chunk s k =
    let next : 64 * (k + 1) ≡ 64 * k + 64 = omega arith in
    ap (λ n. take n s) next ∙ take-add (64 * k) 64 s

-- XORs of bytes, followed by XORs of bytes
pub zip2-append : (xs ys : List ℕ) → length xs ≡ length ys → (us vs : List ℕ) → zip2 bit_xor (xs ++ us) (ys ++ vs) ≡ zip2 bit_xor xs ys ++ zip2 bit_xor us vs
zip2-append [] [] same us vs = refl
zip2-append [] (y ∷ ys) same us vs = absurd (omega arith)
zip2-append (x ∷ xs) [] same us vs = absurd (omega arith)
zip2-append (x ∷ xs) (y ∷ ys) same us vs = ap (λ s. bit_xor x y ∷ s) (zip2-append xs ys (omega arith) us vs)

-- the XORs of the bytes of two sectors are their XOR
pub xor_of-zip2 : (a b : List ℕ) → length a ≡ 512 → length b ≡ 512 → zip2 bit_xor a b ≡ xor_of a b
xor_of-zip2 a b long_a long_b =
    xor_of_is a b (zip2 bit_xor a b) (length-zip2 bit_xor a b (omega arith) ∙ long_a)
    (λ k within. get_or-zip2 bit_xor a b k 0 0 0 (omega arith) (omega arith))

-- a vector stored at the front of the rest of a sector is stored at that place of the sector
pub put_chunk_in_rest : (at n : ℕ) (s v : List ℕ) → length v ≤ n → at + n ≤ length s → put_mid at n s (put_chunk 0 (mid_of at n s) v) ≡ put_chunk at s v
put_chunk_in_rest at n s v short within =
    let rest = drop at s in
    let part = take n rest in
    let long : length part ≡ n = length-take-le n rest (omega (arith, length-drop at s)) in
    let beyond : drop (length v) part ++ drop n rest ≡ drop (length v) rest =
    sym (drop-append-le (length v) part (drop n rest) (omega (arith, long))) ∙ ap (drop (length v)) (take-append-drop n rest) in
    ap (λ t. take at s ++ (t ++ drop n rest)) (put_chunk_is 0 part v (omega (arith, long)))
    ∙ ap (λ t. take at s ++ t) (append_assoc v (drop (length v) part) (drop n rest) ∙ ap (λ t. v ++ t) beyond)
    ∙ sym (put_chunk_is at s v (omega arith))

-- vectors of zeros
sector_in-replicate : (n : ℕ) → sector_in (replicate n (replicate 64 0)) ≡ replicate (64 * n) 0
sector_in-replicate zero = refl
sector_in-replicate (suc n) =
    let next : 64 + 64 * n ≡ 64 * suc n = omega arith in
    ap (λ s. replicate 64 0 ++ s) (sector_in-replicate n) ∙ replicate-append-replicate 64 (64 * n) 0 ∙ ap (λ m. replicate m 0) next

-- eight vectors of zeros are the zero sector
pub sector_in-zeros : sector_in (replicate 8 (replicate 64 0)) ≡ zero_sector
sector_in-zeros = sector_in-replicate 8 ∙ zero_sector-replicate 512 refl

-- a byte that is 0 before bytes that are
zeros_after : (x : ℕ) (xs : List ℕ) → x ≡ 0 → ((i : ℕ) → i < length xs → get_or xs i 0 ≡ 0) → (i : ℕ) → i < length (x ∷ xs) → get_or (x ∷ xs) i 0 ≡ 0
zeros_after x xs first each zero within = first
zeros_after x xs first each (suc i) within = each i (omega (arith, within))

-- where the union of bytes is 0, each of them is
pub zeros_from_union : (a : ℕ) (xs : List ℕ) → fold_l bit_or a xs ≡ 0 → (a ≡ 0) × ((i : ℕ) → i < length xs → get_or xs i 0 ≡ 0)
zeros_from_union a [] none = (none, λ i within. absurd (omega (arith, within)))
zeros_from_union a (x ∷ xs) none =
    let rest = zeros_from_union (bit_or a x) xs none in
    (omega (arith, le_or_l a x, rest.0), zeros_after x xs (omega (arith, le_or_r a x, rest.0)) rest.1)

-- where each byte is 0, their union is
pub union_of_zeros : (xs : List ℕ) → ((i : ℕ) → i < length xs → get_or xs i 0 ≡ 0) → fold_l bit_or 0 xs ≡ 0
union_of_zeros [] each = refl
union_of_zeros (x ∷ xs) each = ap (λ n. fold_l bit_or (bit_or 0 n) xs) (each 0 (omega arith)) ∙ union_of_zeros xs (λ i within. each (suc i) (omega arith))
