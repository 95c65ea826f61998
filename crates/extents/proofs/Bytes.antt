-- Bytes that are written field by field over zeros.
use Rattle.std.proofs.Common.{◌≡◌, ℕ, ◌+◌, ◌-◌, ◌<◌, ◌≤◌, List, [], ◌∷◌, ◌++◌, length, take, drop, set, replicate, refl, sym, ap, ◌∙◌, append_assoc, arith}
use Rattle.std.proofs.lemmas.List.{length-append, length-take-le, length-drop, length-replicate, replicate-append-replicate, take_at, drop_at, drop-replicate}
use Rattle.std.proofs.lemmas.List.{append-nil}
use borrow.Rule.Slice.PartMut.{put_mid}
use Rattle.extents.specs.TableSpelling.{zeros}

-- so many zeros
pub length-zeros : (n : ℕ) → length (zeros n) ≡ n
unfolding zeros
length-zeros n = length-replicate n 0

-- what is zeros is as long
pub long_zeros : (n : ℕ) (xs : List ℕ) → xs ≡ zeros n → length xs ≡ n
long_zeros n xs is = ap length is ∙ length-zeros n

zeros-add : (m n : ℕ) → zeros m ++ zeros n ≡ zeros (m + n)
unfolding zeros
zeros-add m n = replicate-append-replicate m n 0

pub drop-zeros : (m n : ℕ) → drop m (zeros n) ≡ zeros (n - m)
unfolding zeros
drop-zeros m n = drop-replicate m n 0

-- what `fill` leaves
pub filled : (n m : ℕ) → n ≡ m → replicate n 0 ≡ zeros m
unfolding zeros
filled n m same = ap (λ (k : ℕ). replicate k 0) same

-- bytes of which the first are written, and the rest are zeros
unfoldable pub started : ℕ → List ℕ → List ℕ
started size front = front ++ zeros (size - length front)

-- nothing is written
pub started_none : (size : ℕ) → zeros size ≡ started size []
unfolding started
started_none size = ap zeros (let e : size ≡ size - 0 = omega arith in e)

-- the next bytes are written
pub started_more : (size at n : ℕ) (front field bytes : List ℕ) → length front ≡ at → length field ≡ n → at + n ≤ size → bytes ≡ started size front
    → put_mid at n bytes field ≡ started size (front ++ field)
unfolding started
started_more size at n front field bytes front_long field_long within is =
    let front_is : take at bytes ≡ front = ap (take at) is ∙ take_at front (zeros (size - length front)) at front_long in
    let rest_is : drop at bytes ≡ zeros (size - length front) = ap (drop at) is ∙ drop_at front (zeros (size - length front)) at front_long in
    let left : drop n (drop at bytes) ≡ zeros (size - length (front ++ field)) =
    ap (drop n) rest_is ∙ drop-zeros n (size - length front) ∙ ap zeros (omega (arith, length-append front field)) in
    ap (λ (xs : List ℕ). xs ++ (field ++ drop n (drop at bytes))) front_is
    ∙ ap (λ (xs : List ℕ). front ++ (field ++ xs)) left
    ∙ sym (append_assoc front field (zeros (size - length (front ++ field))))

-- the next bytes are zeros
pub started_zeros : (size n : ℕ) (front : List ℕ) → length front + n ≤ size → started size front ≡ started size (front ++ zeros n)
unfolding started
started_zeros size n front within =
    ap (λ (k : ℕ). front ++ zeros k) (let e : size - length front ≡ n + (size - length (front ++ zeros n)) =
    omega (arith, length-append front (zeros n), length-zeros n) in e)
    ∙ ap (λ (xs : List ℕ). front ++ xs) (sym (zeros-add n (size - length (front ++ zeros n))))
    ∙ sym (append_assoc front (zeros n) (zeros (size - length (front ++ zeros n))))

-- all is written
pub started_all : (size : ℕ) (front : List ℕ) → length front ≡ size → started size front ≡ front
unfolding started zeros
started_all size front long =
    let none : size - length front ≡ 0 = omega arith in
    ap (λ (k : ℕ). front ++ replicate k 0) none ∙ append-nil front

-- a part that is put back leaves the length
pub length-put_mid : {X : Type 0} (at n : ℕ) (xs ys : List X) → at + n ≤ length xs → length ys ≡ n → length (put_mid at n xs ys) ≡ length xs
length-put_mid at n xs ys within long =
    omega (
      arith,
      length-append (take at xs) (ys ++ drop n (drop at xs)),
      length-append ys (drop n (drop at xs)),
      length-take-le at xs (omega arith),
      length-drop at xs,
      length-drop n (drop at xs),
    )

-- a front that is put back is the front
pub front_back : (n : ℕ) (xs ys : List ℕ) → length ys ≡ n → take n (ys ++ drop n xs) ≡ ys
front_back n xs ys long = take_at ys (drop n xs) n long

-- the first byte is written
pub set_first : (xs : List ℕ) (byte : ℕ) → 0 < length xs → set xs 0 byte ≡ put_mid 0 1 xs (byte ∷ [])
set_first [] byte some = absurd (omega arith)
set_first (x ∷ xs) byte some = refl
