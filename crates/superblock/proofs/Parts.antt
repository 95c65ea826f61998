-- Fields that stand one after the other in a list of bytes.
use Rattle.std.proofs.Common.{◌≡◌, ℕ, suc, ◌+◌, ◌-◌, ◌<◌, ◌≤◌, ◌^◌, List, [], ◌∷◌, ◌++◌, length, get_or, set, take, drop, refl, sym, ap, ◌∙◌, append_assoc}
use Rattle.std.proofs.Common.{arith}
use Rattle.std.proofs.lemmas.List.{length-append, length-take, length-drop, length-set, take_all, take_at, drop_at, get_or_at, set_split, append-nil}
use Rattle.byteorder.specs.Endian.{little_bytes, little_number}
use Rattle.byteorder.specs.Numbers.{little_number-reads_back, little_from-take, length-bytes_low_first}
use borrow.Rule.Slice.PartMut.{put_mid}

-- ---- writing

-- a sector, of which the first n bytes are these
pub record Begins (n : ℕ) (bytes front : List ℕ) : Type 0 where
  pub long : length bytes ≡ 512
  pub front_is : take n bytes ≡ front

-- a field is written after them, at the beginning of a part of the sector
pub begins_part : (n k m : ℕ) (bytes part field rest front : List ℕ) → Begins n bytes front → n + k ≤ 512 → length part ≡ k
    → part ≡ field ++ rest → n + length field ≡ m → Begins m (put_mid n k bytes part) (front ++ field)
begins_part n k m bytes part field rest front begins within part_long part_is ends =
    let front_long : length (take n bytes) ≡ n = omega (arith, length-take n bytes, begins.long) in
    let post = drop k (drop n bytes) in
    let regrouped : take n bytes ++ ((field ++ rest) ++ post) ≡ (take n bytes ++ field) ++ (rest ++ post) = simp append_assoc in
    record {
      long = omega (
        arith,
        length-append (take n bytes) (part ++ post),
        length-append part post,
        length-drop k (drop n bytes),
        length-drop n bytes,
        begins.long,
      );
      front_is =
          ap (λ (p : List ℕ). take m (take n bytes ++ (p ++ post))) part_is
          ∙ ap (λ (p : List ℕ). take m p) regrouped
          ∙ take_at (take n bytes ++ field) (rest ++ post) m (length-append (take n bytes) field ∙ omega arith)
          ∙ ap (λ (p : List ℕ). p ++ field) begins.front_is;
    }

-- one byte is written after them
pub begins_byte : (n m value : ℕ) (bytes front : List ℕ) → Begins n bytes front → n < 512 → n + 1 ≡ m → Begins m (set bytes n value) (front ++ value ∷ [])
begins_byte n m value bytes front begins within ends =
    let front_long : length (take n bytes) ≡ n = omega (arith, length-take n bytes, begins.long) in
    record {
      long = length-set bytes n value ∙ begins.long;
      front_is =
          ap (λ (p : List ℕ). take m p) (set_split bytes n value (omega (arith, begins.long))
          ∙ sym (append_assoc (take n bytes) (value ∷ []) (drop (suc n) bytes)))
          ∙ take_at (take n bytes ++ value ∷ []) (drop (suc n) bytes) m (length-append (take n bytes) (value ∷ []) ∙ omega arith)
          ∙ ap (λ (p : List ℕ). p ++ value ∷ []) begins.front_is;
    }

-- the first bytes are written
pub begins_first : (n : ℕ) (bytes part field : List ℕ) → length bytes ≡ 512 → n ≤ 512 → part ≡ field → length field ≡ n → Begins n (part ++ drop n bytes) field
begins_first n bytes part field long within part_is field_long = record {
  long = omega (arith, length-append part (drop n bytes), length-drop n bytes, ap length part_is);
  front_is = ap (λ (p : List ℕ). take n (p ++ drop n bytes)) part_is ∙ take_at field (drop n bytes) n field_long;
}

-- nothing is written yet
pub begins_with : (n : ℕ) (bytes : List ℕ) → length bytes ≡ 512 → Begins n bytes (take n bytes)
begins_with n bytes long = record { long = long; front_is = refl }

-- a field is written over a part of its length
pub begins_field : (n k m : ℕ) (bytes part field front : List ℕ) → Begins n bytes front → n + k ≡ m → m ≤ 512 → part ≡ field → length field ≡ k
    → Begins m (put_mid n k bytes part) (front ++ field)
begins_field n k m bytes part field front begins ends within part_is field_long =
    begins_part n k m bytes part field [] front begins (omega arith) (ap length part_is ∙ field_long) (part_is ∙ sym (append-nil field)) (omega arith)

-- a number is written at the beginning of all that follows
pub begins_number : (n k m width x : ℕ) (bytes part front : List ℕ) → Begins n bytes front → n + k ≡ 512 → width ≤ k → n + width ≡ m
    → part ≡ little_bytes width x ++ drop width (take k (drop n bytes)) → Begins m (put_mid n k bytes part) (front ++ little_bytes width x)
begins_number n k m width x bytes part front begins whole fits ends part_is =
    let rest = drop width (take k (drop n bytes)) in
    let number_long = length-bytes_low_first 0 width x in
    let rest_long : length rest ≡ k - width = omega (
      arith,
      length-drop width (take k (drop n bytes)),
      length-take k (drop n bytes),
      length-drop n bytes,
      begins.long,
    ) in
    begins_part n k m bytes part (little_bytes width x) rest front begins (omega arith)
    (ap length part_is ∙ length-append (little_bytes width x) rest ∙ omega arith) part_is (omega arith)

-- a part within the sector has its length
pub part_long : (n k : ℕ) (bytes front : List ℕ) → Begins n bytes front → n + k ≤ 512 → length (take k (drop n bytes)) ≡ k
part_long n k bytes front begins within = omega (arith, length-take k (drop n bytes), length-drop n bytes, begins.long)

-- the whole sector is known
pub begins_all : (bytes front : List ℕ) → Begins 512 bytes front → bytes ≡ front
begins_all bytes front begins = sym (take_all 512 bytes (omega (arith, begins.long))) ∙ begins.front_is

-- ---- reading

-- a field stands after n bytes of a list
pub record HasAt (n : ℕ) (bytes field : List ℕ) : Type 0 where
  pub front : List ℕ
  pub rest : List ℕ
  pub front_long : length front ≡ n
  pub parts : bytes ≡ front ++ (field ++ rest)

pub has_last : (n : ℕ) (front field : List ℕ) → length front ≡ n → HasAt n (front ++ field) field
has_last n front field long = record { front = front; rest = []; front_long = long; parts = ap (λ (p : List ℕ). front ++ p) (sym (append-nil field)) }

pub has_first : (field rest : List ℕ) → HasAt 0 (field ++ rest) field
has_first field rest = record { front = []; rest = rest; front_long = refl; parts = refl }

-- further bytes do not matter
pub has_left : (n : ℕ) (bytes field more : List ℕ) → HasAt n bytes field → HasAt n (bytes ++ more) field
has_left n bytes field more has = record {
  front = has.front;
  rest = has.rest ++ more;
  front_long = has.front_long;
  parts = ap (λ (p : List ℕ). p ++ more) has.parts ∙ simp append_assoc;
}

-- a field of a field
pub has_inner : (n m k : ℕ) (bytes field inner : List ℕ) → HasAt n bytes field → HasAt m field inner → n + m ≡ k → HasAt k bytes inner
has_inner n m k bytes field inner outer has ends = record {
  front = outer.front ++ has.front;
  rest = has.rest ++ outer.rest;
  front_long = length-append outer.front has.front ∙ omega (arith, outer.front_long, has.front_long);
  parts = outer.parts ∙ ap (λ (p : List ℕ). outer.front ++ (p ++ outer.rest)) has.parts ∙ simp append_assoc;
}

-- the number that a field spells
pub read_number : (n width x : ℕ) (bytes : List ℕ) → HasAt n bytes (little_bytes width x) → x < 256 ^ width → little_number width (drop n bytes) ≡ x
read_number n width x bytes has fits =
    ap (λ (p : List ℕ). little_number width (drop n p)) has.parts
    ∙ ap (λ (p : List ℕ). little_number width p) (drop_at has.front (little_bytes width x ++ has.rest) n has.front_long)
    ∙ little_number-reads_back width x has.rest fits

-- the byte at a place
pub read_byte : (n x : ℕ) (bytes : List ℕ) → HasAt n bytes (x ∷ []) → get_or bytes n 0 ≡ x
read_byte n x bytes has = ap (λ (p : List ℕ). get_or p n 0) has.parts ∙ get_or_at has.front x has.rest 0 n has.front_long

-- the bytes at a place
pub read_bytes : (n k : ℕ) (bytes field : List ℕ) → HasAt n bytes field → length field ≡ k → take k (drop n bytes) ≡ field
read_bytes n k bytes field has long =
    ap (λ (p : List ℕ). take k (drop n p)) has.parts
    ∙ ap (λ (p : List ℕ). take k p) (drop_at has.front (field ++ has.rest) n has.front_long)
    ∙ take_at field has.rest k long

pub length-little_bytes : (width x : ℕ) → length (little_bytes width x) ≡ width
length-little_bytes width x = length-bytes_low_first 0 width x

-- a number in a part is read alike from all that follows
pub part_number : (width n : ℕ) (bytes : List ℕ) → width ≤ n → little_number width (take n bytes) ≡ little_number width bytes
part_number width n bytes fits = little_from-take 0 width n bytes (omega arith)
