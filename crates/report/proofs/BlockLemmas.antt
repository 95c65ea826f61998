-- Facts on the fields that spell blocks.
use Rattle.std.proofs.Common.{◌≡◌, ◌≢◌, ℕ, ◌*◌, inl, inr, List, [], ◌∷◌, ◌++◌, length, get_or, replicate, Result, Ok, Err, Some, None, true, false, refl, sym}
use Rattle.std.proofs.Common.{ap, ◌∙◌, arith, length-append}
use Rattle.std.specs.Prelude.{All, MatchResult, codes, is_ok}
use Rattle.std.proofs.lemmas.Bool.{both_ways}
use Rattle.std.proofs.lemmas.List.{append_cancel_right}
use Rattle.std.specs.Result.{result_ok}
use Rattle.std.proofs.lemmas.List.Elements.{All-head, All-tail}
use Rattle.hex.specs.Hex.{decode_of, decode_sized, is_hex_digit}
use Rattle.hex.specs.declared.error.FromHexError.{FromHexError}
use Rattle.hex.proofs.HexLemmas.{decode_of-ok, decode_sized-ok, decode_sized-twice}
use Rattle.volume_table.specs.Volumes.{Block}
use Rattle.report.specs.Grammar.{AreBlocks, IsBlock, IsRepeated}

-- what follows the digits of the short form
abbrev pub ending : List ℕ
ending = codes "*512"

-- the value of a result, or nothing
abbrev bytes_of : Result (List ℕ) FromHexError → List ℕ
bytes_of (Ok bytes) = bytes
bytes_of (Err e) = []

-- what the long form needs
length_long : (field : List ℕ) (block : Block) → decode_of field ≡ Ok block → length block ≡ 512 → length field ≡ 2 * 512
length_long field block h full = let digits = decode_of-ok field block h in omega (arith, digits.2)

-- what the short form needs
length_short : (field : List ℕ) (block : Block) → IsRepeated field block → length field ≡ 6
length_short field block h =
    let digits = decode_of-ok h.digits (h.byte ∷ []) h.decoded in
    let two = digits.2 in
    let whole = ap length h.spelled ∙ length-append h.digits ending in
    omega arith

-- what holds of each element holds of those in the back
All-back : (P : ℕ → Type 0) (xs ys : List ℕ) → All P (xs ++ ys) → All P ys
All-back P [] ys h = h
All-back P (x ∷ xs) ys h = All-back P xs ys (All-tail P x (xs ++ ys) h)

-- the long form never ends like the short one
long_other : (digits : List ℕ) (block : Block) → decode_of (digits ++ ending) ≡ Ok block → ⊥
long_other digits block h =
    let digit : ℕ → Type 0 = λ byte. is_hex_digit byte ≡ true in
    let all = All-back digit digits ending (decode_of-ok (digits ++ ending) block h).1 in
    let star : is_hex_digit 42 ≡ true = All-head digit 42 (codes "512") all in
    cc

bytes_ok : (r : Result (List ℕ) FromHexError) (bytes : List ℕ) → Some bytes ≡ result_ok r → r ≡ Ok bytes
bytes_ok (Ok found) bytes h = cc
bytes_ok (Err e) bytes h = cc

only_byte : (bytes : List ℕ) → length bytes ≡ 1 → bytes ≡ get_or bytes 0 0 ∷ []
only_byte [] one = absurd (omega arith)
only_byte (byte ∷ []) one = refl
only_byte (byte ∷ next ∷ rest) one = absurd (omega arith)

-- a text that decodes into one byte
pub decoded_byte : (digits bytes : List ℕ) (r : Result (List ℕ) FromHexError) → r ≡ decode_sized digits 1 → Some bytes ≡ result_ok r
    → decode_sized digits 1 ≡ Ok (get_or bytes 0 0 ∷ [])
decoded_byte digits bytes r made h =
    let ok : decode_sized digits 1 ≡ Ok bytes = sym made ∙ bytes_ok r bytes h in
    let two = decode_sized-ok digits 1 bytes ok in
    let len = (decode_of-ok digits bytes (sym (decode_sized-twice digits 1 two) ∙ ok)).2 in
    ok ∙ ap (λ (bs : List ℕ). Ok bs) (only_byte bytes (omega arith))

-- a field of two digits and the ending
pub IsBlock-repeated : (field digits : List ℕ) (byte : ℕ) → field ≡ digits ++ ending → decode_sized digits 1 ≡ Ok (byte ∷ [])
    → IsBlock field (replicate 512 byte)
IsBlock-repeated field digits byte spelled h =
    inr (record {
      digits = digits;
      byte = byte;
      spelled = spelled;
      decoded = sym (decode_sized-twice digits 1 (decode_sized-ok digits 1 (byte ∷ []) h)) ∙ h;
      filled = refl;
    })

-- a field with the ending whose other bytes are no two digits
pub not_repeated : (field digits : List ℕ) → field ≡ digits ++ ending → is_ok (decode_sized digits 1) ≡ false
    → (block : Block) → IsBlock field block → ⊥
not_repeated field digits spelled h block is =
    elim is [
      | inl long ↦ long_other digits block (rw spelled at long.0)
      | inr short ↦
          let same : digits ≡ short.digits = append_cancel_right digits short.digits ending (sym spelled ∙ short.spelled) in
          let two = (decode_of-ok short.digits (short.byte ∷ []) short.decoded).2 in
          let decoded : decode_sized digits 1 ≡ Ok (short.byte ∷ []) = rw same (decode_sized-twice short.digits 1 two ∙ short.decoded) in
          both_ways _ h (ap is_ok decoded)
    ]

-- a field of 1,024 digits
pub IsBlock-digits : (field : List ℕ) (block : Block) → decode_sized field 512 ≡ Ok block → IsBlock field block
IsBlock-digits field block h =
    let len = decode_sized-ok field 512 block h in
    let decoded : decode_of field ≡ Ok block = sym (decode_sized-twice field 512 len) ∙ h in
    let digits = decode_of-ok field block decoded in
    inl (decoded, omega (arith, digits.2))

-- a field without the ending that is no 1,024 digits
pub not_digits : (field : List ℕ) → ((front : List ℕ) → field ≢ front ++ ending) → is_ok (decode_sized field 512) ≡ false
    → (block : Block) → IsBlock field block → ⊥
not_digits field other h block is =
    elim is [
      | inl long ↦
          let decoded = decode_sized-twice field 512 (length_long field block long.0 long.1) ∙ long.0 in
          both_ways _ h (ap is_ok decoded)
      | inr short ↦ other short.digits short.spelled
    ]

-- a decoding that answers no `Ok` has no bytes
pub not_decoded : (r : Result (List ℕ) FromHexError) (answer : Result (Unit {0}) FromHexError) (new : List ℕ)
    → MatchResult r (λ bytes. (answer ≡ Ok tt) × (new ≡ bytes)) (λ e. answer ≡ Err e) → result_ok answer ≡ None → is_ok r ≡ false
not_decoded (Ok bytes) answer new h none = let some = ap result_ok h.0 in cc
not_decoded (Err e) answer new h none = refl

-- a field is one block at most
pub IsBlock-one : (field : List ℕ) (a b : Block) → IsBlock field a → IsBlock field b → a ≡ b
IsBlock-one field a b ha hb =
    elim ha [
      | inl la ↦
          elim hb [
            | inl lb ↦ ap bytes_of (sym la.0 ∙ lb.0)
            | inr sb ↦ absurd (omega (arith, length_long field a la.0 la.1, length_short field b sb))
          ]
      | inr sa ↦
          elim hb [
            | inl lb ↦ absurd (omega (arith, length_long field b lb.0 lb.1, length_short field a sa))
            | inr sb ↦
                let same : sa.digits ≡ sb.digits = append_cancel_right sa.digits sb.digits ending (sym sa.spelled ∙ sb.spelled) in
                let bytes : sa.byte ∷ [] ≡ sb.byte ∷ [] = ap bytes_of (sym sa.decoded ∙ ap decode_of same ∙ sb.decoded) in
                sa.filled ∙ ap (λ (bs : List ℕ). replicate 512 (get_or bs 0 0)) bytes ∙ sym sb.filled
          ]
    ]

-- fields are one list of blocks at most
pub AreBlocks-one : (fields : List (List ℕ)) (xs ys : List Block) → AreBlocks fields xs → AreBlocks fields ys → xs ≡ ys
AreBlocks-one [] [] [] ha hb = refl
AreBlocks-one (field ∷ fields) (a ∷ xs) (b ∷ ys) ha hb =
    let first = IsBlock-one field a b ha.0 hb.0 in
    let rest = AreBlocks-one fields xs ys ha.1 hb.1 in
    cc
AreBlocks-one [] (a ∷ xs) ys ha hb = absurd ha
AreBlocks-one [] [] (b ∷ ys) ha hb = absurd hb
AreBlocks-one (field ∷ fields) [] ys ha hb = absurd ha
AreBlocks-one (field ∷ fields) (a ∷ xs) [] ha hb = absurd hb
