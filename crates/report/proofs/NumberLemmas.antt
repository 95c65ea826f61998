-- Facts on the numbers that digits spell.
use Rattle.std.proofs.Common.{◌≡◌, ◌≢◌, ℕ, ◌+◌, ◌-◌, ◌*◌, ◌^◌, ◌<◌, ◌≤◌, ◌⊎◌, inl, inr, List, [], ◌∷◌, ◌++◌, length, get_or, take, drop, fold, refl, sym, ap}
use Rattle.std.proofs.Common.{◌∙◌, arith}
use Rattle.std.proofs.lemmas.Bool.{cases_eq}
use Rattle.std.proofs.lemmas.List.{take-append-drop, take_all}
use Rattle.std.proofs.lemmas.List.Sums.{fold_more}
use Rattle.std.specs.Char.{IsAsciiDigit}
use Rattle.report.specs.Grammar.{IsNumber, value_of}

-- one digit more
abbrev pub with_digit : ℕ → ℕ → ℕ
with_digit value digit = value * 10 + (digit - 48)

-- further digits make no number smaller
fold-at_least : (digits : List ℕ) (value : ℕ) → value ≤ fold with_digit value digits
fold-at_least [] value = omega arith
fold-at_least (digit ∷ digits) value =
    let more = fold-at_least digits (with_digit value digit) in
    omega arith

fold-append : (front rest : List ℕ) (value : ℕ) → fold with_digit value (front ++ rest) ≡ fold with_digit (fold with_digit value front) rest
fold-append [] rest value = refl
fold-append (digit ∷ front) rest value = fold-append front rest (with_digit value digit)

-- the digits in front spell no larger number than all of them
pub value_of-take : (field : List ℕ) (i : ℕ) → value_of (take i field) ≤ value_of field
value_of-take field i =
    let whole = fold-append (take i field) (drop i field) 0 in
    let more = fold-at_least (drop i field) (value_of (take i field)) in
    let parts = ap value_of (take-append-drop i field) in
    omega arith

-- the bytes in front are digits, and this is the number that they spell
pub record SpellsSoFar (field : List ℕ) (count value : ℕ) : Type 0 where
  pub front : value ≡ value_of (take count field)
  pub digits : (k d : ℕ) → k < count → IsAsciiDigit (get_or field k d)
  pub small : value < 2 ^ 32

-- no number below 2 ^ 32 begins with the digits of a larger one
pub too_large : (field : List ℕ) (i value : ℕ) → SpellsSoFar field i value → i < length field
    → 2 ^ 32 ≤ value * 10 + (get_or field i 0 - 48) → (n : ℕ) → IsNumber field n → ⊥
too_large field i value so_far within large n number =
    let more = fold_more with_digit 0 field i 0 within in
    let least = value_of-take field (i + 1) in
    let front = so_far.front in
    let read = ap (λ (v : ℕ). with_digit v (get_or field i 0)) front in
    let whole = number.value in
    let small = number.small in
    omega arith

no_leading_zero : (field : List ℕ) → 0 < length field → (length field ≤ 1) ⊎ (get_or field 0 0 ≢ 48)
    → (field ≡ 48 ∷ []) ⊎ (get_or field 0 0 ≢ 48)
no_leading_zero [] some zero = absurd (omega arith)
no_leading_zero (digit ∷ []) some zero =
    elim (cases_eq digit 48) [ inl here ↦ inl (ap (λ (d : ℕ). d ∷ []) here) | inr other ↦ inr other ]
no_leading_zero (digit ∷ next ∷ rest) some zero =
    elim zero [ inl short ↦ absurd (omega arith) | inr other ↦ inr other ]

-- all of the field is read
pub IsNumber-read : (field : List ℕ) (i value : ℕ) → SpellsSoFar field i value → length field ≤ i → 0 < length field
    → (length field ≤ 1) ⊎ (get_or field 0 0 ≢ 48) → IsNumber field value
IsNumber-read field i value so_far all some zero = record {
  some = λ none. let e = ap length none in absurd (omega arith);
  digits = λ k d lt. so_far.digits k d (omega arith);
  no_zero = no_leading_zero field some zero;
  value = sym (so_far.front ∙ ap value_of (take_all i field all));
  small = so_far.small;
}
