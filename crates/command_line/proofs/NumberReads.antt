-- What `get_one` reads of a text that passed a range of numbers.
use Rattle.std.proofs.Common.{◌≡◌, ◌∙◌, ◌==◌, ◌<◌, ◌≤◌, ◌^◌, inl, inr, ap, ℕ, Bool, true, false, List, [], ◌∷◌, Option, Some, None, cond, drop, refl, sym}
use Rattle.std.proofs.Common.{subst}
use Rattle.std.proofs.Common.{arith}
use Rattle.std.specs.Prelude.{IsSome, pos, unwrap_or, Ok, Err, Result}
use Rattle.std.specs.Str.Parse.{ExplainsUnsignedError, HasUnsignedDigitsIfOk, IsNumeral, ParsesUnsigned, digits_value, starts_with_minus, without_leading_plus}
use Rattle.std.specs.declared.num.ParseIntError.{ParseIntError}
use Rattle.std.proofs.lemmas.Bool.{ne_eqb}
use Rattle.std.proofs.lemmas.Int.{ints}
use Rattle.std.proofs.lemmas.Str.Parse.{digit_from_value}
use Rattle.clap.specs.Lexer.{without_minus}
use Rattle.clap.specs.Matches.{ReadsOne, one_text}
use Rattle.clap.specs.Values.{IsSignedIn, IsUnsignedIn}
use Rattle.clap.specs.Walk.{Row, Text, first_of, rows_of}
use Rattle.clap.proofs.WalkLemmas.{one_text-rows}
use Rattle.clap.specs.declared.parser.matches.Found.{Found}
use Rattle.command_line.specs.FoundRows.{HasCountOrNone, HasNumberTo, HasNumberToOrNone}
use Rattle.command_line.specs.Invocations.{HasCount, HasNumber, HasNumberOr, Spells}

without_minus_by : (t : Text) → without_minus t ≡ cond (starts_with_minus t) (drop 1 t) t
without_minus_by [] = refl
without_minus_by (x ∷ xs) = go (x == 45)
  where
    go : (b : Bool) → unwrap_or (cond b (Some xs) None) (x ∷ xs) ≡ cond b xs (x ∷ xs)
    go true = refl
    go false = refl

pub no_plus : (ds : Text) → IsNumeral 10 ds → without_leading_plus ds ≡ ds
no_plus [] h = refl
no_plus (d ∷ ds) h =
    let plus : (d == 43) ≡ false = ne_eqb _ _ (λ e. omega (arith, digit_from_value d h.1.0)) in
    ap (λ (b : Bool). drop (cond b 1 0) (d ∷ ds)) plus

-- what a text is read as at an unsigned type of k bits
abbrev pub Parses : ℕ → Text → Result ℕ ParseIntError → Type 0
Parses k t r = ParsesUnsigned k 10 t r × ExplainsUnsignedError 10 t r × HasUnsignedDigitsIfOk t r

-- the text reads as the number that it spells
spelled : (k most : ℕ) (t : Text) (r : Option ℕ) → ReadsOne (Parses k) (without_minus t) r → most < 2 ^ k → IsSignedIn (pos 0) (pos most) t
    → (n : ℕ) × (r ≡ Some n) × Spells t n
spelled k most t r read fits passed = go (starts_with_minus t) refl r (subst (λ (u : Text). ReadsOne (Parses k) u r) (without_minus_by t) read)
  where
    go : (b : Bool) → starts_with_minus t ≡ b → (o : Option ℕ) → ReadsOne (Parses k) (cond (starts_with_minus t) (drop 1 t) t) o
        → (n : ℕ) × (o ≡ Some n) × Spells t n
    go true minus (Some v) h =
        let low_ok = rw minus at passed.2 in
        let numeral : IsNumeral 10 (drop 1 t) = rw minus at passed.0 in
        let parsed : Parses k (drop 1 t) (Ok v) = rw minus at h in
        let is : v ≡ digits_value 10 (drop 1 t) = parsed.0.1 ∙ ap (digits_value 10) (no_plus (drop 1 t) numeral) in
        let zero : digits_value 10 (drop 1 t) ≡ 0 = omega (arith, ints) in
        (v, refl, rw (minus, is, zero) refl)
    go true minus None h =
        let low_ok = rw minus at passed.2 in
        let numeral : IsNumeral 10 (drop 1 t) = rw minus at passed.0 in
        let same = no_plus (drop 1 t) numeral in
        let small : digits_value 10 (drop 1 t) < 2 ^ k = omega (arith, ints) in
        let parsed : Parses k (drop 1 t) (Err h.0) = rw minus at h.1 in
        absurd (parsed.0 (rw same numeral, rw same small))
    go false minus (Some v) h =
        let parsed : Parses k t (Ok v) = rw minus at h in
        (v, refl, rw (minus, parsed.0.1) refl)
    go false minus None h =
        let high_ok = rw minus at passed.3 in
        let numeral = rw minus at passed.0 in
        let parsed : Parses k t (Err h.0) = rw minus at h.1 in
        absurd (parsed.0 (numeral, omega (arith, ints)))

module _ (k most : ℕ) (found : Found) (name : Text) (r : Option ℕ) (has : HasNumberTo (rows_of found) name most)
    (reads : (t : Text) → one_text found name ≡ Some t → ReadsOne (Parses k) t r) (fits : most < 2 ^ k) where
  number : (n : ℕ) × (r ≡ Some n) × Spells has.0 n
  number = spelled k most has.0 r (reads (without_minus has.0) (one_text-rows found name ∙ has.2)) fits has.3

  -- the argument has a number
  pub number_some : IsSome r
  number_some = rw number.1 refl

  -- which is the one that its text spells
  pub number_value : (n : ℕ) → r ≡ Some n → HasNumber (rows_of found) name n
  number_value n is =
      let same : n ≡ number.0 = ap (λ (o : Option ℕ). unwrap_or o 0) (sym is ∙ number.1) in
      (has.0, has.1, rw same number.2)

-- a number that may be left out is one where it is given
pub number_given : (rows : List Row) (name : Text) (most : ℕ) → HasNumberToOrNone rows name most → IsSome (first_of name rows) → HasNumberTo rows name most
number_given rows name most (inl none) some = let never = rw none.0 at some in cc
number_given rows name most (inr has) some = has

-- it is the absent one where it is left out
pub number_or : (k most absent : ℕ) (found : Found) (name : Text) (r : Option ℕ) → HasNumberToOrNone (rows_of found) name most
    → (one_text found name ≡ None → r ≡ None) → ((t : Text) → one_text found name ≡ Some t → ReadsOne (Parses k) t r) → most < 2 ^ k
    → HasNumberOr (rows_of found) name absent (unwrap_or r absent)
number_or k most absent found name r (inl out) none reads fits = rw (none (one_text-rows found name ∙ out.1)) (inl (out.0, refl))
number_or k most absent found name r (inr has) none reads fits =
    let n = number k most found name r has reads fits in
    rw n.1 (inr (has.0, has.1, n.2))

-- ---- a number of 64 bits from 1, which may be left out

no_minus : (t : Text) → IsNumeral 10 (without_leading_plus t) → starts_with_minus t ≡ false
no_minus [] h = refl
no_minus (x ∷ xs) h = ne_eqb x 45 (λ is.
    let plus : (x == 43) ≡ false = rw is refl in
    let numeral : IsNumeral 10 (x ∷ xs) = rw plus at h in
    omega (arith, digit_from_value x numeral.1.0, is))

counted : (t : Text) (r : Option ℕ) → ReadsOne (Parses 64) t r → IsUnsignedIn 1 18446744073709551615 t → (n : ℕ) × (r ≡ Some n) × Spells t n × (1 ≤ n)
counted t (Some v) h passed =
    let is : v ≡ digits_value 10 (without_leading_plus t) = h.0.1 in
    (v, refl, rw (no_minus t passed.0, is) refl, omega (arith, is, passed.2))
counted t None h passed = absurd (h.1.0 (passed.0, passed.1))

pub count_value : (found : Found) (name : Text) (r : Option ℕ) → HasCountOrNone (rows_of found) name → (one_text found name ≡ None → r ≡ None)
    → ((t : Text) → one_text found name ≡ Some t → ReadsOne (Parses 64) t r) → HasCount (rows_of found) name r
count_value found name r has none reads = elim has [
  | inl left ↦ rw (none (one_text-rows found name ∙ left.1)) left.0
  | inr given ↦
      let number = counted given.0 r (reads given.0 (one_text-rows found name ∙ given.2)) given.3 in
      rw number.1 ((given.0, given.1, number.2), number.3)
]
