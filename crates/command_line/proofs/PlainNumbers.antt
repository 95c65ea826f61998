-- The decimal digits of a number stand as the value of an option of numbers.
use Rattle.std.proofs.Common.{inl, inr, ◌++◌, ◌≡◌, ◌<◌, ◌≤◌, ◌^◌, ℕ, true, false, [], ◌∷◌, arith, codes, refl}
use Rattle.std.specs.Prelude.{decimal, pos}
use Rattle.std.specs.Str.Parse.{IsNumeral, signed_digits_value, starts_with_minus, without_leading_plus, without_leading_sign}
use Rattle.std.proofs.lemmas.Bool.{ne_eqb}
use Rattle.std.proofs.lemmas.Fmt.{decimal_is_IsNumeral}
use Rattle.std.proofs.lemmas.Int.{ints}
use Rattle.std.proofs.lemmas.Str.Parse.{digit_from_value}
use Rattle.clap.specs.ValueTests.{accepts}
use Rattle.clap.specs.Values.{IsSignedIn, IsUnsignedIn}
use Rattle.clap.specs.Walk.{Text}
use Rattle.clap.specs.declared.builder.value_parser.ValueParser.{ValueParser}
use Rattle.clap.proofs.ValueTestLemmas.{Accepts-accepts}
use Rattle.command_line.specs.Commands.{from_one, up_to}
use Rattle.command_line.specs.Invocations.{Spells}
use Rattle.command_line.specs.Requests.{IsPlainWord}
use Rattle.command_line.specs.declared.Size.{Size}
use Rattle.command_line.specs.declared.Size.TheVariants.{Blocks, Most}
use Rattle.command_line.specs.Sizes.{IsAmount, IsRoom, SpellsUnits}
use Rattle.command_line.proofs.SizeTexts.{small_number}
use Rattle.command_line.proofs.NumberReads.{no_plus}
use Rattle.command_line.proofs.PlainSteps.{IsValue, other_first, value_from_first}

-- the text stands as a value, and passes this range
pub record IsNumberValue (range : ValueParser) (text : Text) : Type 0 where
  pub value : IsValue text
  pub passes : accepts false range text ≡ true

no_hyphen : (ds : Text) → IsNumeral 10 ds → starts_with_minus ds ≡ false
no_hyphen [] h = absurd (omega (arith, h.0))
no_hyphen (d ∷ ds) h = ne_eqb _ _ (λ e. omega (arith, digit_from_value d h.1.0))

plain_numeral : (ds : Text) → IsNumeral 10 ds → IsPlainWord ds
plain_numeral [] h is = cc
plain_numeral (d ∷ ds) h is =
    let first : d ≡ 45 = cc in
    omega (arith, digit_from_value d h.1.0, first)

no_sign : (ds : Text) → IsNumeral 10 ds → without_leading_sign ds ≡ ds
no_sign ds h = rw (no_hyphen ds h) (no_plus ds h)

pub decimal_spells : (n : ℕ) → n < 2 ^ 64 → Spells (decimal n) n
decimal_spells n small =
    let numeral = decimal_is_IsNumeral n small in
    let sign = no_sign (decimal n) numeral.0 in
    rw (no_hyphen (decimal n) numeral.0, no_plus (decimal n) numeral.0, numeral.1) refl

pub decimal_value : (most n : ℕ) → n ≤ most → most < 2 ^ 32 → IsNumberValue (up_to most) (decimal n)
decimal_value most n small fits =
    let numeral = decimal_is_IsNumeral n (omega (arith, small, fits)) in
    let spelled : signed_digits_value 10 (decimal n) ≡ pos n = decimal_spells n (omega (arith, small, fits)) in
    let in_range : IsSignedIn (pos 0) (pos most) (decimal n) = (
      rw (no_sign (decimal n) numeral.0) numeral.0,
      rw spelled (record { sfits = omega (arith, small, fits) }),
      rw spelled (omega (arith, ints)),
      rw spelled (omega (arith, ints, small)),
    ) in
    record { value = value_from_first (decimal n) (plain_numeral (decimal n) numeral.0); passes = Accepts-accepts false (up_to most) (decimal n) in_range }

pub decimal_count : (n : ℕ) → 1 ≤ n → n < 2 ^ 64 → IsNumberValue from_one (decimal n)
decimal_count n least small =
    let numeral = decimal_is_IsNumeral n small in
    let plain : without_leading_plus (decimal n) ≡ decimal n = no_plus (decimal n) numeral.0 in
    let in_range : IsUnsignedIn 1 18446744073709551615 (decimal n) = (
      rw plain numeral.0,
      rw (plain, numeral.1) small,
      rw (plain, numeral.1) least,
      rw (plain, numeral.1) (omega (arith, small)),
    ) in
    record { value = value_from_first (decimal n) (plain_numeral (decimal n) numeral.0); passes = Accepts-accepts false from_one (decimal n) in_range }

-- ---- sizes

-- what begins with a number does not begin with a hyphen
plain_units : (text : Text) (letter blocks : ℕ) → SpellsUnits text letter blocks → blocks < 2 ^ 64 → IsPlainWord text
plain_units text letter blocks s small =
    let few = small_number text letter blocks s in
    rw s.spelled (after (decimal s.number) (decimal_is_IsNumeral s.number (omega arith)).0)
  where
    after : (ds : Text) → IsNumeral 10 ds → IsPlainWord (ds ++ letter ∷ [])
    after [] h = absurd (omega (arith, h.0))
    after (d ∷ ds) h = λ is. plain_numeral (d ∷ ds) h is

pub plain_amount : (text : Text) (blocks : ℕ) → IsAmount text blocks → blocks < 2 ^ 64 → IsPlainWord text
plain_amount text blocks (inl is) small = rw is (plain_numeral (decimal blocks) (decimal_is_IsNumeral blocks small).0)
plain_amount text blocks (inr s) small = plain_units text s.0 blocks s.1 small

pub plain_room : (text : Text) (size : Size) → IsRoom text size → IsPlainWord text
plain_room text Most is = rw is (other_first (codes "max") 109 refl (λ e. omega (arith, e)))
plain_room text (Blocks blocks) is = plain_units text is.0 blocks is.1 is.4
