-- Texts of numbers and of sizes.
use Rattle.std.proofs.Common.{◌≡◌, ◌≢◌, ◌∙◌, ◌==◌, ◌<◌, ◌≤◌, ◌+◌, ◌*◌, ◌^◌, ◌⊎◌, inl, inr, ap, ap₂, arith, refl, sym, subst, ℕ, zero, suc, Bool, true}
use Rattle.std.proofs.Common.{false, [], ◌∷◌, ◌++◌, length, get_or}
use Rattle.std.proofs.Common.{Some, None, le-mul_of_pos_right, length-append, take, cond, codes, drop, eq-eqb, eqb-true, true≢false}
use Rattle.std.specs.Prelude.{IfSome, Ok, Err, Result, decimal, slice_index}
use Rattle.std.specs.Result.{result_ok}
use Rattle.std.specs.Char.{digit_value}
use Rattle.std.specs.Str.Parse.{AllDigits, IsNumeral, digits_value, without_leading_plus}
use Rattle.std.specs.declared.num.ParseIntError.{ParseIntError}
use Rattle.std.proofs.lemmas.Bool.{cases_eq, ne_eqb}
use Rattle.std.specs.Str.{bytes_eq}
use Rattle.std.proofs.lemmas.Slice.Eq.{bytes_eq-Decides}
use Rattle.std.proofs.lemmas.Fmt.{decimal-digits_value, decimal_digit, decimal_injective, decimal_is_IsNumeral, first_decimal}
use Rattle.std.proofs.lemmas.Str.Parse.{digit_from_value, numerals_by_value, tells_digits}
use Rattle.clap.specs.Walk.{Text}
use Rattle.command_line.specs.declared.Size.{Size}
use Rattle.command_line.specs.declared.Size.TheVariants.{Blocks, Most}
use Rattle.command_line.specs.Sizes.{IsAmount, IsExtent, IsRoom, SpellsUnits, unit_blocks}
use Rattle.command_line.proofs.NumberReads.{Parses, no_plus}

-- ---- numbers

-- a plus sign does not begin with a digit
pub no_plus_first : (text : Text) (n : ℕ) → n < 2 ^ 64 → text ≡ decimal n → (slice_index text 0 == 43) ≡ true → ⊥
no_plus_first text n small is plus = by (decimal n) (decimal_is_IsNumeral n small).0 (rw is at plus)
  where
    by : (ds : Text) → IsNumeral 10 ds → (slice_index ds 0 == 43) ≡ true → ⊥
    by [] h first = omega (arith, h.0)
    by (d ∷ ds) h first = omega (arith, digit_from_value d h.1.0, eqb-true d 43 first)

-- only zero begins with one
pub no_zero_first : (text : Text) (n : ℕ) → n < 2 ^ 64 → text ≡ decimal n → 1 < length text → (slice_index text 0 == 48) ≡ true → ⊥
no_zero_first text n small is long first = elim (cases_eq n 0) [
  | inl none ↦
      let one : decimal n ≡ 48 ∷ [] = rw none (decimal_digit 0 (omega arith)) in
      omega (arith, ap length (is ∙ one))
  | inr some ↦ omega (arith, first_decimal n (omega arith) small, eqb-true _ 48 (rw is at first))
]

-- what is read of other digits is the number that they spell
pub number_read : (text : Text) (r : Result ℕ ParseIntError) → Parses 64 text r → (slice_index text 0 == 43) ≡ false
    → (length text ≤ 1) ⊎ ((slice_index text 0 == 48) ≡ false) → IfSome (result_ok r) (λ n. text ≡ decimal n)
number_read text (Err e) h plus lead = tt
number_read text (Ok n) h plus lead =
    let same : without_leading_plus text ≡ text = ap (λ (b : Bool). drop (cond b 1 0) text) plus in
    let numeral : IsNumeral 10 text = rw same at h.0.0.0 in
    let value : n ≡ digits_value 10 text = rw same at h.0.1 in
    let small : digits_value 10 text < 2 ^ 64 = rw same at h.0.0.1 in
    let alone : get_or text 0 0 ≡ 48 → length text ≡ 1 = λ first. elim lead [
      | inl short ↦ omega (arith, numeral.0)
      | inr other ↦ let never = sym (eq-eqb _ _ first) ∙ other in cc
    ] in
    sym (decimal-digits_value (numerals_by_value _ tells_digits) text numeral.1 numeral.0 alone small) ∙ ap decimal (sym value)

-- what is not read spells none
pub none_read : (text : Text) (r : Result ℕ ParseIntError) → Parses 64 text r → result_ok r ≡ None → (n : ℕ) → n < 2 ^ 64 → text ≡ decimal n → ⊥
none_read text (Ok v) h none n small is = cc
none_read text (Err e) h none n small is =
    let numeral = decimal_is_IsNumeral n small in
    let same : without_leading_plus text ≡ text = rw is (no_plus (decimal n) numeral.0) in
    h.0 (rw (same, is) numeral.0, rw (same, is, numeral.1) small)

-- ---- numbers with a unit

snoc_same : (a b : Text) (x y : ℕ) → a ++ x ∷ [] ≡ b ++ y ∷ [] → (a ≡ b) × (x ≡ y)
snoc_same [] [] x y is = (refl, cc)
snoc_same [] (d ∷ ds) x y is = absurd (omega (arith, ap length is, length-append ds (y ∷ [])))
snoc_same (c ∷ cs) [] x y is = absurd (omega (arith, ap length is, length-append cs (x ∷ [])))
snoc_same (c ∷ cs) (d ∷ ds) x y is =
    let first : c ≡ d = cc in
    let rest : cs ++ x ∷ [] ≡ ds ++ y ∷ [] = cc in
    let same = snoc_same cs ds x y rest in
    (ap₂ (λ (e : ℕ) (es : Text). e ∷ es) first same.0, same.1)

-- a unit is a block or more
some_blocks : (letter unit : ℕ) → unit_blocks letter ≡ Some unit → 1 ≤ unit
some_blocks letter unit is = go (letter == 75) (letter == 77) (letter == 71) (letter == 84) is
  where
    go : (k m g t : Bool)
        → cond k (Some 2) (cond m (Some 2048) (cond g (Some 2097152) (cond t (Some 2147483648) None))) ≡ Some unit → 1 ≤ unit
    go true m g t is = let same : 2 ≡ unit = cc in omega arith
    go false true g t is = let same : 2048 ≡ unit = cc in omega arith
    go false false true t is = let same : 2097152 ≡ unit = cc in omega arith
    go false false false true is = let same : 2147483648 ≡ unit = cc in omega arith
    go false false false false is = cc

-- so the number is no more than the blocks
pub small_number : (text : Text) (letter blocks : ℕ) (s : SpellsUnits text letter blocks) → s.number ≤ blocks
small_number text letter blocks s =
    let some = some_blocks letter s.unit s.unit_is in
    let is = s.blocks_are in
    let more = le-mul_of_pos_right {m = s.unit} s.number some in
    omega arith

-- a text has one unit, and is one number of blocks
pub one_units : (text : Text) (l k a b : ℕ) (h : SpellsUnits text l a) (i : SpellsUnits text k b) → h.number < 2 ^ 64 → i.number < 2 ^ 64 → (l ≡ k) × (a ≡ b)
one_units text l k a b h i small few =
    let same = snoc_same (decimal h.number) (decimal i.number) l k (sym h.spelled ∙ i.spelled) in
    let number = decimal_injective h.number i.number small few same.0 in
    let unit : Some h.unit ≡ Some i.unit = sym h.unit_is ∙ ap unit_blocks same.1 ∙ i.unit_is in
    let units : h.unit ≡ i.unit = cc in
    (same.1, h.blocks_are ∙ ap₂ (λ (n u : ℕ). n * u) number units ∙ sym i.blocks_are)

-- the last byte of a text
cut_last : (text : Text) (n : ℕ) → length text ≡ n + 1 → text ≡ take n text ++ slice_index (drop n text) 0 ∷ []
cut_last [] n is = absurd (omega arith)
cut_last (x ∷ []) zero is = refl
cut_last (x ∷ y ∷ xs) zero is = absurd (omega arith)
cut_last (x ∷ xs) (suc n) is = ap (λ (ys : Text). x ∷ ys) (cut_last xs n (omega arith))

-- the blocks of this text are too many
pub too_many : (text digits unit : Text) (at number blocks : ℕ) → length text ≡ at + 1 → digits ≡ take at text → unit ≡ drop at text
    → digits ≡ decimal number → number < 2 ^ 64 → unit_blocks (slice_index unit 0) ≡ Some blocks → 2 ^ 64 ≤ number * blocks
    → (letter other : ℕ) → SpellsUnits text letter other → other < 2 ^ 64 → ⊥
too_many text digits unit at number blocks long front back is small unit_is large letter other s few =
    let here : SpellsUnits text (slice_index unit 0) (number * blocks) = record {
      number = number;
      unit = blocks;
      spelled = rw (← is, front, back) (cut_last text at long);
      unit_is = unit_is;
      blocks_are = refl;
    } in
    let same = one_units text (slice_index unit 0) letter (number * blocks) other here s small (omega (arith, small_number text letter other s)) in
    omega (arith, same.1)

-- ---- room for volumes

-- texts that are compared as different are
pub two_texts : (a b : Text) → bytes_eq a b ≡ false → a ≢ b
two_texts a b differ is = true≢false (sym ((bytes_eq-Decides a b).1 is) ∙ differ)

no_max : (letter unit : ℕ) (digits : Text) → unit_blocks letter ≡ Some unit → codes "max" ≡ digits ++ letter ∷ [] → ⊥
no_max letter unit digits is e =
    let last : 120 ≡ letter = (snoc_same (codes "ma") digits 120 letter e).1 in
    let never : None ≡ Some unit = rw (← last) at is in
    cc

-- a text is one room
pub one_room : (text : Text) (a b : Size) → IsRoom text a → IsRoom text b → a ≡ b
one_room text Most Most h k = refl
one_room text Most (Blocks b) h k = absurd (no_max k.0 k.1.unit (decimal k.1.number) k.1.unit_is (sym h ∙ k.1.spelled))
one_room text (Blocks a) Most h k = absurd (no_max h.0 h.1.unit (decimal h.1.number) h.1.unit_is (sym k ∙ h.1.spelled))
one_room text (Blocks a) (Blocks b) h k =
    let low = small_number text h.0 a h.1 in
    let few = small_number text k.0 b k.1 in
    ap Blocks (one_units text h.0 k.0 a b h.1 k.1 (omega (arith, h.4)) (omega (arith, k.4))).1

-- a text that is not `max`, and of which no number of blocks was read, or of kibibytes, or none, is no room
pub no_room : (text : Text) → text ≢ codes "max"
    → ((letter blocks : ℕ) → SpellsUnits text letter blocks → letter ≢ 75 → 1 ≤ blocks → blocks < 2 ^ 64 → ⊥) → (size : Size) → ¬ IsRoom text size
no_room text other none Most h = other h
no_room text other none (Blocks blocks) h = none h.0 blocks h.1 h.2 h.3 h.4

-- what was read is all that a text spells
pub other_units : (text : Text) (l a : ℕ) → SpellsUnits text l a → a < 2 ^ 64 → (letter blocks : ℕ) → SpellsUnits text letter blocks → blocks < 2 ^ 64
    → (l ≡ letter) × (a ≡ blocks)
other_units text l a h fits letter blocks k small =
    let low = small_number text l a h in
    let few = small_number text letter blocks k in
    one_units text l letter a blocks h k (omega arith) (omega arith)

-- ---- sizes of volumes

-- no unit is a digit
unit_letter : (letter unit : ℕ) → unit_blocks letter ≡ Some unit → digit_value letter < 10 → ⊥
unit_letter letter unit is digit =
    let low = digit_from_value letter digit in
    let k : (letter == 75) ≡ false = ne_eqb letter 75 (λ e. omega arith) in
    let m : (letter == 77) ≡ false = ne_eqb letter 77 (λ e. omega arith) in
    let g : (letter == 71) ≡ false = ne_eqb letter 71 (λ e. omega arith) in
    let t : (letter == 84) ≡ false = ne_eqb letter 84 (λ e. omega arith) in
    let never : None ≡ Some unit = rw (k, m, g, t) at is in
    cc

last_digit : (ds : Text) (letter : ℕ) → AllDigits 10 (ds ++ letter ∷ []) → digit_value letter < 10
last_digit [] letter h = h.0
last_digit (d ∷ ds) letter h = last_digit ds letter h.1

-- a number has no unit
no_unit : (text : Text) (n letter blocks : ℕ) → n < 2 ^ 64 → text ≡ decimal n → SpellsUnits text letter blocks → ⊥
no_unit text n letter blocks small is s =
    let digits : AllDigits 10 (decimal s.number ++ letter ∷ []) =
    subst (λ (ds : Text). AllDigits 10 ds) (sym is ∙ s.spelled) (decimal_is_IsNumeral n small).0.1 in
    unit_letter letter s.unit s.unit_is (last_digit (decimal s.number) letter digits)

pub one_amount : (text : Text) (a b : ℕ) → IsAmount text a → IsAmount text b → a < 2 ^ 64 → b < 2 ^ 64 → a ≡ b
one_amount text a b (inl h) (inl k) small few = decimal_injective a b small few (sym h ∙ k)
one_amount text a b (inl h) (inr k) small few = absurd (no_unit text a k.0 b small h k.1)
one_amount text a b (inr h) (inl k) small few = absurd (no_unit text b h.0 a few k h.1)
one_amount text a b (inr h) (inr k) small few = (other_units text h.0 a h.1 small k.0 b k.1 few).1

-- a text is one size of a volume
pub one_extent : (text : Text) (a b : ℕ) → IsExtent text a → IsExtent text b → a ≡ b
one_extent text a b h k = one_amount text a b h.0 k.0 (omega (arith, h.1)) (omega (arith, k.1))
