-- Masks with one bit more.
use lib.Count.{ones_step}
use Rattle.std.proofs.Common.{◌≡◌, ◌≢◌, ◌⊎◌, ◌↔◌, inl, inr, ℕ, zero, suc, ◌+◌, ◌/◌, ◌<◌, ◌≤◌, ◌==◌, true, sym, ◌∙◌, ap, subst, arith}
use Rattle.std.specs.Prelude.{count_ones}
use Rattle.std.proofs.lemmas.Bool.{cases_eq, cases_lt, eqb-true, false≢true}
use Rattle.std.proofs.lemmas.Nat.Bits.{bit_at-suc, bit_at-zero, bit_at_lowest}
use Rattle.entry_runs.specs.Body.{has_bit}

-- a mask has the bits of the members with a property, and one bit more is that of a member more
pub bit_more : (mask new target : ℕ) (P Q : ℕ → Type 0) → has_bit new target ≡ true
    → ((member : ℕ) → member ≢ target → has_bit new member ≡ has_bit mask member)
    → Q target → ((member : ℕ) → P member → Q member) → ((member : ℕ) → Q member → (member ≡ target) ⊎ P member)
    → ((member : ℕ) → (has_bit mask member ≡ true) ↔ P member)
    → (member : ℕ) → (has_bit new member ≡ true) ↔ Q member
bit_more mask new target P Q has others here on split before member = (
  λ is. elim (cases_eq member target) [
    | inl same ↦ subst Q (sym same) here
    | inr other ↦ on member ((before member).0 (sym (others member other) ∙ is))
  ],
  λ q. elim (cases_eq member target) [
    | inl same ↦ subst (λ (m : ℕ). has_bit new m ≡ true) (sym same) has
    | inr other ↦ elim (split member q) [
      | inl same ↦ absurd (other same)
      | inr p ↦ others member other ∙ (before member).1 p
    ]
  ],
)

-- zero has no bit
pub no_bits : (member : ℕ) → ¬ (has_bit 0 member ≡ true)
no_bits member is = let none : has_bit 0 member ≡ (0 == 1) = ap (λ (n : ℕ). n == 1) (bit_at-zero member) in false≢true (sym none ∙ is)

-- ones of masks

half_bit : (mask member : ℕ) → has_bit mask (suc member) ≡ true → has_bit (mask / 2) member ≡ true
half_bit mask member is = sym (ap (λ (n : ℕ). n == 1) (bit_at-suc mask member)) ∙ is

lowest_bit : (mask : ℕ) → has_bit mask 0 ≡ true → 1 + count_ones (mask / 2) ≤ count_ones mask
lowest_bit mask is = omega (arith, ones_step mask, eqb-true _ 1 is, bit_at_lowest mask)

one_bit : (mask member : ℕ) → has_bit mask member ≡ true → 1 ≤ count_ones mask
one_bit mask zero is = omega (arith, lowest_bit mask is)
one_bit mask (suc member) is = omega (arith, ones_step mask, one_bit (mask / 2) member (half_bit mask member is))

two_rising : (mask first second : ℕ) → first < second → has_bit mask first ≡ true → has_bit mask second ≡ true → 2 ≤ count_ones mask
two_rising mask first zero rising is is' = absurd (omega (arith, rising))
two_rising mask zero (suc second) rising is is' = omega (arith, lowest_bit mask is, one_bit (mask / 2) second (half_bit mask second is'))
two_rising mask (suc first) (suc second) rising is is' =
    omega (arith, ones_step mask, two_rising (mask / 2) first second (omega (arith, rising)) (half_bit mask first is) (half_bit mask second is'))

-- a mask with the bits of two members has two ones at least
pub two_bits : (mask first second : ℕ) → first ≢ second → has_bit mask first ≡ true → has_bit mask second ≡ true → 2 ≤ count_ones mask
two_bits mask first second apart is is' = elim (cases_lt first second) [
  | inl before ↦ two_rising mask first second before is is'
  | inr from ↦ two_rising mask second first (omega (arith, from, apart)) is' is
]
