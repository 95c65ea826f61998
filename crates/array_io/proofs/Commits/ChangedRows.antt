-- What a commit changes stays so with an entry of the same form; the bits of masks.
use lib.Count.{ones_step}
use Rattle.std.proofs.Common.{◌≡◌, ◌≢◌, ◌↔◌, inl, inr, ℕ, zero, suc, ◌+◌, ◌/◌, ◌<◌, ◌≤◌, ◌==◌, true, List, length, sym, ◌∙◌, ap, subst, arith}
use Rattle.std.specs.Prelude.{count_ones}
use Rattle.std.proofs.lemmas.Bool.{cases_lt, eqb-true}
use Rattle.std.proofs.lemmas.Nat.Bits.{bit_at-suc, bit_at_lowest}
use Rattle.layout_map.specs.declared.geometry.Geometry.{Geometry}
use Rattle.stripe_journal.specs.declared.entry.Entry.{Entry}
use Rattle.stripe_journal.specs.Entries.{form_of, numbers_of, row_mask}
use Rattle.stripe_journal.specs.Forms.{has_bit}
use Rattle.stripe_journal.specs.Seals.{row_at}
use Rattle.array_io.specs.Steps.FormingRows.{Given, HoldsChanged, IsChanged}
use Rattle.array_io.proofs.Commits.BufferRows.{same_mask}

-- an entry with the same rows, of the same form, holds what changes too
pub changed_stays : (geometry : Geometry) (sectors : Given) (first second : Entry) → numbers_of second ≡ numbers_of first → form_of second ≡ form_of first
    → HoldsChanged geometry sectors first → HoldsChanged geometry sectors second
changed_stays geometry sectors first second numbers form holds = λ i member inside.
    subst (λ (mask : ℕ). (has_bit mask member ≡ true) ↔ IsChanged geometry sectors (row_at (numbers_of second) i) member) (sym (same_mask second first i form))
    (subst (λ (rows : List ℕ). (has_bit (row_mask first i) member ≡ true) ↔ IsChanged geometry sectors (row_at rows i) member) (sym numbers)
    (holds i member (omega (arith, ap length numbers, inside))))

-- ones of masks

half_bit : (mask member : ℕ) → has_bit mask (suc member) ≡ true → has_bit (mask / 2) member ≡ true
half_bit mask member is = sym (ap (λ (n : ℕ). n == 1) (bit_at-suc mask member)) ∙ is

lowest_bit : (mask : ℕ) → has_bit mask 0 ≡ true → 1 + count_ones (mask / 2) ≤ count_ones mask
lowest_bit mask is = omega (arith, ones_step mask, eqb-true _ 1 is, bit_at_lowest mask)

one_bit : (mask member : ℕ) → has_bit mask member ≡ true → 1 ≤ count_ones mask
one_bit mask zero is = omega (arith, lowest_bit mask is)
one_bit mask (suc member) is = omega (arith, ones_step mask, one_bit (mask / 2) member (half_bit mask member is))

two_rising : (mask first second : ℕ) → first < second → has_bit mask first ≡ true → has_bit mask second ≡ true → 2 ≤ count_ones mask
two_rising mask first zero rising is is' = absurd (omega (arith, rising))
two_rising mask zero (suc second) rising is is' = omega (arith, lowest_bit mask is, one_bit (mask / 2) second (half_bit mask second is'))
two_rising mask (suc first) (suc second) rising is is' =
    omega (arith, ones_step mask, two_rising (mask / 2) first second (omega (arith, rising)) (half_bit mask first is) (half_bit mask second is'))

-- a mask with the bits of two members has two ones at least
pub two_bits : (mask first second : ℕ) → first ≢ second → has_bit mask first ≡ true → has_bit mask second ≡ true → 2 ≤ count_ones mask
two_bits mask first second apart is is' = elim (cases_lt first second) [
  | inl before ↦ two_rising mask first second before is is'
  | inr from ↦ two_rising mask second first (omega (arith, from, apart)) is' is
]
