-- Bits of masks.
use Rattle.std.proofs.Common.{◌≡◌, inl, inr, ℕ, ◌/◌, ◌%◌, ◌^◌, ◌<◌, ◌≤◌, Bool, true, false, ◌==◌, refl, sym, ap, ◌∙◌, arith}
use Rattle.std.proofs.lemmas.Bool.{agree_below, agree_below_at, cases_Bool, cases_lt, eqb-true, false≢true}
use Rattle.std.proofs.Math.Nat.{div-eq_of_lt, pow-le-pow_right}
use Rattle.std.specs.Int.RustNames.{count_ones}
use Rattle.entry_runs.specs.Body.{bits_below, has_bit}
use Rattle.entry_runs.proofs.Counts.{count_beyond}

-- eight members have all bits of a byte

all_counted : ℕ → Bool
all_counted mask = bits_below mask 8 == count_ones mask

bytes_counted : agree_below all_counted (λ mask. true) 256 ≡ true
unfolding all_counted count_ones
bytes_counted = refl

pub all_bits : (mask : ℕ) → mask < 256 → bits_below mask 8 ≡ count_ones mask
unfolding all_counted
all_bits mask byte = eqb-true (bits_below mask 8) (count_ones mask) (agree_below_at all_counted (λ m. true) 256 mask bytes_counted byte)

-- a byte has no bit from the eighth on
pub bit_low : (mask m : ℕ) → mask < 256 → has_bit mask m ≡ true → m < 8
bit_low mask m byte is = elim (cases_lt m 8) [
  | inl below ↦ below
  | inr beyond ↦
      let size : 2 ^ 8 ≤ 2 ^ m = pow-le-pow_right {n = 2} (omega arith) {i = 8} {j = m} beyond in
      let none : mask / 2 ^ m ≡ 0 = div-eq_of_lt {n = mask} {m = 2 ^ m} (omega (arith, size, byte)) in
      absurd (false≢true (sym (ap (λ (q : ℕ). q % 2 == 1) none) ∙ is))
]

-- a member with a bit has fewer below it than there are in all
pub bits_within : (mask m : ℕ) → mask < 256 → has_bit mask m ≡ true → bits_below mask m < count_ones mask
bits_within mask m byte is = omega (arith, count_beyond (has_bit mask) m 8 is (bit_low mask m byte is), all_bits mask byte)

-- and no mask without bits has a member's
pub no_bits : (m : ℕ) → has_bit 0 m ≡ false
no_bits m = elim (cases_Bool (has_bit 0 m)) [
  | inr isnt ↦ isnt
  | inl is ↦ absurd (omega (arith, bits_within 0 m (omega arith) is, all_bits 0 (omega arith)))
]
