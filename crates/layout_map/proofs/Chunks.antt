-- Chunks, members and stripes as plain numbers.
use Rattle.std.proofs.Common.{◌≡◌, ◌≢◌, inl, inr, ℕ, ◌+◌, ◌-◌, ◌*◌, ◌/◌, ◌%◌, ◌<◌, ◌≤◌, sym, subst, arith}
use Rattle.std.proofs.lemmas.Bool.{cases_eq}
use Rattle.layout_map.specs.declared.sizes.TheConstants.{MOST_MEMBERS}

-- what holds at each number of members
pub by_members : (P : ℕ → Type 0) → P 3 → P 4 → P 5 → P 6 → P 7 → P 8 → (n : ℕ) → 3 ≤ n → n ≤ MOST_MEMBERS → P n
by_members P p3 p4 p5 p6 p7 p8 n least most =
    elim (cases_eq n 3) [
      | inl is ↦ subst P (sym is) p3
      | inr not3 ↦ elim (cases_eq n 4) [
        | inl is ↦ subst P (sym is) p4
        | inr not4 ↦ elim (cases_eq n 5) [
          | inl is ↦ subst P (sym is) p5
          | inr not5 ↦ elim (cases_eq n 6) [
            | inl is ↦ subst P (sym is) p6
            | inr not6 ↦ elim (cases_eq n 7) [
              | inl is ↦ subst P (sym is) p7
              | inr not7 ↦ let is : n ≡ 8 = omega arith in subst P (sym is) p8
            ]
          ]
        ]
      ]
    ]

abbrev Free : ℕ → Type 0
Free n = (c s : ℕ) → c / (n - 1) ≡ s → c % n ≢ n - 1 - s % n

-- no chunk of a stripe is on the member with the stripe's parity
pub parity_is_free : (n : ℕ) → 3 ≤ n → n ≤ MOST_MEMBERS → (c s : ℕ) → c / (n - 1) ≡ s → c % n ≢ n - 1 - s % n
parity_is_free n least most = by_members Free
    (λ c s in_stripe here. omega arith)
    (λ c s in_stripe here. omega arith)
    (λ c s in_stripe here. omega arith)
    (λ c s in_stripe here. omega arith)
    (λ c s in_stripe here. omega arith)
    (λ c s in_stripe here. omega arith)
    n least most

abbrev Apart : ℕ → Type 0
Apart n = (c d : ℕ) → c / (n - 1) ≡ d / (n - 1) → c % n ≡ d % n → c ≡ d

-- two chunks of one stripe on one member are one
pub chunk_is_only : (n : ℕ) → 3 ≤ n → n ≤ MOST_MEMBERS → (c d : ℕ) → c / (n - 1) ≡ d / (n - 1) → c % n ≡ d % n → c ≡ d
chunk_is_only n least most = by_members Apart
    (λ c d stripe member. omega arith)
    (λ c d stripe member. omega arith)
    (λ c d stripe member. omega arith)
    (λ c d stripe member. omega arith)
    (λ c d stripe member. omega arith)
    (λ c d stripe member. omega arith)
    n least most

-- the chunk of stripe s on member m, where the parity is on member p: the members after p hold the stripe's chunks in turn
abbrev pub chunk_on : ℕ → ℕ → ℕ → ℕ → ℕ
chunk_on n s p m = s * (n - 1) + (m + n - p - 1) % n

abbrev Held : ℕ → Type 0
Held n = (s p m : ℕ) → p ≡ n - 1 - s % n → m < n → m ≢ p → (chunk_on n s p m / (n - 1) ≡ s) × (chunk_on n s p m % n ≡ m)

-- each other member holds one of the stripe's chunks
pub chunk_is_held : (n : ℕ) → 3 ≤ n → n ≤ MOST_MEMBERS → (s p m : ℕ) → p ≡ n - 1 - s % n → m < n → m ≢ p → (chunk_on n s p m / (n - 1) ≡ s)
    × (chunk_on n s p m % n ≡ m)
chunk_is_held n least most = by_members Held
    (λ s p m is within other. (omega arith, omega arith))
    (λ s p m is within other. (omega arith, omega arith))
    (λ s p m is within other. (omega arith, omega arith))
    (λ s p m is within other. (omega arith, omega arith))
    (λ s p m is within other. (omega arith, omega arith))
    (λ s p m is within other. (omega arith, omega arith))
    n least most
