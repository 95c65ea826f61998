-- How many members are held, of those below one.
use Rattle.std.proofs.Common.{◌≡◌, inl, inr, ℕ, zero, suc, ◌+◌, ◌<◌, ◌≤◌, Bool, true, false, cond, add-one, sym, subst, ap, ◌∙◌, arith}
use Rattle.std.proofs.lemmas.Bool.{cases_Bool, cases_eq, cases_lt}
use Rattle.entry_runs.specs.Body.{count_held}

-- of n members at most n are held
pub count_most : (held : ℕ → Bool) (n : ℕ) → count_held held n ≤ n
count_most held zero = omega arith
count_most held (suc n) = omega (arith, count_most held n, one_most (held n))
  where
    one_most : (b : Bool) → cond b 1 0 ≤ 1
    one_most true = omega arith
    one_most false = omega arith

-- with the next member that is held one more, else as many
pub count_next : (held : ℕ → Bool) (n : ℕ) → held n ≡ true → count_held held (suc n) ≡ suc (count_held held n)
count_next held n is = ap (λ (b : Bool). count_held held n + cond b 1 0) is ∙ omega arith

pub count_same : (held : ℕ → Bool) (n : ℕ) → held n ≡ false → count_held held (suc n) ≡ count_held held n
count_same held n is = ap (λ (b : Bool). count_held held n + cond b 1 0) is ∙ omega arith

-- the same as a loop counts
pub count_on : (held : ℕ → Bool) (n : ℕ) → held n ≡ true → count_held held (n + 1) ≡ count_held held n + 1
count_on held n is = ap (count_held held) (add-one n) ∙ count_next held n is ∙ sym (add-one (count_held held n))

pub count_over : (held : ℕ → Bool) (n : ℕ) → held n ≡ false → count_held held (n + 1) ≡ count_held held n
count_over held n is = ap (count_held held) (add-one n) ∙ count_same held n is

-- more members hold no less
pub count_grows : (held : ℕ → Bool) (m n : ℕ) → m ≤ n → count_held held m ≤ count_held held n
count_grows held m zero within = let same : m ≡ zero =
    omega (arith, within) in subst (λ (k : ℕ). count_held held k ≤ count_held held zero) (sym same) (omega arith)
count_grows held m (suc n) within = elim (cases_eq m (suc n)) [
  | inl same ↦ subst (λ (k : ℕ). count_held held k ≤ count_held held (suc n)) (sym same) (omega arith)
  | inr other ↦ omega (arith, count_grows held m n (omega (arith, within, other)))
]

-- a member that is held is counted after it
pub count_beyond : (held : ℕ → Bool) (m n : ℕ) → held m ≡ true → m < n → count_held held m < count_held held n
count_beyond held m n is below = omega (arith, count_next held m is, count_grows held (suc m) n (omega (arith, below)))

-- each count below that of all is that of one member that is held
pub member_counted : (held : ℕ → Bool) (n k : ℕ) → k < count_held held n → (m : ℕ) × (m < n) × (held m ≡ true) × (count_held held m ≡ k)
member_counted held zero k within = absurd (omega (arith, within))
member_counted held (suc n) k within = elim (cases_lt k (count_held held n)) [
  | inl below ↦ let found = member_counted held n k below in (found.0, omega (arith, found.1), found.2, found.3)
  | inr beyond ↦ elim (cases_Bool (held n)) [
    | inl is ↦ (n, omega arith, is, omega (arith, count_next held n is, within, beyond))
    | inr isnt ↦ absurd (omega (arith, count_same held n isnt, within, beyond))
  ]
]
