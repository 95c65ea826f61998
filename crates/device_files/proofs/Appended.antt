-- Zero bytes that are appended part by part.
use Rattle.std.proofs.Common.{◌≡◌, ◌∙◌, ◌≤◌, ◌+◌, ap, arith, subst, refl, ℕ, List, [], ◌∷◌, ◌++◌, append_assoc, length, replicate, take, zero, suc}

replicate_more : (n m : ℕ) → replicate {A = ℕ} n 0 ++ replicate {A = ℕ} m 0 ≡ replicate {A = ℕ} (n + m) 0
replicate_more zero m =
    let same : m ≡ 0 + m = omega arith in
    ap (λ (k : ℕ). replicate {A = ℕ} k 0) same
replicate_more (suc n) m =
    let same : suc (n + m) ≡ suc n + m = omega arith in
    ap (λ (l : List ℕ). 0 ∷ l) (replicate_more n m) ∙ ap (λ (k : ℕ). replicate {A = ℕ} k 0) same

-- zeros after zeros
pub zeros_after : (old now new : List ℕ) (done n : ℕ) → now ≡ old ++ replicate {A = ℕ} done 0 → new ≡ now ++ replicate {A = ℕ} n 0
    → new ≡ old ++ replicate {A = ℕ} (done + n) 0
zeros_after old now new done n before grown =
    grown ∙ ap (λ (l : List ℕ). l ++ replicate {A = ℕ} n 0) before ∙ append_assoc old (replicate {A = ℕ} done 0) (replicate {A = ℕ} n 0)
    ∙ ap (λ (l : List ℕ). old ++ l) (replicate_more done n)

-- the first of so many zeros are zeros
zeros_taken : (k part : ℕ) → (m : ℕ) × (take k (replicate {A = ℕ} part 0) ≡ replicate {A = ℕ} m 0)
zeros_taken zero part = (0, refl)
zeros_taken (suc k) zero = (0, refl)
zeros_taken (suc k) (suc part) =
    let rest = zeros_taken k part in
    (suc rest.0, ap (λ (l : List ℕ). 0 ∷ l) rest.1)

length_zeros : (m : ℕ) → length (replicate {A = ℕ} m 0) ≡ m
length_zeros zero = refl
length_zeros (suc m) =
    let rest : length (replicate {A = ℕ} m 0) ≡ m = length_zeros m in
    omega (arith, rest)

take_zeros : (n m : ℕ) → n ≤ m → take n (replicate {A = ℕ} m 0) ≡ replicate {A = ℕ} n 0
take_zeros zero m within = refl
take_zeros (suc n) zero within = absurd (omega (arith, within))
take_zeros (suc n) (suc m) within =
    let less : n ≤ m = omega (arith, within) in
    ap (λ (l : List ℕ). 0 ∷ l) (take_zeros n m less)

-- a part of a part of zeros that was appended is zeros
pub part_appended : (old now new : List ℕ) (n k part : ℕ) → now ≡ old → new ≡ now ++ take n (take k (replicate {A = ℕ} part 0))
    → n ≤ length (take k (replicate {A = ℕ} part 0))
    → new ≡ old ++ replicate {A = ℕ} n 0
part_appended old now new n k part same grown bound =
    let taken = zeros_taken k part in
    let within : n ≤ length (replicate {A = ℕ} taken.0 0) = subst (λ (l : List ℕ). n ≤ length l) taken.1 bound in
    let below : n ≤ taken.0 = subst (λ (m : ℕ). n ≤ m) (length_zeros taken.0) within in
    grown ∙ ap (λ (l : List ℕ). l ++ take n (take k (replicate {A = ℕ} part 0))) same ∙ ap (λ (l : List ℕ). old ++ take n l) taken.1
    ∙ ap (λ (l : List ℕ). old ++ l) (take_zeros n taken.0 below)

-- what stood there stands before it
pub begins_before : (old more : List ℕ) → take (length old) (old ++ more) ≡ old
begins_before [] more = refl
begins_before (x ∷ old) more = ap (λ (l : List ℕ). x ∷ l) (begins_before old more)
