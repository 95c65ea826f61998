-- The XOR of the sectors of all members but one, and what a list says of each of its members.
use Rattle.std.proofs.Common.{◌≡◌, ◌≢◌, inl, inr, ℕ, zero, suc, ◌+◌, ◌<◌, ◌≤◌, Bool, cond, List, ◌∷◌, length, refl, sym, ◌∙◌, ap, arith}
use Rattle.std.specs.Prelude.{not, ◌==◌, map, filter}
use Rattle.std.specs.List.{range_with_len}
use Rattle.std.proofs.lemmas.Bool.{cases_eq, eq-eqb, ne_eqb}
use Rattle.sector_model.specs.History.{Bytes}
use Rattle.parity.specs.Xor.{xor_of, xor_of_all, zero_sector}
use Rattle.parity.proofs.Laws.{xor_of-comm, xor_of-assoc, xor_of-zero, xor_of-xor_of-self, xor_of-zero-xor_of_all}

-- those of n members, from a on, that are not this one
abbrev pub others_from : (member a n : ℕ) → List ℕ
others_from member a n = filter (λ other. not (other == member)) (range_with_len a n)

-- the first of them stays out where it is this one
others_from-same : (member a n : ℕ) → a ≡ member → others_from member a (suc n) ≡ others_from member (a + 1) n
others_from-same member a n same = ap (λ (b : Bool). cond (not b) (a ∷ others_from member (a + 1) n) (others_from member (a + 1) n)) (eq-eqb a member same)

-- else it is one of the others
others_from-other : (member a n : ℕ) → a ≢ member → others_from member a (suc n) ≡ a ∷ others_from member (a + 1) n
others_from-other member a n apart = ap (λ (b : Bool). cond (not b) (a ∷ others_from member (a + 1) n) (others_from member (a + 1) n)) (ne_eqb a member apart)

-- all are others than one below them
others_from-below : (member a n : ℕ) → member < a → others_from member a n ≡ range_with_len a n
others_from-below member a zero below = refl
others_from-below member a (suc n) below =
    others_from-other member a n (λ same. omega (arith, same)) ∙ ap (λ (rest : List ℕ). a ∷ rest) (others_from-below member (a + 1) n (omega arith))

xor_of-left_comm : (a b c : Bytes) → xor_of a (xor_of b c) ≡ xor_of b (xor_of a c)
xor_of-left_comm a b c = sym (xor_of-assoc a b c) ∙ ap (λ (s : Bytes). xor_of s c) (xor_of-comm a b) ∙ xor_of-assoc b a c

-- The XOR over the members is that of one of them and of the XOR over the others.
pub xor_of_all-member : (f : ℕ → Bytes) (member a n : ℕ) → a ≤ member → member < a + n
    → xor_of_all (map f (range_with_len a n)) ≡ xor_of (f member) (xor_of_all (map f (others_from member a n)))
xor_of_all-member f member a zero least most = absurd (omega arith)
xor_of_all-member f member a (suc n) least most = elim (cases_eq a member) [
  | inl same ↦
      ap (λ (m : ℕ). xor_of (f m) (xor_of_all (map f (range_with_len (a + 1) n)))) same
      ∙ ap (λ (rest : List ℕ). xor_of (f member) (xor_of_all (map f rest)))
      (sym (others_from-below member (a + 1) n (omega (arith, same))) ∙ sym (others_from-same member a n same))
  | inr apart ↦
      ap (xor_of (f a)) (xor_of_all-member f member (a + 1) n (omega (arith, apart)) (omega arith))
      ∙ xor_of-left_comm (f a) (f member) (xor_of_all (map f (others_from member (a + 1) n)))
      ∙ ap (λ (rest : List ℕ). xor_of (f member) (xor_of_all (map f rest))) (sym (others_from-other member a n apart))
]

-- a sector whose XOR with that of others is zero is the XOR of those
pub sector_is_xor : (sector : Bytes) (rest : List Bytes) → length sector ≡ 512 → xor_of sector (xor_of_all rest) ≡ zero_sector → sector ≡ xor_of_all rest
sector_is_xor sector rest long is_zero =
    sym (xor_of-zero sector long) ∙ xor_of-comm zero_sector sector ∙ sym (ap (xor_of sector) is_zero)
    ∙ xor_of-xor_of-self sector (xor_of_all rest) ∙ xor_of-zero-xor_of_all rest

-- two functions that agree at each member but one
pub map-others : (f g : ℕ → Bytes) (member a n : ℕ) → ((other : ℕ) → other < a + n → other ≢ member → f other ≡ g other)
    → map f (others_from member a n) ≡ map g (others_from member a n)
map-others f g member a zero agree = refl
map-others f g member a (suc n) agree =
    let rest : map f (others_from member (a + 1) n) ≡ map g (others_from member (a + 1) n) =
    map-others f g member (a + 1) n (λ other below apart. agree other (omega (arith, below)) apart) in
    elim (cases_eq a member) [
      | inl same ↦ ap (map f) (others_from-same member a n same) ∙ rest ∙ ap (map g) (sym (others_from-same member a n same))
      | inr apart ↦
          ap (map f) (others_from-other member a n apart)
          ∙ ap (λ (s : Bytes). s ∷ map f (others_from member (a + 1) n)) (agree a (omega arith) apart) ∙ ap (λ (l : List Bytes). g a ∷ l) rest
          ∙ ap (map g) (sym (others_from-other member a n apart))
    ]

-- two functions that agree at each number of a range
pub map-range : (f g : ℕ → Bytes) (a n : ℕ) → ((k : ℕ) → k < a + n → f k ≡ g k) → map f (range_with_len a n) ≡ map g (range_with_len a n)
map-range f g a zero agree = refl
map-range f g a (suc n) agree =
    ap (λ (s : Bytes). s ∷ map f (range_with_len (a + 1) n)) (agree a (omega arith))
    ∙ ap (λ (l : List Bytes). g a ∷ l) (map-range f g (a + 1) n (λ k below. agree k (omega (arith, below))))
