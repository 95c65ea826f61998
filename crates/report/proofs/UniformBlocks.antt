-- A block whose bytes are all the same: each byte is equal to the next.
use Rattle.std.proofs.Common.{◌≡◌, ℕ, suc, Bool, true, ◌==◌, List, [], ◌∷◌, length, take, drop, get_or, take_all, refl, sym, ap, ◌∙◌, arith}
use Rattle.std.specs.Cmp.Lexicographic.{pointwise}
use Rattle.std.specs.List.{list_all}
use Rattle.std.proofs.lemmas.Bool.{and_parts, and_from, eqb-true, eq-eqb}
use Rattle.std.proofs.lemmas.Bool.Decides.{Decides-eqb, same_from_decides}
use Rattle.std.proofs.lemmas.Slice.Eq.{slice_eq-Decides}
use lib.Dec.{eqb}

-- bytes of which each is equal to the next are all equal to the one before them
all_from_shifted : (b : ℕ) (bytes : List ℕ) → take (length bytes) (b ∷ bytes) ≡ bytes → list_all (λ byte. byte == b) bytes ≡ true
all_from_shifted b [] same = refl
all_from_shifted b (x ∷ bytes) same =
    let first : b ≡ x = cc in
    let rest : take (length bytes) (x ∷ bytes) ≡ bytes = cc in
    and_from (x == b) (list_all (λ byte. byte == b) bytes) (eq-eqb x b (sym first)) (rw first (all_from_shifted x bytes rest))

-- bytes that are all equal to the one before them are each equal to the next
shifted_from_all : (b : ℕ) (bytes : List ℕ) → list_all (λ byte. byte == b) bytes ≡ true → take (length bytes) (b ∷ bytes) ≡ bytes
shifted_from_all b [] all = refl
shifted_from_all b (x ∷ bytes) all =
    let parts = and_parts (x == b) (list_all (λ byte. byte == b) bytes) all in
    let first : x ≡ b = eqb-true x b parts.0 in
    ap (λ y. y ∷ take (length bytes) (x ∷ bytes)) (sym first) ∙ ap (λ ys. x ∷ ys) (shifted_from_all x bytes (rw first parts.1))

-- a block is uniform where its bytes but the last are its bytes but the first
pub uniform : (n : ℕ) (block : List ℕ) (answer : Bool) → length block ≡ suc n → answer ≡ pointwise eqb (take n block) (take n (drop 1 block))
    → answer ≡ list_all (λ byte. byte == get_or block 0 0) block
uniform n [] answer long is = absurd (omega arith)
uniform n (b ∷ bytes) answer long is =
    let rest = list_all (λ byte. byte == b) bytes in
    let front : take (length bytes) (b ∷ bytes) ≡ take n (b ∷ bytes) = ap (λ k. take k (b ∷ bytes)) (omega arith) in
    let whole : take n bytes ≡ bytes = take_all n bytes (omega arith) in
    let same = slice_eq-Decides Decides-eqb (take n (b ∷ bytes)) (take n bytes) answer is in
    same_from_decides answer (list_all (λ byte. byte == b) (b ∷ bytes)) same (
      λ all. sym front ∙ shifted_from_all b bytes (and_parts (b == b) rest all).1 ∙ sym whole,
      λ shifted. and_from (b == b) rest (eq-eqb b b refl) (all_from_shifted b bytes (front ∙ shifted ∙ whole)),
    )
