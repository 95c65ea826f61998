-- The XOR over members, taken one by one.
use Rattle.std.proofs.Common.{◌≡◌, ◌≢◌, ℕ, zero, suc, ◌+◌, Bool, cond, List, [], ◌∷◌, ◌++◌, length, Option, Some, None, sym, ◌∙◌, ap, arith, append-nil}
use Rattle.std.specs.Prelude.{not, ◌==◌, map, filter, unwrap_or}
use Rattle.std.specs.List.{range_with_len}
use Rattle.std.proofs.lemmas.Bool.{eq-eqb, ne_eqb}
use Rattle.std.proofs.lemmas.List.{map_push}
use Rattle.std.proofs.lemmas.List.Elements.{filter-append}
use Rattle.sector_model.specs.History.{Bytes}
use Rattle.parity.specs.Xor.{xor_of, xor_of_all, zero_sector}
use Rattle.parity.proofs.Laws.{xor_of-comm, xor_of-assoc, xor_of-zero_right, xor_of-zero-xor_of, xor_of_all-append}
use Rattle.degraded.specs.RowValue.{others}

-- one number more
range-more : (a n : ℕ) → range_with_len a (suc n) ≡ range_with_len a n ++ (a + n) ∷ []
range-more a zero = let same : a ≡ a + 0 = omega arith in ap (λ (k : ℕ). k ∷ []) same
range-more a (suc n) =
    let same : a + 1 + n ≡ a + suc n = omega arith in
    ap (λ (rest : List ℕ). a ∷ rest) (range-more (a + 1) n ∙ ap (λ (k : ℕ). range_with_len (a + 1) n ++ k ∷ []) same)

members-more : (n : ℕ) → range_with_len 0 (n + 1) ≡ range_with_len 0 n ++ n ∷ []
members-more n =
    let next : n + 1 ≡ suc n = omega arith in
    let same : 0 + n ≡ n = omega arith in
    ap (range_with_len 0) next ∙ range-more 0 n ∙ ap (λ (k : ℕ). range_with_len 0 n ++ k ∷ []) same

-- one sector more
xor_of_all-push : (sectors : List Bytes) (sector : Bytes) → xor_of_all (sectors ++ sector ∷ []) ≡ xor_of (xor_of_all sectors) sector
xor_of_all-push sectors sector =
    xor_of_all-append sectors (sector ∷ []) ∙ sym (xor_of-assoc (xor_of_all sectors) sector zero_sector)
    ∙ xor_of-comm (xor_of (xor_of_all sectors) sector) zero_sector ∙ xor_of-zero-xor_of (xor_of_all sectors) sector

-- the XOR over one member more
pub xor_members-more : (f : ℕ → Bytes) (n : ℕ) → xor_of_all (map f (range_with_len 0 (n + 1))) ≡ xor_of (xor_of_all (map f (range_with_len 0 n))) (f n)
xor_members-more f n = ap (λ (members : List ℕ). xor_of_all (map f members)) (members-more n) ∙ ap xor_of_all (map_push f (range_with_len 0 n) n)
    ∙ xor_of_all-push (map f (range_with_len 0 n)) (f n)

others-more : (member n : ℕ) → others (n + 1) member ≡ others n member ++ cond (not (n == member)) (n ∷ []) []
others-more member n =
    ap (λ (members : List ℕ). filter (λ (other : ℕ). not (other == member)) members) (members-more n)
    ∙ filter-append (λ (other : ℕ). not (other == member)) (range_with_len 0 n) (n ∷ [])

-- the XOR over the others, with one member more that is one of them
pub xor_others-more : (f : ℕ → Bytes) (member n : ℕ) → n ≢ member
    → xor_of_all (map f (others (n + 1) member)) ≡ xor_of (xor_of_all (map f (others n member))) (f n)
xor_others-more f member n apart =
    let more : others (n + 1) member ≡ others n member ++ n ∷ [] =
    others-more member n ∙ ap (λ (b : Bool). others n member ++ cond (not b) (n ∷ []) []) (ne_eqb n member apart) in
    ap (λ (members : List ℕ). xor_of_all (map f members)) more ∙ ap xor_of_all (map_push f (others n member) n)
    ∙ xor_of_all-push (map f (others n member)) (f n)

-- the XOR over the others, with that member itself
pub xor_others-same : (f : ℕ → Bytes) (member n : ℕ) → n ≡ member → xor_of_all (map f (others (n + 1) member)) ≡ xor_of_all (map f (others n member))
xor_others-same f member n same =
    let more : others (n + 1) member ≡ others n member =
    others-more member n ∙ ap (λ (b : Bool). others n member ++ cond (not b) (n ∷ []) []) (eq-eqb n member same) ∙ append-nil (others n member) in
    ap (λ (members : List ℕ). xor_of_all (map f members)) more

-- a sector that is known, or zero where none is, XORed in
pub xor_some : (to sector : Bytes) (option : Option Bytes) → option ≡ Some sector → xor_of to sector ≡ xor_of to (unwrap_or option zero_sector)
xor_some to sector option is = ap (λ (o : Option Bytes). xor_of to (unwrap_or o zero_sector)) (sym is)

pub xor_none : (to : Bytes) (option : Option Bytes) → length to ≡ 512 → option ≡ None → to ≡ xor_of to (unwrap_or option zero_sector)
xor_none to option long is = sym (ap (λ (o : Option Bytes). xor_of to (unwrap_or o zero_sector)) is ∙ xor_of-zero_right to long)
