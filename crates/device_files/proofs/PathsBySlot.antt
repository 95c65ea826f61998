-- The paths of slots, one after another.
use Rattle.std.proofs.Common.{◌≡◌, ◌∙◌, ◌<◌, ◌+◌, ℕ, ap, List, [], ◌∷◌, ◌++◌, length, map, arith, below_more, subst}
use Rattle.std.proofs.Math.Seq.{get_or-append_seam}
use Rattle.std.proofs.lemmas.List.{get_or_append_left, length-map, map-append}
use Rattle.device_files.specs.DeviceFiles.{path_in}

-- one path more is that of the next slot
pub path_next : {X : Type 0} (bytes : X → List ℕ) (P : ℕ → List ℕ) (xs : List X) (x : X) (n : ℕ) → length xs ≡ n
    → ((k : ℕ) → k < n → path_in (map bytes xs) k ≡ P k) → bytes x ≡ P n → (k : ℕ) → k < n + 1 → path_in (map bytes (xs ++ x ∷ [])) k ≡ P k
path_next bytes P xs x n len below here =
    let parts : map bytes (xs ++ x ∷ []) ≡ map bytes xs ++ bytes x ∷ [] = map-append bytes xs (x ∷ []) in
    let long : length (map bytes xs) ≡ n = length-map xs bytes ∙ len in
    below_more (λ (k : ℕ). path_in (map bytes (xs ++ x ∷ [])) k ≡ P k) n
    (λ k under. ap (λ (paths : List (List ℕ)). path_in paths k) parts
    ∙ get_or_append_left (map bytes xs) (bytes x ∷ []) [] k (omega (arith, under, long)) ∙ below k under)
    (ap (λ (paths : List (List ℕ)). path_in paths n) parts
    ∙ subst (λ (j : ℕ). path_in (map bytes xs ++ bytes x ∷ []) j ≡ bytes x) long (get_or-append_seam (map bytes xs) (bytes x) [] []) ∙ here)
