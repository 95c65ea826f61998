-- How the candidate of a number gets into its sector.
use Rattle.std.proofs.Common.{◌≡◌, ◌≢◌, inl, inr, ◌≤◌, ◌<◌, ◌-◌, ℕ, zero, suc, Bool, true, false, List, [], ◌∷◌, ◌++◌, length, get_or, refl, sym, ◌∙◌, ap}
use Rattle.std.proofs.Common.{subst, arith, ◌==◌}
use Rattle.std.specs.Prelude.{if◌then◌else◌, slice_set}
use native.Mathlib.Numerals.{unary_clauses}
use Rattle.std.proofs.lemmas.Bool.{cases_eq, eq-eqb}
use Rattle.std.proofs.lemmas.List.{get_or-set_same, get_or-set_other}
use Rattle.sector_model.specs.History.{Bytes, sector_of}
use Rattle.sector_model.proofs.Replay.{eqb_other}

-- the number counts down, and at 0 the value is put
counted : (n : ℕ) (first v : Bytes) (rest : List Bytes) → get_or ((if n == 1 then v else first) ∷ rest) (n - 1) [] ≡ get_or (first ∷ v ∷ rest) n []
counted zero first v rest = refl
counted (suc zero) first v rest = refl
counted (suc (suc n)) first v rest = simp unary_clauses

put_here : (b : Bool) (disk : List Bytes) (at : ℕ) (v : Bytes) → at < length disk
    → sector_of (if b then slice_set disk at v else disk) at ≡ (if b then v else sector_of disk at)
put_here true disk at v within = get_or-set_same disk at v [] within
put_here false disk at v within = refl

put_elsewhere : (b : Bool) (disk : List Bytes) (at : ℕ) (v : Bytes) (a : ℕ) → a ≢ at → sector_of (if b then slice_set disk at v else disk) a ≡ sector_of disk a
put_elsewhere true disk at v a other = get_or-set_other disk at a v [] other
put_elsewhere false disk at v a other = refl

-- what is left of the number of a sector, after a candidate of one of them
abbrev pub numbers_left : List ℕ → (at : ℕ) → List ℕ
numbers_left numbers at = slice_set numbers at (get_or numbers at 0 - 1)

-- the sectors after it
abbrev pub disk_left : List Bytes → List ℕ → (at : ℕ) → Bytes → List Bytes
disk_left disk numbers at v = if get_or numbers at 0 == 1 then slice_set disk at v else disk

-- the candidates that one of a sector puts into each
abbrev pub put_at : (at : ℕ) → Bytes → (a : ℕ) → List Bytes
put_at at v a = if a == at then v ∷ [] else []

at_same : (at : ℕ) (v : Bytes) → put_at at v at ≡ v ∷ []
at_same at v = ap (λ (b : Bool). if b then v ∷ [] else []) (eq-eqb at at refl)

at_other : (at a : ℕ) (v : Bytes) → a ≢ at → put_at at v a ≡ []
at_other at a v other = ap (λ (b : Bool). if b then v ∷ [] else []) (eqb_other a at other)

chosen_by : (disk : List Bytes) (numbers : List ℕ) (at : ℕ) (v : Bytes) (rest : List Bytes) (a : ℕ) → a < length disk → a < length numbers
    → get_or (sector_of (disk_left disk numbers at v) a ∷ rest) (get_or (numbers_left numbers at) a 0) [] ≡ get_or (sector_of disk a ∷ (put_at at v a ++ rest))
    (get_or numbers a 0) []
chosen_by disk numbers at v rest a within counts = elim (cases_eq at a) [
  | inl same ↦ subst (λ (k : ℕ). get_or (sector_of (disk_left disk numbers k v) a ∷ rest) (get_or (numbers_left numbers k) a 0) [] ≡ get_or
      (sector_of disk a ∷ (put_at k v a ++ rest)) (get_or numbers a 0) []) (sym same)
      (ap (λ (s : Bytes). get_or (s ∷ rest) (get_or (numbers_left numbers a) a 0) []) (put_here (get_or numbers a 0 == 1) disk a v within)
      ∙ ap (λ (n : ℕ). get_or ((if get_or numbers a 0 == 1 then v else sector_of disk a) ∷ rest) n [])
      (get_or-set_same numbers a (get_or numbers a 0 - 1) 0 counts)
      ∙ counted (get_or numbers a 0) (sector_of disk a) v rest
      ∙ sym (ap (λ (l : List Bytes). get_or (sector_of disk a ∷ (l ++ rest)) (get_or numbers a 0) []) (at_same a v)))
  | inr other ↦ let elsewhere : a ≢ at = λ is. other (sym is) in
      ap (λ (s : Bytes). get_or (s ∷ rest) (get_or (numbers_left numbers at) a 0) []) (put_elsewhere (get_or numbers at 0 == 1) disk at v a elsewhere)
      ∙ ap (λ (n : ℕ). get_or (sector_of disk a ∷ rest) n []) (get_or-set_other numbers at a (get_or numbers at 0 - 1) 0 elsewhere)
      ∙ sym (ap (λ (l : List Bytes). get_or (sector_of disk a ∷ (l ++ rest)) (get_or numbers a 0) []) (at_other at a v elsewhere))
]

left_by : (numbers : List ℕ) (at : ℕ) (v : Bytes) (rest : List Bytes) (a : ℕ) → a < length numbers → get_or numbers a 0 ≤ length (put_at at v a ++ rest)
    → get_or (numbers_left numbers at) a 0 ≤ length rest
left_by numbers at v rest a counts most = elim (cases_eq at a) [
  | inl same ↦ omega (
    arith,
    ap (λ (k : ℕ). get_or (numbers_left numbers k) a 0) same,
    get_or-set_same numbers a (get_or numbers a 0 - 1) 0 counts,
    ap (λ (k : ℕ). length (put_at k v a ++ rest)) same,
    ap (λ (l : List Bytes). length (l ++ rest)) (at_same a v),
  )
  | inr other ↦ let elsewhere : a ≢ at = λ is. other (sym is) in
      omega (
        arith,
        get_or-set_other numbers at a (get_or numbers at 0 - 1) 0 elsewhere,
        ap (λ (l : List Bytes). length (l ++ rest)) (at_other at a v elsewhere),
      )
]

-- One sector before and after an entry: what stands there, the number that is left, and the candidates that the entries from here on put. The
-- candidate of the number is the same, and the entries still put as many as that.
pub record IsSameChoice (s s' : Bytes) (n n' : ℕ) (all rest : List Bytes) : Type 0 where
  pub left : n ≤ length all → n' ≤ length rest
  pub chosen : get_or (s' ∷ rest) n' [] ≡ get_or (s ∷ all) n []

-- the entry puts a candidate
pub same_choice : (disk disk' : List Bytes) (numbers numbers' : List ℕ) (at : ℕ) (v : Bytes) (a : ℕ) (puts all rest : List Bytes) → all ≡ puts ++ rest
    → puts ≡ put_at at v a
    → disk' ≡ disk_left disk numbers at v → numbers' ≡ numbers_left numbers at → a < length disk → length numbers ≡ length disk
    → IsSameChoice (sector_of disk a) (sector_of disk' a) (get_or numbers a 0) (get_or numbers' a 0) all rest
same_choice disk disk' numbers numbers' at v a puts all rest first is disk_is numbers_is within as_many =
    let counts : a < length numbers = omega (arith, as_many, within) in
    let all_is : all ≡ put_at at v a ++ rest = first ∙ ap (λ (l : List Bytes). l ++ rest) is in record {
      left = λ most. subst (λ (l : List ℕ). get_or l a 0 ≤ length rest) (sym numbers_is)
          (left_by numbers at v rest a counts (subst (λ (l : List Bytes). get_or numbers a 0 ≤ length l) all_is most));
      chosen = ap (λ (l : List Bytes). get_or (sector_of l a ∷ rest) (get_or numbers' a 0) []) disk_is
          ∙ ap (λ (l : List ℕ). get_or (sector_of (disk_left disk numbers at v) a ∷ rest) (get_or l a 0) []) numbers_is
          ∙ chosen_by disk numbers at v rest a within counts
          ∙ ap (λ (l : List Bytes). get_or (sector_of disk a ∷ l) (get_or numbers a 0) []) (sym all_is);
    }

-- the entry puts none
pub same_choice_none : (disk disk' : List Bytes) (numbers numbers' : List ℕ) (a : ℕ) (puts all rest : List Bytes) → all ≡ puts ++ rest → puts ≡ []
    → disk' ≡ disk → numbers' ≡ numbers → IsSameChoice (sector_of disk a) (sector_of disk' a) (get_or numbers a 0) (get_or numbers' a 0) all rest
same_choice_none disk disk' numbers numbers' a puts all rest first is disk_is numbers_is =
    let all_is : all ≡ rest = first ∙ ap (λ (l : List Bytes). l ++ rest) is in record {
      left = λ most. subst (λ (l : List ℕ). get_or l a 0 ≤ length rest) (sym numbers_is)
          (subst (λ (l : List Bytes). get_or numbers a 0 ≤ length l) all_is most);
      chosen = ap (λ (l : List Bytes). get_or (sector_of l a ∷ rest) (get_or numbers' a 0) []) disk_is
          ∙ ap (λ (l : List ℕ). get_or (sector_of disk a ∷ rest) (get_or l a 0) []) numbers_is
          ∙ ap (λ (l : List Bytes). get_or (sector_of disk a ∷ l) (get_or numbers a 0) []) (sym all_is);
    }
