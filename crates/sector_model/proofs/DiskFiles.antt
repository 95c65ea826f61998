-- The bytes of a device's sectors, one sector after the other.
use Rattle.std.proofs.Common.{◌≡◌, ⊎_elim, ℕ, ◌+◌, ◌*◌, ◌<◌, ◌≤◌, List, [], ◌++◌, length, get_or, take, sym, ◌∙◌, ap, subst, arith}
use Rattle.std.proofs.lemmas.Bool.{cases_lt}
use Rattle.std.proofs.lemmas.List.{get_or_append_left, get_or-append-add, get_or-take, length-take-le, take_all}
use Rattle.sector_model.specs.History.{Bytes}
use Rattle.sector_model.specs.Files.{HoldsDisk}

pub holds_none : (byte : ℕ → ℕ) → HoldsDisk byte []
holds_none byte = record { each = λ a k there small. absurd (omega (arith, there)) }

-- one sector more
pub holds_more : (old new : List ℕ) (disk : List Bytes) (n : ℕ) → new ≡ old ++ get_or disk n [] → length old ≡ 512 * n → n < length disk
    → HoldsDisk (λ p. get_or old p 0) (take n disk)
    → HoldsDisk (λ p. get_or new p 0) (take (n + 1) disk)
holds_more old new disk n is size within was = record {
  each = λ a k there small. ⊎_elim
      (λ (lt : a < n). ap (λ (l : List ℕ). get_or l (512 * a + k) 0) is
      ∙ get_or_append_left old (get_or disk n []) 0 (512 * a + k) (omega (arith, size, lt, small))
      ∙ was.each a k (omega (arith, lt, length-take-le n disk (omega (arith, within)))) small
      ∙ ap (λ (l : Bytes). get_or l k 0) (get_or-take n disk a [] lt ∙ sym (get_or-take (n + 1) disk a [] (omega (arith, lt)))))
      (λ (ge : n ≤ a). at_end a k (omega (arith, there, ge, length-take-le (n + 1) disk (omega (arith, within)))))
      (cases_lt a n);
}
  where
    at_end : (a k : ℕ) → a ≡ n → get_or new (512 * a + k) 0 ≡ get_or (get_or (take (n + 1) disk) a []) k 0
    at_end a k last =
        ap (λ (l : List ℕ). get_or l (512 * a + k) 0) is ∙ ap (λ (i : ℕ). get_or (old ++ get_or disk n []) i 0) (omega (arith, last, size))
        ∙ get_or-append-add old (get_or disk n []) k 0
        ∙ ap (λ (l : Bytes). get_or l k 0) (sym (get_or-take (n + 1) disk n [] (omega arith)) ∙ ap (λ (i : ℕ). get_or (take (n + 1) disk) i []) (sym last))

pub holds_all : {byte : ℕ → ℕ} (disk : List Bytes) (n : ℕ) → length disk ≤ n → HoldsDisk byte (take n disk) → HoldsDisk byte disk
holds_all {byte = byte} disk n past = subst (HoldsDisk byte) (take_all n disk past)

pub size_more : {new old size : ℕ} (n : ℕ) → new ≡ old + size → old ≡ 512 * n → size ≡ 512 → new ≡ 512 * (n + 1)
size_more n is was sector = omega (arith, is, was, sector)

pub size_all : {size count : ℕ} (n : ℕ) → size ≡ 512 * n → count ≤ n → n ≤ count → size ≡ 512 * count
size_all n is past within = omega (arith, is, past, within)
