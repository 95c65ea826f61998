-- What a seal may say, as tests.
use Rattle.std.proofs.Common.{◌≡◌, ◌↔◌, ℕ, ◌+◌, ◌∙◌, Bool, true, false, nat_lt, List, get_or, IsTrue, refl, sym, subst, ap, arith}
use Rattle.std.specs.List.{IsAllAdjacentAnswer}
use Rattle.std.specs.List.Sorted.{IsStrictlyIncreasing}
use denote.Struct.Props.{props}
use Rattle.stripe_journal.specs.declared.form.Form.{Form}
use Rattle.stripe_journal.specs.Forms.{IsForm, rows_in}
use Rattle.stripe_journal.specs.Seals.{IsSeal}
use Rattle.stripe_journal.specs.declared.seal.Seal.{Seal}
use Rattle.std.proofs.lemmas.Bool.{false≢true}
use borrow.Author.Tests.{ltb-true, ltb-false}

-- what the test of neighbours answers
pub rising_from : (rows : List ℕ) (r : Bool) → IsAllAdjacentAnswer (λ x y b. b ≡ nat_lt x y) rows r → IsTrue r ↔ IsStrictlyIncreasing rows
rising_from rows true h = (λ _ k within. ltb-true (get_or rows k 0) (get_or rows (k + 1) 0) (sym (h k 0 within)), λ _. refl)
rising_from rows false h = (
  λ e. absurd (false≢true e),
  λ rising. absurd (omega (arith, rising h.0 h.1, ltb-false (get_or rows h.0 0) (get_or rows (h.0 + 1) 0) (sym (h.2 0)))),
)

-- there is one proof that a seal may say this
pub IsSeal-prop : (number : ℕ) (rows : List ℕ) → IsProp (IsSeal number rows)
IsSeal-prop number rows = hlevel props

-- and that it may say this of what its entry holds
IsForm-prop : (form : Form) → IsProp (IsForm form)
IsForm-prop form = hlevel props

-- the seal with this id, number and form
seal_of : (id : List ℕ) (number : ℕ) (form : Form) → IsSeal number (rows_in form) → IsForm form → Seal
seal_of id number form allowed formed = record { id = id; number = number; form = form; allowed = allowed; formed = formed }

-- a seal is known by its id, number and form
pub same_seal : (a b : Seal) → a.id ≡ b.id → a.number ≡ b.number → a.form ≡ b.form → a ≡ b
unfolding seal_of
same_seal a b id number form =
    subst (λ (i : List ℕ). a ≡ seal_of i b.number b.form b.allowed b.formed) id
    (subst (λ (n : ℕ). (q : IsSeal n (rows_in b.form)) → a ≡ seal_of a.id n b.form q b.formed) number
    (λ q. subst (λ (m : Form). (q : IsSeal a.number (rows_in m)) (f : IsForm m) → a ≡ seal_of a.id a.number m q f) form
    (λ q f. ap (λ (p : IsSeal a.number (rows_in a.form)). seal_of a.id a.number a.form p a.formed)
    (IsSeal-prop a.number (rows_in a.form) a.allowed q)
    ∙ ap (seal_of a.id a.number a.form q) (IsForm-prop a.form a.formed f)) q b.formed) b.allowed)
