-- What holds of each member so far, and of one more; and the table's trust, and a slot's state, as code finds it.
use denote.Enum.Bare.{sameb}
use Rattle.std.proofs.Common.{◌≡◌, ◌≢◌, ◌↔◌, inl, inr, ℕ, ◌+◌, ◌<◌, Bool, true, false, not, IsTrue, refl, sym, ◌∙◌, ap, subst, arith}
use Rattle.std.proofs.lemmas.Bool.{cases_eq, false≢true}
use Rattle.superblock.specs.contracts.state.State.{the_type}
use Rattle.superblock.specs.declared.state.State.{State}
use Rattle.superblock.specs.declared.state.State.TheVariants.{InSync, Missing, Rebuilding}

-- what follows of each below a number, and of the number
pub one_more : (P Q : ℕ → Type 0) (n : ℕ) → ((k : ℕ) → k < n → P k → Q k) → (P n → Q n) → (k : ℕ) → k < n + 1 → P k → Q k
one_more P Q n before here k below holds =
    elim (cases_eq k n) [
      | inl same ↦ subst Q (sym same) (here (subst P same holds))
      | inr other ↦ before k (omega arith) holds
    ]

-- an answer in one row, by what is known of each row and member
pub said_of : (f t : ℕ → ℕ → Bool) (members row from member : ℕ) (answer b : Bool) → ((row member : ℕ) → member < members → f row member ≡ t row member)
    → member < members → from ≡ row → answer ≡ f from member → answer ≡ b → t row member ≡ b
said_of f t members row from member answer b reads within same is said =
    sym (reads row member within) ∙ (ap (λ r. f r member) (sym same) ∙ (sym is ∙ said))

-- where the first is not so, the second is not, which rests on it
pub neither : (P Q : Type 0) (answer : Bool) → (IsTrue answer ↔ P) → answer ≡ false → (Q → P) → IsTrue false ↔ Q
neither P Q answer is off on = (λ no. absurd (false≢true no), λ q. absurd (false≢true (sym off ∙ is.1 (on q))))

-- two values that a test tells apart
pub unlike : {T : Type 0} (test : T → Bool) (first second : T) → test first ≡ false → test second ≡ true → first ≢ second
unlike test first second off on same = false≢true (sym off ∙ (ap test same ∙ on))

-- a state that the test finds missing is missing, and another one is not
pub is_missing : (state : State) → sameb the_type state Missing ≡ true → state ≡ Missing
is_missing Missing found = refl
is_missing InSync found = absurd (false≢true found)
is_missing Rebuilding found = absurd (false≢true found)

pub not_missing : (state : State) → sameb the_type state Missing ≡ false → state ≢ Missing
not_missing state other = unlike (λ (s : State). sameb the_type s Missing) state Missing other refl

-- a state that the test doesn't find other than in sync is in sync
pub is_in_sync : (state : State) → not (sameb the_type state InSync) ≡ false → state ≡ InSync
is_in_sync InSync same = refl
is_in_sync Missing same = absurd (false≢true (sym same))
is_in_sync Rebuilding same = absurd (false≢true (sym same))

pub not_in_sync : (state : State) → not (sameb the_type state InSync) ≡ true → state ≢ InSync
not_in_sync state other same = unlike (λ (s : State). not (sameb the_type s InSync)) InSync state refl other (sym same)
