-- What is there, or is not, is one thing.
use Rattle.std.specs.Prelude.{IsTrue}
use Rattle.std.proofs.Common.{◌≡◌, Bool, false, Option, Some, None}

pub same_found : {A : Type 0} (found : Option A) (x y : A) → found ≡ Some x → found ≡ Some y → x ≡ y
same_found found x y first second = cc

pub not_both : {A : Type 0} (found : Option A) (x : A) → found ≡ None → found ≡ Some x → ⊥
not_both found x none some = absurd cc

-- no answer is both no and yes
pub not_true : (answer : Bool) → answer ≡ false → IsTrue answer → ⊥
not_true answer no_answer is_true = absurd cc
