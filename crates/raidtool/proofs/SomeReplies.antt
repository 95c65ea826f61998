-- A call over some replies, which either did all that it says or met a fault.
use Rattle.std.proofs.Common.{◌⊎◌, inl, sym}
use Rattle.std.proofs.lemmas.Bool.{true≢false}
use Rattle.std.specs.Prelude.{Err, IfErr, IsOk, Ok, OnErr, OnOk, Result}

module _ {T E : Type 0} where
  pub both_ok : {A B C : Type 0} (result : Result T E) → (A → B → C) → OnOk result A → OnOk result B → OnOk result C
  both_ok (Ok value) joined one other = joined one other
  both_ok (Err fault) joined one other = tt

  pub err_or_other : {A B : Type 0} (Other : E → Type 0) (result : Result T E) → (A → B) → OnErr result A → IfErr result (λ fault. B ⊎ Other fault)
  err_or_other Other (Ok value) so is = tt
  err_or_other Other (Err fault) so is = inl (so is)

  -- what makes it Ok was not so where it met a fault
  pub err_not : {A B May Same : Type 0} (Other : E → Type 0) (result : Result T E) → (A → B) → OnErr result A → (May → IsOk result × Same)
      → IfErr result (λ fault. (B × ¬ May) ⊎ Other fault)
  err_not Other (Ok value) so is may = tt
  err_not Other (Err fault) so is may = inl (so is, λ it. absurd (true≢false (sym (may it).0)))
