-- Steps that give something, and steps after them.
use Rattle.std.proofs.Common.{◌≡◌, Result, Ok, Err, subst}
use Rattle.std.specs.Prelude.{IfOk}
use Rattle.sector_model.specs.declared.refusal.Refusal.{Refusal}
use Rattle.sector_model.specs.History.{History}
use Rattle.superblock.specs.declared.table.Table.{Table}
use Rattle.array_io.specs.Believed.Views.{ArrayView}
use Rattle.array_io.specs.Steps.Putting.{HoldsAll, IfSingleFailure, PutsFrom}
use Rattle.array_io.specs.Steps.PuttingSteps.{Brings}
use Rattle.array_io.proofs.Calls.CallSteps.{steps_both, steps_more, steps_refused}
use Rattle.recovery.specs.Replaying.{BringsTo, answer_to}

abbrev State : Type 1
State = PutsFrom → Table → History → Type 0

module _ {A : Type 0} (honest : Type 0) (before : State) (after : A → State) (old new : ArrayView) (result : Result A Refusal)
    (steps : BringsTo honest before after old new result) where
  -- what they gave is known
  pub brings_value : (value : A) → result ≡ Ok value → Brings honest before (after value) old new (Ok tt)
  brings_value value is = subst (BringsTo honest before after old new) is steps

  -- they were refused, and what they would have given is free
  pub brings_refused : {B : Type 0} (beyond : B → State) (refusal : Refusal) → result ≡ Err refusal → BringsTo honest before beyond old new (Err refusal)
  brings_refused beyond refusal is = steps_refused honest HoldsAll (IfSingleFailure before) _ _ old new refusal
      (subst (BringsTo honest before after old new) is steps)

-- steps, and then such as give something
pub brings_then : {A : Type 0} (honest still : Type 0) → (honest → still)
    → (before between : State) (after : A → State) (old mid new : ArrayView) (result : Result A Refusal)
    → Brings honest before between old mid (Ok tt) → BringsTo still between after mid new result → BringsTo honest before after old new result
brings_then honest still more before between after old mid new result first second =
    steps_both honest still more HoldsAll (IfSingleFailure before) (IfSingleFailure between)
    (IfSingleFailure (λ from table h. IfOk result (λ value. after value from table h))) old mid new (answer_to result) first second

-- they lead from whatever is more, and to whatever is less
pub brings_from : {A : Type 0} (honest : Type 0) (before before' : State) (after : A → State) (old new : ArrayView) (result : Result A Refusal)
    → ((from : PutsFrom) → before' from old.table old.history → before from old.table old.history) → BringsTo honest before after old new result
    → BringsTo honest before' after old new result
brings_from honest before before' after old new result was steps =
    steps_more honest HoldsAll (IfSingleFailure before) (IfSingleFailure before') _ _ old new (answer_to result)
    (λ from at loss. was from (at loss)) (λ fair ok from at is. is) steps

pub brings_on : (honest : Type 0) (before after after' : State) (old new : ArrayView)
    → ((from : PutsFrom) → after from new.table new.history → after' from new.table new.history) → Brings honest before after old new (Ok tt)
    → Brings honest before after' old new (Ok tt)
brings_on honest before after after' old new follows steps =
    steps_more honest HoldsAll (IfSingleFailure before) (IfSingleFailure before) (IfSingleFailure after) (IfSingleFailure after') old new (Ok tt)
    (λ from at. at) (λ fair ok from at is loss. follows from (is loss)) steps
