use contract.BorrowLft.{⊑_static, ⊑_trans}
use Rattle.std.proofs.lemmas.Result.{IfErr-weaker, err_from_is_err_and, on_ok_weaker}
use Rattle.raidtool.proofs.Causes.{by_refusal, not_memory}
use Rattle.raidtool.proofs.make.refuse_other_set.Goals as goal

pub refuse_other-requires-lives-B-Bank : goal.refuse_other-requires-lives-B-Bank
refuse_other-requires-lives-B-Bank g c κs within = ⊑_trans _ _ _ (⊑_static _) c.type_bounds.static-F

pub returns-clause-none : goal.returns-clause-none
returns-clause-none g c = on_ok_weaker c.refuse_other.result (λ none. (_, _, c.in_ok-bank.ensures.begins, none)) c.refuse_other.ensures.none

pub returns-in_err-bank-clause-cause : goal.returns-in_err-bank-clause-cause
returns-in_err-bank-clause-cause g c =
    let from = err_from_is_err_and c.from_residual.result c.from_residual.ensures.1 in
    rw (from.1, from.2) (by_refusal _ _ (λ other. absurd (not_memory _ other c.in_err-bank.ensures.err)))

pub returns-clause-cause : goal.returns-clause-cause
returns-clause-cause g c = IfErr-weaker c.refuse_other.result _ _
    (λ fault refuses refusal same other. (_, c.in_ok-bank.ensures.begins, c.in_ok-bank.ensures.devices, _, rw same at refuses)) c.refuse_other.ensures.fault
