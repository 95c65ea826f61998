use contract.BorrowLft.{⊑_static, ⊑_trans}
use Rattle.std.proofs.lemmas.Result.{err_from_is_err_and}
use Rattle.raidtool.proofs.Causes.{by_refusal, not_memory}
use Rattle.raidtool.proofs.MakeEnds.{making_over}
use Rattle.raidtool.proofs.make.make_over.Goals as goal

pub make_alone-requires-lives-B-Bank : goal.make_alone-requires-lives-B-Bank
make_alone-requires-lives-B-Bank g c κs within = ⊑_trans _ _ _ (⊑_static _) c.type_bounds.static-F

pub make_alone-requires-lives-B-Destruct : goal.make_alone-requires-lives-B-Destruct
make_alone-requires-lives-B-Destruct g c κs within = ⊑_trans _ _ _ (⊑_static _) c.type_bounds.static-F

pub returns-clause-made : goal.returns-clause-made
returns-clause-made g c = (_, c.in_ok-bank.ensures.begins, c.in_ok-make_alone.ensures.made)

pub returns-in_err-make_alone-clause-stopped : goal.returns-in_err-make_alone-clause-stopped
returns-in_err-make_alone-clause-stopped g c =
    let from = err_from_is_err_and c.from_residual-in_err-make_alone.result c.from_residual-in_err-make_alone.ensures.1 in
    rw (from.1, from.2) (making_over _ _ _ c.in_ok-bank.ensures.devices c.in_err-make_alone.ensures.fault)

pub returns-in_err-make_alone-clause-cause : goal.returns-in_err-make_alone-clause-cause
returns-in_err-make_alone-clause-cause g c =
    let from = err_from_is_err_and c.from_residual-in_err-make_alone.result c.from_residual-in_err-make_alone.ensures.1 in
    rw (from.1, from.2) (λ refusal same other.
    (_, (_, c.requires.safe, c.in_ok-bank.ensures.begins), c.in_ok-bank.ensures.devices, rw same at c.in_err-make_alone.ensures.cause))

pub returns-in_err-bank-clause-cause : goal.returns-in_err-bank-clause-cause
returns-in_err-bank-clause-cause g c =
    let from = err_from_is_err_and c.from_residual.result c.from_residual.ensures.1 in
    rw (from.1, from.2) (by_refusal _ _ (λ other. absurd (not_memory _ other c.in_err-bank.ensures.err)))
