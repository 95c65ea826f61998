use contract.BorrowLft.{⊑_static, ⊑_trans}
use Rattle.std.proofs.lemmas.Result.{err_from_is_err_and}
use Rattle.raidtool.proofs.ServedRuns.{first_none, first_run, memory_ends}
use Rattle.raidtool.proofs.serving.serve_first.Goals as goal

pub serve_set-requires-lives-B-Bank : goal.serve_set-requires-lives-B-Bank
serve_set-requires-lives-B-Bank g c κs within = ⊑_trans _ _ _ (⊑_static _) c.type_bounds.static-F

pub serve_set-requires-lives-B-Destruct : goal.serve_set-requires-lives-B-Destruct
serve_set-requires-lives-B-Destruct g c κs within = ⊑_trans _ _ _ (⊑_static _) c.type_bounds.static-F

pub returns-clause-first : goal.returns-clause-first
returns-clause-first g c = first_run g.F.Growing g.F.BankFile.left c.args.id _ _ _ _ c.serve_set.result c.in_ok-bank.ensures.begins
    c.serve_set.ensures.serves

pub returns-clause-end : goal.returns-clause-end
returns-clause-end g c = c.serve_set.ensures.end

pub returns-in_err-bank-clause-first : goal.returns-in_err-bank-clause-first
returns-in_err-bank-clause-first g c =
    let p = err_from_is_err_and c.from_residual.result c.from_residual.ensures.1 in
    rw (p.1, p.2) (first_none g.F.Growing g.F.BankFile.left c.args.id _ _ _ c.in_err-bank.ensures.err)

pub returns-in_err-bank-clause-end : goal.returns-in_err-bank-clause-end
returns-in_err-bank-clause-end g c =
    let p = err_from_is_err_and c.from_residual.result c.from_residual.ensures.1 in
    rw (p.1, p.2) (memory_ends _ c.in_err-bank.ensures.err)
