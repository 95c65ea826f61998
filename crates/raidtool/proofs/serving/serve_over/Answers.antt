use contract.BorrowLft.{⊑_static, ⊑_trans}
use Rattle.server.proofs.Opened.{last_ends}
use Rattle.raidtool.proofs.ServedRuns.{memory_ends, ready_none, ready_run}
use Rattle.raidtool.proofs.serving.serve_over.Goals as goal

pub serve_replaced-requires-lives-B-Bank : goal.serve_replaced-requires-lives-B-Bank
serve_replaced-requires-lives-B-Bank g c κs within = ⊑_trans _ _ _ (⊑_static _) c.type_bounds.static-F

pub serve_replaced-requires-lives-B-Destruct : goal.serve_replaced-requires-lives-B-Destruct
serve_replaced-requires-lives-B-Destruct g c κs within = ⊑_trans _ _ _ (⊑_static _) c.type_bounds.static-F

pub returns-in-Ok-clause-over : goal.returns-in-Ok-clause-over
returns-in-Ok-clause-over g c = ready_run g.F.Growing g.F.BankFile.left c.args.id c.args.slot _ _ _ _ c.serve_replaced.result
    c.in-Ok.ensures.begins c.serve_replaced.ensures.serves

pub returns-in-Ok-clause-end : goal.returns-in-Ok-clause-end
returns-in-Ok-clause-end g c = c.serve_replaced.ensures.end

pub returns-in-Err-clause-over : goal.returns-in-Err-clause-over
returns-in-Err-clause-over g c = ready_none g.F.Growing g.F.BankFile.left c.args.id c.args.slot _ _ _ _ _ c.write_last.result c.in-Err.ensures.err
    c.write_last.ensures

pub returns-in-Err-clause-end : goal.returns-in-Err-clause-end
returns-in-Err-clause-end g c = last_ends _ _ _ c.write_last.result (memory_ends _ c.in-Err.ensures.err) c.write_last.ensures
