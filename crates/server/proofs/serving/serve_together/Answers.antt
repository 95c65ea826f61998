use Rattle.std.proofs.Common.{[], ap, refl, sym, ◌∙◌, ◌≡◌, ℕ}
use Rattle.std.proofs.lemmas.Result.{err_from_is_err_and}
use Rattle.batch.specs.Batches.{waiting}
use Rattle.volume_table.specs.OpenStore.{store_view}
use Rattle.server.proofs.Coming.{come_ready, ready_together, waits_none}
use Rattle.server.proofs.Together.{good_to_ready, goes_on, had_come, not_done, taken_for_good, then_commits}
use Rattle.server.specs.Ends.{replies_of}
use Rattle.server.proofs.serving.serve_together.Goals as goal

pub take_writes-taken-requires-clause-holds : goal.take_writes-taken-requires-clause-holds
take_writes-taken-requires-clause-holds g c = waits_none (store_view c.args.store.now) (waiting c.args.held.now.batch) c.requires.waits

pub returns-then-is_for_good-clause-serves : goal.returns-then-is_for_good-clause-serves
returns-then-is_for_good-clause-serves g c = λ first start was opening so request ready.
    let good = c.is_for_good.ensures.good c.if-is_for_good.true in
    taken_for_good (g.B.Bank.honest first) start was _ _ c.take_writes-taken.result good.0 good.1
    (c.take_writes-taken.ensures.comes first start was so
    (come_ready (g.B.Bank.honest first) start was [] c.args.count [] _ _ _ _ _ c.requires.waits (ap replies_of c.requires.replies)
    (ready_together (g.B.Bank.honest first) start was opening c.args.count _ _ _ request c.requires.least c.requires.most ready)))

pub returns-then-is_for_good-clause-waits : goal.returns-then-is_for_good-clause-waits
returns-then-is_for_good-clause-waits g c =
    not_done _ c.take_writes-taken.result (c.is_for_good.ensures.good c.if-is_for_good.true).1

pub returns-then-is_for_good-clause-replies : goal.returns-then-is_for_good-clause-replies
returns-then-is_for_good-clause-replies g c =
    not_done _ c.take_writes-taken.result (c.is_for_good.ensures.good c.if-is_for_good.true).1

pub commit_waiting-requires-clause-going : goal.commit_waiting-requires-clause-going
commit_waiting-requires-clause-going g c =
    goes_on _ c.take_writes-taken.result c.take_writes-taken.ensures.going c.take_writes-taken.ensures.still
    (c.is_for_good.ensures.not c.if-is_for_good.false)

pub returns-in_err-commit_waiting-clause-serves : goal.returns-in_err-commit_waiting-clause-serves
returns-in_err-commit_waiting-clause-serves g c = λ first start was opening so request ready.
    let p = err_from_is_err_and c.from_residual.result c.from_residual.ensures.1 in
    let had = had_come (g.B.Bank.honest first) start was _ c.take_writes-taken.result (c.is_for_good.ensures.not c.if-is_for_good.false)
    (c.take_writes-taken.ensures.comes first start was so
    (come_ready (g.B.Bank.honest first) start was [] c.args.count [] _ _ _ _ _ c.requires.waits (ap replies_of c.requires.replies)
    (ready_together (g.B.Bank.honest first) start was opening c.args.count _ _ _ request c.requires.least c.requires.most ready))) in
    rw (p.1, p.2) (good_to_ready (g.B.Bank.honest first) start was _ _ c.in_err-commit_waiting.field-0.0
    (c.in_err-commit_waiting.ensures.comes first start was [] had.left had.ahead (g.R.Read.remaining c.take_writes-taken.new.reader)
    (λ fair. c.take_writes-taken.ensures.honest.0 (so fair)) had.come))

pub returns-clause-serves : goal.returns-clause-serves
returns-clause-serves g c = λ first start was opening so request ready.
    then_commits (g.B.Bank.honest first) start was _ _ _ _ c.take_writes-taken.result
    (λ left ahead come. c.in_ok-commit_waiting.ensures.comes first start was [] left ahead (g.R.Read.remaining c.take_writes-taken.new.reader)
    (λ fair. c.take_writes-taken.ensures.honest.0 (so fair)) come)
    (c.is_for_good.ensures.not c.if-is_for_good.false)
    (c.take_writes-taken.ensures.comes first start was so
    (come_ready (g.B.Bank.honest first) start was [] c.args.count [] _ _ _ _ _ c.requires.waits (ap replies_of c.requires.replies)
    (ready_together (g.B.Bank.honest first) start was opening c.args.count _ _ _ request c.requires.least c.requires.most ready)))
