use Rattle.std.proofs.Common.{sym}
use Rattle.std.proofs.lemmas.Result.{err_from_is_err_and}
use Rattle.array_io.specs.Believed.OpenArray.{IsHonest}
use Rattle.batch.specs.Batches.{waiting}
use Rattle.scrub.specs.Reports.{report_of}
use Rattle.volume_table.specs.OpenStore.{store_view}
use Rattle.server.proofs.Committing.{commit_cut, commit_done, commit_for_good, commit_lost, commit_lost_cut, fault_for_good}
use Rattle.server.proofs.waiting.commit_waiting.Goals as goal

pub returns-in_err-write_reply-clause-comes : goal.returns-in_err-write_reply-clause-comes
returns-in_err-write_reply-clause-comes g c = λ first start was parts left ahead remaining so come.
    let p = err_from_is_err_and c.from_residual.result c.from_residual.ensures.1 in
    rw (p.1, p.2) (commit_lost_cut (g.B.Bank.honest first) start was (IsHonest c.args.store.now.array) so parts left ahead (store_view c.args.store.now)
    (store_view c.commit_staged.new.self) remaining _ (g.W.Write.contents c.write_reply.new.writer) (waiting c.args.held.now.batch)
    c.args.held.now.replies.items (report_of c.args.held.now.scrubbed) c.requires.going c.commit_staged.result c.commit_staged.ensures.commits come
    c.in-Err.refusal c.in-Err.is c.in_err-write_reply.ensures.part c.in_err-write_reply.field-0.0 c.in_err-write_reply.ensures.kind)

pub returns-in-Err-clause-comes : goal.returns-in-Err-clause-comes
returns-in-Err-clause-comes g c = λ first start was parts left ahead remaining so come.
    commit_lost (g.B.Bank.honest first) start was (IsHonest c.args.store.now.array) so parts left ahead (store_view c.args.store.now)
    (store_view c.commit_staged.new.self) remaining _ (g.W.Write.contents c.write_reply.new.writer) (waiting c.args.held.now.batch)
    c.args.held.now.replies.items (report_of c.args.held.now.scrubbed) c.requires.going c.commit_staged.result c.commit_staged.ensures.commits come
    c.in-Err.refusal c.in-Err.is c.in_ok-write_reply.ensures.ok

pub returns-in_err-write_replies-clause-comes : goal.returns-in_err-write_replies-clause-comes
returns-in_err-write_replies-clause-comes g c = λ first start was parts left ahead remaining so come.
    let p = err_from_is_err_and c.from_residual-in_err-write_replies.result c.from_residual-in_err-write_replies.ensures.1 in
    rw (p.1, p.2) (commit_cut (g.B.Bank.honest first) start was (IsHonest c.args.store.now.array) so parts left ahead (store_view c.args.store.now)
    (store_view c.commit_staged.new.self) remaining _ (g.W.Write.contents c.write_replies.new.writer) (waiting c.args.held.now.batch)
    c.args.held.now.replies.items (report_of c.args.held.now.scrubbed) c.requires.going c.commit_staged.result c.commit_staged.ensures.commits come
    c.in_default.is (rw (sym c.as_slice.ensures.value) c.in_err-write_replies.ensures.part) c.in_err-write_replies.field-0.0
    c.in_err-write_replies.ensures.kind)

pub returns-clause-comes : goal.returns-clause-comes
returns-clause-comes g c = λ first start was parts left ahead remaining so come.
    commit_done (g.B.Bank.honest first) start was (IsHonest c.args.store.now.array) so parts left ahead (store_view c.args.store.now)
    (store_view c.commit_staged.new.self) remaining _ (g.W.Write.contents c.write_replies.new.writer) (waiting c.args.held.now.batch)
    c.args.held.now.replies.items (report_of c.args.held.now.scrubbed) c.requires.going c.commit_staged.result c.commit_staged.ensures.commits come
    c.in_default.is (rw (sym c.as_slice.ensures.value) c.in_ok-write_replies.ensures.ok)

pub returns-in_err-write_reply-clause-good : goal.returns-in_err-write_reply-clause-good
returns-in_err-write_reply-clause-good g c =
    let p = err_from_is_err_and c.from_residual.result c.from_residual.ensures.1 in
    rw (p.1, p.2) (fault_for_good c.in_err-write_reply.field-0.0 c.in_err-write_reply.ensures.kind)

pub returns-in-Err-clause-good : goal.returns-in-Err-clause-good
returns-in-Err-clause-good g c =
    commit_for_good (IsHonest c.args.store.now.array) (store_view c.args.store.now) (store_view c.commit_staged.new.self) (waiting c.args.held.now.batch)
    c.commit_staged.result c.in-Err.refusal c.requires.going c.requires.holds c.commit_staged.ensures.commits c.in-Err.is

pub returns-in_err-write_replies-clause-good : goal.returns-in_err-write_replies-clause-good
returns-in_err-write_replies-clause-good g c =
    let p = err_from_is_err_and c.from_residual-in_err-write_replies.result c.from_residual-in_err-write_replies.ensures.1 in
    rw (p.1, p.2) (fault_for_good c.in_err-write_replies.field-0.0 c.in_err-write_replies.ensures.kind)
