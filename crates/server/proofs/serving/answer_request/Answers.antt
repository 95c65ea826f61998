use Rattle.std.proofs.Common.{List}
use Rattle.std.proofs.lemmas.Result.{err_from_is_err_and}
use Rattle.array_io.specs.Believed.OpenArray.{IsHonest}
use Rattle.requests.specs.Demands.{demand_of}
use Rattle.volume_table.specs.OpenStore.{store_view}
use Rattle.volume_table.specs.Volumes.{Block}
use Rattle.server.proofs.Answered.{answered_by, answered_cut, at_buffer_err, at_buffer_ok, served_last, served_on}
use Rattle.server.specs.Outcomes.{told_in}
use Rattle.server.proofs.serving.answer_request.Goals as goal

pub returns-in_err-write_told-clause-answers : goal.returns-in_err-write_told-clause-answers
returns-in_err-write_told-clause-answers g c = λ first start was line remaining so_far so request ready.
    let p = err_from_is_err_and c.from_residual.result c.from_residual.ensures.1 in
    let old = store_view c.args.store.now in
    let new = store_view c.answer-outcome.new.store in
    let told = told_in c.answer-outcome.result c.answer-outcome.new.blocks in
    let served = c.answer-outcome.ensures.served c.requires.going in
    rw (p.1, p.2) (answered_cut (g.B.Bank.honest first) start was line old new remaining (g.W.Write.contents c.args.writer.now)
    (g.W.Write.contents c.write_told.new.writer) so_far so_far told
    (served_on (g.B.Bank.honest first) start line (IsHonest c.args.store.now.array) so old new so_far told (demand_of c.args.request.now) request served)
    (served_last (g.B.Bank.honest first) start line (IsHonest c.args.store.now.array) so old new so_far told (demand_of c.args.request.now) request served)
    ready c.in_err-write_told.field-0.0 c.in_err-write_told.ensures.kind c.in_err-write_told.ensures.part)

pub returns-clause-answers : goal.returns-clause-answers
returns-clause-answers g c = λ first start was line remaining so_far so request ready.
    let old = store_view c.args.store.now in
    let new = store_view c.answer-outcome.new.store in
    let buffer = c.answer-outcome.new.blocks in
    let told = told_in c.answer-outcome.result buffer in
    let served = c.answer-outcome.ensures.served c.requires.going in
    answered_by (g.B.Bank.honest first) start was line old new remaining (g.W.Write.contents c.args.writer.now)
    (g.W.Write.contents c.write_told.new.writer) so_far so_far told
    (served_on (g.B.Bank.honest first) start line (IsHonest c.args.store.now.array) so old new so_far told (demand_of c.args.request.now) request served)
    (served_last (g.B.Bank.honest first) start line (IsHonest c.args.store.now.array) so old new so_far told (demand_of c.args.request.now) request served)
    ready c.ended_by.result
    (at_buffer_ok (λ (b : List Block). told_in c.answer-outcome.result b) buffer c.ended_by.result c.ended_by.ensures.going)
    (at_buffer_err (λ (b : List Block). told_in c.answer-outcome.result b) buffer c.ended_by.result c.ended_by.ensures.ended)
    c.in_ok-write_told.ensures.ok
