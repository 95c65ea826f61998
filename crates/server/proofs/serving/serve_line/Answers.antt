use Rattle.std.proofs.Common.{List, [], ap, refl, subst, sym, take, ◌+◌, ◌∙◌, ◌≡◌, ◌≤◌, ℕ}
use Rattle.std.proofs.lemmas.Result.{err_from_is_err_and}
use Rattle.report.specs.declared.lines.TheConstants.{LONGEST_LINE}
use Rattle.requests.specs.Demands.{Demand, demand_of}
use Rattle.volume_table.specs.OpenStore.{store_view}
use Rattle.server.proofs.Limits.{answered_alone, bad_ready, inside, plain_request, said_as, write_said}
use Rattle.server.proofs.Reading.{line_of}
use Rattle.server.specs.Ends.{HasBadCount}
use Rattle.server.specs.Serving.{blocks_after}
use Rattle.server.specs.declared.counts.TheConstants.{MOST_LINES_TOGETHER, MOST_WRITTEN_AT_ONCE}
use Rattle.server.proofs.serving.serve_line.Goals as goal

pub returns-in_err-request-clause-serves : goal.returns-in_err-request-clause-serves
returns-in_err-request-clause-serves g c = λ first start was bytes so unbroken first_of ready.
    let p = err_from_is_err_and c.from_residual.result c.from_residual.ensures.1 in
    rw (p.1, p.2) (bad_ready (g.B.Bank.honest first) start was _ _ _ bytes c.deref.result.now c.in_err-request.field-0.0
    (c.deref.ensures.value ∙ first_of) unbroken (c.in_err-request.ensures.refused 0) ready)

pub returns-in_err-serve_together-in-Together-clause-serves : goal.returns-in_err-serve_together-in-Together-clause-serves
returns-in_err-serve_together-in-Together-clause-serves g c = λ first start was bytes so unbroken first_of ready.
    let said = c.in_ok-request.ensures.said in
    let first_kept : c.deref.result.now ≡ take (LONGEST_LINE + 1) bytes = c.deref.ensures.value ∙ first_of in
    let p = err_from_is_err_and c.from_residual-in_err-serve_together-in-Together.result c.from_residual-in_err-serve_together-in-Together.ensures.1 in
    rw (p.1, p.2) (c.in_err-serve_together-in-Together.ensures.serves first start was (line_of bytes []) so
    (said_as bytes (demand_of c.in_ok-request.request) _ c.in-Together.ensures
    (plain_request bytes c.deref.result.now (demand_of c.in_ok-request.request) first_kept said.0 unbroken said.1
    (ap blocks_after c.in-Together.ensures))) ready)

pub returns-in_ok-serve_together-in-Together-clause-serves : goal.returns-in_ok-serve_together-in-Together-clause-serves
returns-in_ok-serve_together-in-Together-clause-serves g c = λ first start was bytes so unbroken first_of ready.
    let said = c.in_ok-request.ensures.said in
    let first_kept : c.deref.result.now ≡ take (LONGEST_LINE + 1) bytes = c.deref.ensures.value ∙ first_of in
    c.in_ok-serve_together-in-Together.ensures.serves first start was (line_of bytes []) so
    (said_as bytes (demand_of c.in_ok-request.request) _ c.in-Together.ensures
    (plain_request bytes c.deref.result.now (demand_of c.in_ok-request.request) first_kept said.0 unbroken said.1
    (ap blocks_after c.in-Together.ensures))) ready

pub returns-in_err-scrub_on-in-Scrub-clause-serves : goal.returns-in_err-scrub_on-in-Scrub-clause-serves
returns-in_err-scrub_on-in-Scrub-clause-serves g c = λ first start was bytes so unbroken first_of ready.
    let said = c.in_ok-request.ensures.said in
    let first_kept : c.deref.result.now ≡ take (LONGEST_LINE + 1) bytes = c.deref.ensures.value ∙ first_of in
    let p = err_from_is_err_and c.from_residual-in_err-scrub_on-in-Scrub.result c.from_residual-in_err-scrub_on-in-Scrub.ensures.1 in
    rw (p.1, p.2) (c.in_err-scrub_on-in-Scrub.ensures.answers first start was (line_of bytes []) (g.R.Read.remaining c.args.reader.now) so
    (said_as bytes (demand_of c.in_ok-request.request) _ c.in-Scrub.ensures
    (plain_request bytes c.deref.result.now (demand_of c.in_ok-request.request) first_kept said.0 unbroken said.1 (ap blocks_after c.in-Scrub.ensures))) ready)

pub returns-in_ok-scrub_on-in-Scrub-clause-serves : goal.returns-in_ok-scrub_on-in-Scrub-clause-serves
returns-in_ok-scrub_on-in-Scrub-clause-serves g c = λ first start was bytes so unbroken first_of ready.
    let said = c.in_ok-request.ensures.said in
    let first_kept : c.deref.result.now ≡ take (LONGEST_LINE + 1) bytes = c.deref.ensures.value ∙ first_of in
    c.in_ok-scrub_on-in-Scrub.ensures.answers first start was (line_of bytes []) (g.R.Read.remaining c.args.reader.now) so
    (said_as bytes (demand_of c.in_ok-request.request) _ c.in-Scrub.ensures
    (plain_request bytes c.deref.result.now (demand_of c.in_ok-request.request) first_kept said.0 unbroken said.1 (ap blocks_after c.in-Scrub.ensures))) ready

pub returns-in_err-serve_write-in-Write-clause-serves : goal.returns-in_err-serve_write-in-Write-clause-serves
returns-in_err-serve_write-in-Write-clause-serves g c = λ first start was bytes so unbroken first_of ready.
    let said = c.in_ok-request.ensures.said in
    let first_kept : c.deref.result.now ≡ take (LONGEST_LINE + 1) bytes = c.deref.ensures.value ∙ first_of in
    let write = write_said bytes c.deref.result.now (demand_of c.in_ok-request.request) _ _ _ first_kept said.0 said.1 c.in-Write.ensures in
    let p = err_from_is_err_and c.from_residual-in_err-serve_write-in-Write.result c.from_residual-in_err-serve_write-in-Write.ensures.1 in
    rw (p.1, p.2) (c.in_err-serve_write-in-Write.ensures.serves first start was bytes so unbroken write.0 write.1 ready)

pub returns-in_ok-serve_write-in-Write-clause-serves : goal.returns-in_ok-serve_write-in-Write-clause-serves
returns-in_ok-serve_write-in-Write-clause-serves g c = λ first start was bytes so unbroken first_of ready.
    let said = c.in_ok-request.ensures.said in
    let first_kept : c.deref.result.now ≡ take (LONGEST_LINE + 1) bytes = c.deref.ensures.value ∙ first_of in
    let write = write_said bytes c.deref.result.now (demand_of c.in_ok-request.request) _ _ _ first_kept said.0 said.1 c.in-Write.ensures in
    c.in_ok-serve_write-in-Write.ensures.serves first start was bytes so unbroken write.0 write.1 ready

pub answer_request-requires-clause-answered : goal.answer_request-requires-clause-answered
answer_request-requires-clause-answered g c = c.in-Answered.ensures c.in_ok-request.ensures.said.2

pub returns-in_err-answer_request-in-Answered-clause-serves : goal.returns-in_err-answer_request-in-Answered-clause-serves
returns-in_err-answer_request-in-Answered-clause-serves g c = λ first start was bytes so unbroken first_of ready.
    let said = c.in_ok-request.ensures.said in
    let first_kept : c.deref.result.now ≡ take (LONGEST_LINE + 1) bytes = c.deref.ensures.value ∙ first_of in
    let p = err_from_is_err_and c.from_residual-in_err-answer_request-in-Answered.result c.from_residual-in_err-answer_request-in-Answered.ensures.1 in
    rw (p.1, p.2) (c.in_err-answer_request-in-Answered.ensures.answers first start was (line_of bytes []) (g.R.Read.remaining c.args.reader.now) _ so
    (plain_request bytes c.deref.result.now (demand_of c.in_ok-request.request) first_kept said.0 unbroken said.1
    (answered_alone (store_view c.args.store.now) (demand_of c.in_ok-request.request) (c.in-Answered.ensures said.2))) ready)

pub returns-in_ok-answer_request-in-Answered-clause-serves : goal.returns-in_ok-answer_request-in-Answered-clause-serves
returns-in_ok-answer_request-in-Answered-clause-serves g c = λ first start was bytes so unbroken first_of ready.
    let said = c.in_ok-request.ensures.said in
    let first_kept : c.deref.result.now ≡ take (LONGEST_LINE + 1) bytes = c.deref.ensures.value ∙ first_of in
    c.in_ok-answer_request-in-Answered.ensures.answers first start was (line_of bytes []) (g.R.Read.remaining c.args.reader.now) _ so
    (plain_request bytes c.deref.result.now (demand_of c.in_ok-request.request) first_kept said.0 unbroken said.1
    (answered_alone (store_view c.args.store.now) (demand_of c.in_ok-request.request) (c.in-Answered.ensures said.2))) ready

pub returns-in-Ends-clause-serves : goal.returns-in-Ends-clause-serves
returns-in-Ends-clause-serves g c = λ first start was bytes so unbroken first_of ready.
    let said = c.in_ok-request.ensures.said in
    let first_kept : c.deref.result.now ≡ take (LONGEST_LINE + 1) bytes = c.deref.ensures.value ∙ first_of in
    let ends = c.in-Ends.ensures in
    record {
      number = ends.0;
      line = line_of bytes [];
      request = said_as bytes (demand_of c.in_ok-request.request) _ ends.1
          (plain_request bytes c.deref.result.now (demand_of c.in_ok-request.request) first_kept said.0 unbroken said.1 (ap blocks_after ends.1));
      slot_said = ends.2;
      missing = ends.3;
      so_far = _;
      come = ready;
    }

pub serve_together-requires-clause-least : goal.serve_together-requires-clause-least
serve_together-requires-clause-least g c =
    (inside MOST_LINES_TOGETHER c.in-Together.count (subst (λ (d : Demand). ¬ HasBadCount d) c.in-Together.ensures c.in_ok-request.ensures.said.2)).0

pub serve_together-requires-clause-most : goal.serve_together-requires-clause-most
serve_together-requires-clause-most g c =
    (inside MOST_LINES_TOGETHER c.in-Together.count (subst (λ (d : Demand). ¬ HasBadCount d) c.in-Together.ensures c.in_ok-request.ensures.said.2)).1

pub serve_write-requires-clause-least : goal.serve_write-requires-clause-least
serve_write-requires-clause-least g c =
    (inside MOST_WRITTEN_AT_ONCE c.in-Write.stretch.count (subst (λ (d : Demand). ¬ HasBadCount d) c.in-Write.ensures c.in_ok-request.ensures.said.2)).0

pub serve_write-requires-clause-most : goal.serve_write-requires-clause-most
serve_write-requires-clause-most g c =
    (inside MOST_WRITTEN_AT_ONCE c.in-Write.stretch.count (subst (λ (d : Demand). ¬ HasBadCount d) c.in-Write.ensures c.in_ok-request.ensures.said.2)).1
