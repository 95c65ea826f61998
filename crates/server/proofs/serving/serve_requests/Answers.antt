use Rattle.std.proofs.Common.{refl}
use Rattle.scrub.specs.Reports.{report_of}
use Rattle.set_commands.specs.Run.{streams}
use Rattle.volume_table.specs.OpenStore.{store_view}
use Rattle.server.proofs.Finished.{begun, finished}
use Rattle.server.proofs.serving.serve_requests.Goals as goal

pub returns-clause-serves : goal.returns-clause-serves
returns-clause-serves g c = λ first so.
    let old = store_view c.args.store.now in
    let was = streams (g.R.Read.remaining c.args.reader.now) (g.W.Write.contents c.args.writer.now) in
    let ended = c.serve_lines-ended.new in
    finished (g.B.Bank.honest first) old (store_view ended.store) was (g.R.Read.remaining ended.reader) (g.W.Write.contents ended.writer)
    (g.W.Write.contents c.tell_bad_request.new.writer) g.W.Write.contents ended.writer c.tell_bad_request.new.writer c.serve_lines-ended.result
    c.tell_bad_request.result refl refl c.tell_bad_request.ensures.told c.tell_bad_request.ensures.same c.tell_bad_request.ensures.ended
    (c.serve_lines-ended.ensures.serves first old was so
    (begun (g.B.Bank.honest first) old was (report_of c.in_ok-held.held.scrubbed) c.in_ok-held.ensures.scrubbed))
