use Rattle.std.proofs.Common.{Err, Ok, ap, refl, sym, ◌∙◌, ◌≡◌, ℕ}
use Rattle.std.proofs.lemmas.Result.{err_from_is_err_and}
use Rattle.array_io.specs.Believed.OpenArray.{IsHonest}
use Rattle.scrub.specs.Reports.{report_of}
use Rattle.scrub.specs.Scrubbing.{Report}
use Rattle.volume_table.specs.OpenStore.{store_view}
use Rattle.server.proofs.Answered.{answered_by, answered_cut, answered_if_written, scrub_goes, scrub_refused, scrubbed_last, scrubbed_on, scrubs_on}
use Rattle.server.specs.Answers.{TellsRefusal, TellsScrub}
use Rattle.server.specs.Scrubs.{going_on}
use Rattle.server.proofs.serving.scrub_on.Goals as goal

pub returns-in_err-write_reply-in-Err-clause-answers : goal.returns-in_err-write_reply-in-Err-clause-answers
returns-in_err-write_reply-in-Err-clause-answers g c = λ first start was line remaining so request ready.
    let p = err_from_is_err_and c.from_residual.result c.from_residual.ensures.1 in
    let old = store_view c.args.store.now in
    let new = store_view c.scrub_rows.new.self in
    let so_far = report_of c.args.held.now.scrubbed in
    let before = report_of c.going_on-before.result in
    let told = TellsRefusal c.in-Err.refusal in
    let same : before ≡ going_on c.rows.result so_far = c.going_on-before.ensures in
    let scrubs = scrubs_on (IsHonest c.args.store.now.array) c.args.rows c.from.result old new so_far before so_far (Err c.in-Err.refusal) told
    (same ∙ ap (λ (n : ℕ). going_on n so_far) c.rows.ensures) c.from.ensures c.in-Err.ensures.scrubs (refl, refl) in
    let goes = scrub_goes (IsHonest c.args.store.now.array) before.rows c.from.result old new so_far before so_far (Err c.in-Err.refusal) told c.requires.going
    c.in-Err.ensures.scrubs (refl, refl) in
    rw (p.1, p.2) (answered_cut (g.B.Bank.honest first) start was line old new remaining (g.W.Write.contents c.args.writer.now)
    (g.W.Write.contents c.write_reply.new.writer) so_far so_far told
    (scrubbed_on (g.B.Bank.honest first) start line (IsHonest c.args.store.now.array) so old new so_far so_far told c.args.rows request scrubs goes)
    (scrubbed_last (g.B.Bank.honest first) start line (IsHonest c.args.store.now.array) so old new so_far so_far told c.args.rows request scrubs goes)
    ready c.in_err-write_reply-in-Err.field-0.0 c.in_err-write_reply-in-Err.ensures.kind c.in_err-write_reply-in-Err.ensures.part)

pub returns-in_ok-write_reply-in-Err-clause-answers : goal.returns-in_ok-write_reply-in-Err-clause-answers
returns-in_ok-write_reply-in-Err-clause-answers g c = λ first start was line remaining so request ready.
    let old = store_view c.args.store.now in
    let new = store_view c.scrub_rows.new.self in
    let so_far = report_of c.args.held.now.scrubbed in
    let before = report_of c.going_on-before.result in
    let told = TellsRefusal c.in-Err.refusal in
    let same : before ≡ going_on c.rows.result so_far = c.going_on-before.ensures in
    let scrubs = scrubs_on (IsHonest c.args.store.now.array) c.args.rows c.from.result old new so_far before so_far (Err c.in-Err.refusal) told
    (same ∙ ap (λ (n : ℕ). going_on n so_far) c.rows.ensures) c.from.ensures c.in-Err.ensures.scrubs (refl, refl) in
    let goes = scrub_goes (IsHonest c.args.store.now.array) before.rows c.from.result old new so_far before so_far (Err c.in-Err.refusal) told c.requires.going
    c.in-Err.ensures.scrubs (refl, refl) in
    let by = scrub_refused c.in-Err.refusal c.ending_of.result c.ending_of.ensures.going c.ending_of.ensures.ended in
    answered_by (g.B.Bank.honest first) start was line old new remaining (g.W.Write.contents c.args.writer.now)
    (g.W.Write.contents c.write_reply.new.writer) so_far so_far told
    (scrubbed_on (g.B.Bank.honest first) start line (IsHonest c.args.store.now.array) so old new so_far so_far told c.args.rows request scrubs goes)
    (scrubbed_last (g.B.Bank.honest first) start line (IsHonest c.args.store.now.array) so old new so_far so_far told c.args.rows request scrubs goes)
    ready c.ending_of.result by.0 by.1 c.in_ok-write_reply-in-Err.ensures.ok

pub returns-in-Ok-clause-answers : goal.returns-in-Ok-clause-answers
returns-in-Ok-clause-answers g c = λ first start was line remaining so request ready.
    let old = store_view c.args.store.now in
    let new = store_view c.scrub_rows.new.self in
    let so_far = report_of c.args.held.now.scrubbed in
    let before = report_of c.going_on-before.result in
    let part = report_of c.in-Ok.part in
    let after = report_of c.joined-held.result in
    let told = TellsScrub after in
    let same : before ≡ going_on c.rows.result so_far = c.going_on-before.ensures in
    let scrubs = scrubs_on (IsHonest c.args.store.now.array) c.args.rows c.from.result old new so_far before after (Ok part) told
    (same ∙ ap (λ (n : ℕ). going_on n so_far) c.rows.ensures) c.from.ensures c.in-Ok.ensures.scrubs
    (c.joined-held.ensures, ap TellsScrub c.joined-held.ensures) in
    let goes = scrub_goes (IsHonest c.args.store.now.array) before.rows c.from.result old new so_far before after (Ok part) told c.requires.going
    c.in-Ok.ensures.scrubs (c.joined-held.ensures, ap TellsScrub c.joined-held.ensures) in
    answered_if_written (g.B.Bank.honest first) start was line old new remaining (g.W.Write.contents c.args.writer.now)
    (g.W.Write.contents c.write_scrubbed.new.writer) so_far after told
    (scrubbed_on (g.B.Bank.honest first) start line (IsHonest c.args.store.now.array) so old new so_far after told c.args.rows request scrubs goes)
    (scrubbed_last (g.B.Bank.honest first) start line (IsHonest c.args.store.now.array) so old new so_far after told c.args.rows request scrubs goes)
    ready c.write_scrubbed.result (λ no. no) c.write_scrubbed.ensures.ok c.write_scrubbed.ensures.part c.write_scrubbed.ensures.kind
