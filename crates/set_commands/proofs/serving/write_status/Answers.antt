use Rattle.std.proofs.Common.{List, ◌∙◌, subst, ℕ}
use Rattle.std.proofs.lemmas.Result.{on_ok_weaker, on_err_weaker}
use Rattle.std.specs.Io.KnownBytes.{Appends}
use Rattle.set_commands.specs.Serving.{told_text}
use Rattle.report.specs.Written.{AppendsPart}
use Rattle.set_commands.proofs.Served.{json_told, untold_by}
use Rattle.set_commands.proofs.serving.write_status.Goals as goal

pub returns-in_ok-push-clause-ok : goal.returns-in_ok-push-clause-ok
unfolding lib.Utf8.encode
returns-in_ok-push-clause-ok g c =
    let told = json_told c.args.status.now c.args.json _ _ _ c.if-json.true c.in_ok-to_json.ensures.value c.in_ok-text.ensures.text
    c.in_ok-push.ensures.bytes in
    on_ok_weaker c.write_text.result (λ written. subst
    (λ (text : List ℕ). Appends (g.W.Write.contents c.args.out.now) (g.W.Write.contents c.write_text.new.writer) text) (c.as_bytes.ensures.value ∙ told)
    written) c.write_text.ensures.ok

pub returns-in_ok-push-clause-err : goal.returns-in_ok-push-clause-err
unfolding lib.Utf8.encode
returns-in_ok-push-clause-err g c =
    let told = json_told c.args.status.now c.args.json _ _ _ c.if-json.true c.in_ok-to_json.ensures.value c.in_ok-text.ensures.text
    c.in_ok-push.ensures.bytes in
    untold_by _ _ _ (told_text c.args.json c.args.status.now) c.write_text.result c.write_text.ensures.kind
    (on_err_weaker c.write_text.result (λ part. subst (λ (text : List ℕ). AppendsPart (g.W.Write.contents c.args.out.now)
    (g.W.Write.contents c.write_text.new.writer) text) (c.as_bytes.ensures.value ∙ told) part) c.write_text.ensures.part)
