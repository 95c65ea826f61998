use Rattle.std.proofs.Common.{List, None, ◌∙◌, ℕ, ap, get_or, subst}
use Rattle.std.proofs.lemmas.Result.{err_from_is_err_and}
use Rattle.report.proofs.WriteLemmas.{AppendsPart-item}
use Rattle.report.specs.Replies.{reply_text}
use Rattle.report.specs.Written.{AppendsPart}
use Rattle.server.proofs.WriteReplies.{same_text}
use Rattle.server.specs.Ends.{reply_text_to_write}
use Rattle.server.proofs.waiting.write_replies.Goals as goal

pub returns-in_err-write_reply : goal.returns-in_err-write_reply
returns-in_err-write_reply g c =
    let p = err_from_is_err_and c.from_residual.result c.from_residual.ensures.1 in
    let it = c.in_err-write_reply.ensures in
    rw (p.1, p.2) (record {
      ok = tt;
      part = AppendsPart-item reply_text_to_write _ _ _ c.args.replies.now c.loop-reply.reply-index None c.loop-reply-test.true c.loop-reply.invariant
          (subst (AppendsPart (g.W.Write.contents c.loop-reply.writer) (g.W.Write.contents c.write_reply.new.writer))
          (ap reply_text c.answer_to.ensures ∙ same_text (get_or c.args.replies.now c.loop-reply.reply-index None)) it.part);
      kind = it.kind;
    })
