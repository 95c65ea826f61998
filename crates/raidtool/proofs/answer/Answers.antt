use Rattle.std.proofs.Common.{◌≡◌, rules, subst}
use Rattle.std.specs.Prelude.{List, drop, map, string_bytes}
use Rattle.std.specs.Process.{exit_status}
use Rattle.clap.specs.Walk.{Text, texts}
use Rattle.raidtool.specs.Tool.{IsStatusFor}
use Rattle.raidtool.proofs.SentReplies.{status_ended}
use Rattle.raidtool.proofs.answer.Goals as goal

pub returns-clause-ok : goal.returns-clause-ok
returns-clause-ok c =
    let words_are : texts c.deref.result.now ≡ drop 1 (map string_bytes c.args.args.now) = search rules in
    let code_is : exit_status c.from.result ≡ c.ended-ended.result = search rules in
    let status : IsStatusFor (texts c.deref.result.now) c.in_ok-status.status = search rules in
    let end : IsStatusFor (texts c.deref.result.now) c.ended-ended.result =
    status_ended _ _ (texts c.deref.result.now) c.in_ok-status.status c.ended-ended.result c.send.result status
    c.ended-ended.ensures.same c.ended-ended.ensures.sent c.ended-ended.ensures.unsent in
    rw code_is (subst (λ (words : List Text). IsStatusFor words c.ended-ended.result) words_are end)
