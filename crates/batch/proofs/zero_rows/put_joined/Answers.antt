use Rattle.std.proofs.Common.{◌-◌, ◌<◌, sym, ◌∙◌, ap, arith}
use Rattle.std.specs.Prelude.{is_ok, is_some}
use Rattle.std.proofs.lemmas.Bool.{false≢true}
use Rattle.std.proofs.lemmas.Result.{Ok-from_Ok_iff}
use Rattle.batch.proofs.ZeroPut.{own_most}
use Rattle.batch.proofs.zero_rows.put_joined.Goals as goal

pub returns-in_err-length-clause-none : goal.returns-in_err-length-clause-none
returns-in_err-length-clause-none c = λ none fit.
    let joined = c.args.joined.now in
    let short = own_most c.args.runs.now joined c.requires.order c.requires.within fit in
    let long = joined.end - c.from.result in
    let ok = Ok-from_Ok_iff c.try_from.result (long < 65536) long c.try_from.ensures (omega (arith, short, c.from.ensures)) in
    absurd (false≢true (sym (ap is_some c.in_err-length.was) ∙ c.ok.ensures.variant ∙ ap is_ok ok))
