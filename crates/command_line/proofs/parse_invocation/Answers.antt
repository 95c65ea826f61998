use Rattle.std.proofs.Common.{sym, subst}
use Rattle.std.proofs.lemmas.Result.{IfErr-weaker, IfOk-weaker, err_from_is_err_and}
use Rattle.clap.specs.Walk.{texts}
use Rattle.command_line.specs.FoundRows.{HasEntered}
use Rattle.command_line.proofs.Answering.{answered, asks_for, fails, finds, refuses}
use Rattle.command_line.proofs.PlainRequests.{reads_plain}
use Rattle.command_line.proofs.TakenWords.{taken_words}
use Rattle.command_line.proofs.parse_invocation.Goals as goal

pub returns-in_err-matches-clause-ok : goal.returns-in_err-matches-clause-ok
returns-in_err-matches-clause-ok c = rw (err_from_is_err_and c.from_residual-in_err-matches.result c.from_residual-in_err-matches.ensures.1).1 tt

pub returns-in_err-matches-clause-err : goal.returns-in_err-matches-clause-err
returns-in_err-matches-clause-err c =
    let p = err_from_is_err_and c.from_residual-in_err-matches.result c.from_residual-in_err-matches.ensures.1 in
    rw p.1 (fails _ (texts c.args.words.now) _ _ p.2 c.in_ok-raidtool_command.ensures.ok c.in_err-matches.ensures.kinds)

pub returns-in_err-matches-clause-plain : goal.returns-in_err-matches-clause-plain
returns-in_err-matches-clause-plain c = λ request is plain.
    answered (texts c.args.words.now) request is (reads_plain request plain) c.from_residual-in_err-matches.result (returns-in_err-matches-clause-ok c)
    (returns-in_err-matches-clause-err c)

pub read_invocation-requires : goal.read_invocation-requires
read_invocation-requires c =
    let words = texts c.args.words.now in
    let f = finds _ words _ c.in_ok-raidtool_command.ensures.ok c.in_ok-matches.ensures.kinds c.in_ok-matches.ensures.matches in
    subst HasEntered (sym f.1) (taken_words words f.0)

pub returns-clause-ok : goal.returns-clause-ok
returns-clause-ok c =
    let words = texts c.args.words.now in
    let f = finds _ words _ c.in_ok-raidtool_command.ensures.ok c.in_ok-matches.ensures.kinds c.in_ok-matches.ensures.matches in
    IfOk-weaker c.read_invocation.result _ _ (asks_for words _ f.0 f.1) c.read_invocation.ensures.ok

pub returns-clause-err : goal.returns-clause-err
returns-clause-err c =
    let words = texts c.args.words.now in
    let f = finds _ words _ c.in_ok-raidtool_command.ensures.ok c.in_ok-matches.ensures.kinds c.in_ok-matches.ensures.matches in
    IfErr-weaker c.read_invocation.result _ _ (refuses words _ f.0 f.1) c.read_invocation.ensures.err

pub returns-clause-plain : goal.returns-clause-plain
returns-clause-plain c = λ request is plain.
    answered (texts c.args.words.now) request is (reads_plain request plain) c.read_invocation.result (returns-clause-ok c) (returns-clause-err c)
