use Rattle.std.proofs.Common.{codes, refl}
use Rattle.std.proofs.lemmas.Result.{err_from_is_err_and}
use Rattle.clap.specs.Words.{found_of}
use Rattle.command_line.proofs.SetReads.{text_none, text_value}
use Rattle.command_line.proofs.reading.read_some_id.Goals as goal

pub returns-in_err-id-in-Some-clause-err : goal.returns-in_err-id-in-Some-clause-err
returns-in_err-id-in-Some-clause-err c =
    let p = err_from_is_err_and c.from_residual.result c.from_residual.ensures.1 in
    let id = text_value (found_of c.args.matches.now) (codes "id") c.get_str.result c.get_str.ensures c.in-Some.text c.in-Some.is in
    rw (p.1, p.2, c.in_err-id-in-Some.ensures.err.0) (c.in-Some.text.now, id, c.in_err-id-in-Some.ensures.err.1)

pub returns-in_ok-id-in-Some-clause-ok : goal.returns-in_ok-id-in-Some-clause-ok
returns-in_ok-id-in-Some-clause-ok c =
    let id = text_value (found_of c.args.matches.now) (codes "id") c.get_str.result c.get_str.ensures c.in-Some.text c.in-Some.is in
    (c.in-Some.text.now, id, c.in_ok-id-in-Some.ensures.ok)

pub returns-in-None-clause-ok : goal.returns-in-None-clause-ok
returns-in-None-clause-ok c = (text_none (found_of c.args.matches.now) (codes "id") c.get_str.result c.get_str.ensures c.in-None.is, refl)
