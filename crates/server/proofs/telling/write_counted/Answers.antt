use Rattle.std.proofs.lemmas.Result.{err_from_is_err_and}
use Rattle.server.proofs.Writing.{line_cut, line_then}
use Rattle.server.proofs.telling.write_counted.Goals as goal

pub returns : goal.returns
returns g c =
    line_then _ _ _ c.args.word.now _ c.args.bytes.now c.write_text.result c.in_ok-write_count.ensures.ok
    (record { ok = c.write_text.ensures.ok; part = c.write_text.ensures.part; kind = c.write_text.ensures.kind })

pub returns-in_err-write_count : goal.returns-in_err-write_count
returns-in_err-write_count g c =
    let p = err_from_is_err_and c.from_residual.result c.from_residual.ensures.1 in
    rw (p.1, p.2) (line_cut _ _ c.args.word.now _ c.args.bytes.now _ c.in_err-write_count.ensures)
