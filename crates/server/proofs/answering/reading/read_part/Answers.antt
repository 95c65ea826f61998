use Rattle.std.proofs.Common.{◌≡◌, take, length, arith}
use Rattle.std.proofs.lemmas.List.{length-take}
use Rattle.std.proofs.lemmas.Result.{err_from_is_err_and}
use Rattle.server.proofs.ReadRanges.{part_read, part_refused}
use Rattle.server.proofs.answering.reading.read_part.Goals as goal

pub returns-clause-read : goal.returns-clause-read
returns-clause-read g c =
    let places = length (take c.min-count.result c.args.to.now) in
    let as_many : places ≡ c.min-count.result = omega (arith, length-take c.min-count.result c.args.to.now, c.min-count.ensures) in
    part_read _ c.args.name.now c.args.at c.min-count.result places c.read.new.to _ _ _ as_many c.read.auto.to c.in_ok-read.ensures.reads

pub returns-in_err-read-clause-count : goal.returns-in_err-read-clause-count
returns-in_err-read-clause-count g c = rw (err_from_is_err_and c.from_residual.result c.from_residual.ensures.1).1 tt

pub returns-in_err-read-clause-read : goal.returns-in_err-read-clause-read
returns-in_err-read-clause-read g c = rw (err_from_is_err_and c.from_residual.result c.from_residual.ensures.1).1 tt

pub returns-in_err-read-clause-refused : goal.returns-in_err-read-clause-refused
returns-in_err-read-clause-refused g c =
    let p = err_from_is_err_and c.from_residual.result c.from_residual.ensures.1 in
    let places = length (take c.min-count.result c.args.to.now) in
    rw (p.1, p.2) (part_refused _ c.args.name.now c.args.at _ places _ _ _
    (omega (arith, length-take c.min-count.result c.args.to.now, c.min-count.ensures)) c.in_err-read.ensures.reads)
