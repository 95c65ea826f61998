use Rattle.std.proofs.Common.{◌≡◌, take, length, arith}
use Rattle.std.proofs.lemmas.List.{length-take}
use Rattle.set_commands.proofs.LineAnswers.{read_done, read_refused}
use Rattle.set_commands.proofs.script.serve_read.Goals as goal

pub returns-in-Ok-clause-applies : goal.returns-in-Ok-clause-applies
returns-in-Ok-clause-applies g c =
    let places = length (take c.min-count.result c.args.buffer.now) in
    let as_many : places ≡ c.min-count.result = omega (arith, length-take c.min-count.result c.args.buffer.now, c.min-count.ensures, c.told-buffer) in
    read_done _ c.args.name.now c.args.at c.args.count c.min-count.result places c.read.new.to _ _ _ c.min-count.ensures as_many c.in-Ok.ensures.few
    c.read.auto.to c.in-Ok.ensures.reads

pub returns-in-Err-clause-applies : goal.returns-in-Err-clause-applies
returns-in-Err-clause-applies g c =
    let places = length (take c.min-count.result c.args.buffer.now) in
    let as_many : places ≡ c.min-count.result = omega (arith, length-take c.min-count.result c.args.buffer.now, c.min-count.ensures, c.told-buffer) in
    read_refused _ c.args.name.now c.args.at c.args.count c.min-count.result places _ _ c.in-Err.refusal c.min-count.ensures as_many c.in-Err.ensures.reads
