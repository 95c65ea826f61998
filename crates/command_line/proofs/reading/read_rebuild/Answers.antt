use Rattle.std.proofs.Common.{refl, codes}
use Rattle.clap.specs.Words.{found_of}
use Rattle.command_line.proofs.NumberReads.{count_value}
use Rattle.command_line.proofs.reading.read_rebuild.Goals as goal

pub returns-clause-ok : goal.returns-clause-ok
returns-clause-ok c =
    let read = c.get_one-steps in
    let steps = count_value (found_of c.args.matches.now) (codes "steps") read.result c.requires.steps read.ensures.none read.ensures.value in
    rw c.asks.ensures (refl, c.in_ok-set.ensures.ok, steps)
