use Rattle.std.proofs.Common.{refl, arith, codes}
use Rattle.clap.specs.Words.{found_of}
use Rattle.command_line.proofs.NumberReads.{number_some, number_value}
use Rattle.command_line.proofs.reading.read_fail.Goals as goal

pub unwrap-slot-requires : goal.unwrap-slot-requires
unwrap-slot-requires c =
    number_some 8 255 (found_of c.args.matches.now) (codes "slot") c.get_one.result c.requires.slot c.get_one.ensures.value (omega arith)

pub returns-clause-ok : goal.returns-clause-ok
returns-clause-ok c =
    let found = found_of c.args.matches.now in
    let slot = number_value 8 255 found (codes "slot") c.get_one.result c.requires.slot c.get_one.ensures.value (omega arith) _ c.unwrap-slot.ensures in
    rw c.asks.ensures (refl, c.in_ok-set.ensures.ok, slot)
