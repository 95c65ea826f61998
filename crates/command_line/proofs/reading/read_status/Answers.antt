use Rattle.std.proofs.Common.{refl, codes}
use Rattle.clap.specs.Words.{found_of}
use Rattle.command_line.proofs.SetReads.{flag_value}
use Rattle.command_line.proofs.reading.read_status.Goals as goal

pub returns-clause-ok : goal.returns-clause-ok
returns-clause-ok c =
    let found = found_of c.args.matches.now in
    let json = c.get_flag-json in
    let check = c.get_flag-check in
    rw c.asks.ensures (
      refl,
      c.in_ok-set.ensures.ok,
      flag_value found (codes "json") json.result c.requires.flags.0 json.ensures.value json.ensures.other,
      flag_value found (codes "check") check.result c.requires.flags.1 check.ensures.value check.ensures.other,
    )
