use Rattle.std.proofs.Common.{refl, codes}
use Rattle.clap.specs.Words.{found_of}
use Rattle.command_line.proofs.SetReads.{text_some, text_value}
use Rattle.command_line.proofs.reading.read_remove.Goals as goal

pub unwrap-name-requires : goal.unwrap-name-requires
unwrap-name-requires c = text_some (found_of c.args.matches.now) (codes "name") c.get_str.result c.get_str.ensures c.requires.name

pub returns-clause-ok : goal.returns-clause-ok
returns-clause-ok c =
    let name = text_value (found_of c.args.matches.now) (codes "name") c.get_str.result c.get_str.ensures c.unwrap-name.result c.unwrap-name.ensures in
    rw c.changes.ensures (c.in_ok-set.ensures.ok, (refl, name))
