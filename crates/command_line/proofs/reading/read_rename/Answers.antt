use Rattle.std.proofs.Common.{refl, codes}
use Rattle.clap.specs.Words.{found_of}
use Rattle.command_line.proofs.SetReads.{text_some, text_value}
use Rattle.command_line.proofs.reading.read_rename.Goals as goal

pub unwrap-name-requires : goal.unwrap-name-requires
unwrap-name-requires c = text_some (found_of c.args.matches.now) (codes "name") c.get_str.result c.get_str.ensures c.requires.name

pub unwrap-to-requires : goal.unwrap-to-requires
unwrap-to-requires c = text_some (found_of c.args.matches.now) (codes "new") c.get_str-2.result c.get_str-2.ensures c.requires.new

pub returns-clause-ok : goal.returns-clause-ok
returns-clause-ok c =
    let found = found_of c.args.matches.now in
    let name = text_value found (codes "name") c.get_str.result c.get_str.ensures c.unwrap-name.result c.unwrap-name.ensures in
    let to = text_value found (codes "new") c.get_str-2.result c.get_str-2.ensures c.unwrap-to.result c.unwrap-to.ensures in
    rw c.changes.ensures (c.in_ok-set.ensures.ok, (refl, name, to))
