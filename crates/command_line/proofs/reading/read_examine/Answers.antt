use Rattle.std.proofs.Common.{refl, codes}
use Rattle.clap.specs.Words.{found_of}
use Rattle.command_line.proofs.SetReads.{flag_value, text_some, text_value}
use Rattle.command_line.proofs.reading.read_examine.Goals as goal

pub unwrap-folder-requires : goal.unwrap-folder-requires
unwrap-folder-requires c = text_some (found_of c.args.matches.now) (codes "folder") c.get_str.result c.get_str.ensures c.requires.folder

pub returns-clause-ok : goal.returns-clause-ok
returns-clause-ok c =
    let found = found_of c.args.matches.now in
    let flag = flag_value found (codes "json") c.get_flag-json.result c.requires.flags.0 c.get_flag-json.ensures.value c.get_flag-json.ensures.other in
    let check = flag_value found (codes "check") c.get_flag-check.result c.requires.flags.1 c.get_flag-check.ensures.value c.get_flag-check.ensures.other in
    let folder = text_value found (codes "folder") c.get_str.result c.get_str.ensures c.unwrap-folder.result c.unwrap-folder.ensures in
    (refl, folder, c.in_ok-id.ensures.ok, flag, check)
