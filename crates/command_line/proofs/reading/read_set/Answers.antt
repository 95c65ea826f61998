use Rattle.std.proofs.Common.{codes}
use Rattle.std.proofs.lemmas.Result.{err_from_is_err_and}
use Rattle.clap.specs.Words.{found_of}
use Rattle.command_line.proofs.SetReads.{text_some, text_value}
use Rattle.command_line.proofs.reading.read_set.Goals as goal

pub unwrap-folder-requires : goal.unwrap-folder-requires
unwrap-folder-requires c = text_some (found_of c.args.matches.now) (codes "folder") c.get_str.result c.get_str.ensures c.requires.folder

pub unwrap-requires : goal.unwrap-requires
unwrap-requires c = text_some (found_of c.args.matches.now) (codes "id") c.get_str-2.result c.get_str-2.ensures c.requires.id

pub returns-in_err-id-clause-err : goal.returns-in_err-id-clause-err
returns-in_err-id-clause-err c =
    let p = err_from_is_err_and c.from_residual.result c.from_residual.ensures.1 in
    let id = text_value (found_of c.args.matches.now) (codes "id") c.get_str-2.result c.get_str-2.ensures c.unwrap.result c.unwrap.ensures in
    rw (p.1, p.2, c.in_err-id.ensures.err.0) (c.unwrap.result.now, id, c.in_err-id.ensures.err.1)

pub returns-clause-ok : goal.returns-clause-ok
returns-clause-ok c = record {
  text = c.unwrap.result.now;
  folder_value = text_value (found_of c.args.matches.now) (codes "folder") c.get_str.result c.get_str.ensures c.unwrap-folder.result c.unwrap-folder.ensures;
  id_value = text_value (found_of c.args.matches.now) (codes "id") c.get_str-2.result c.get_str-2.ensures c.unwrap.result c.unwrap.ensures;
  chosen = c.in_ok-id.ensures.ok;
}
