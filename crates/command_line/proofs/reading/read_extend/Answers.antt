use Rattle.std.proofs.Common.{inr, refl, codes}
use Rattle.std.proofs.lemmas.Result.{err_from_is_err_and}
use Rattle.clap.specs.Words.{found_of, rows_of}
use Rattle.command_line.specs.Invocations.{of_extent}
use Rattle.command_line.proofs.OneAsked.{no_bad_id, no_extent_value}
use Rattle.command_line.proofs.SetReads.{text_some, text_value}
use Rattle.command_line.proofs.reading.read_extend.Goals as goal

pub unwrap-name-requires : goal.unwrap-name-requires
unwrap-name-requires c = text_some (found_of c.args.matches.now) (codes "name") c.get_str.result c.get_str.ensures c.requires.name

pub unwrap-requires : goal.unwrap-requires
unwrap-requires c = text_some (found_of c.args.matches.now) (codes "size") c.get_str-2.result c.get_str-2.ensures c.requires.size

pub returns-in_err-blocks-clause-err : goal.returns-in_err-blocks-clause-err
returns-in_err-blocks-clause-err c =
    let found = found_of c.args.matches.now in
    let p = err_from_is_err_and c.from_residual-in_err-blocks.result c.from_residual-in_err-blocks.ensures.1 in
    let good = no_bad_id (codes "extend") (rows_of found) _ _ _ c.in_ok-set.ensures.ok in
    let size = text_value found (codes "size") c.get_str-2.result c.get_str-2.ensures c.unwrap.result c.unwrap.ensures in
    let none = no_extent_value (rows_of found) c.unwrap.result.now size c.in_err-blocks.ensures.err.1 in
    rw (p.1, p.2, c.in_err-blocks.ensures.err.0) (good, of_extent (inr refl) none)

pub returns-clause-ok : goal.returns-clause-ok
returns-clause-ok c =
    let found = found_of c.args.matches.now in
    let name = text_value found (codes "name") c.get_str.result c.get_str.ensures c.unwrap-name.result c.unwrap-name.ensures in
    let size = text_value found (codes "size") c.get_str-2.result c.get_str-2.ensures c.unwrap.result c.unwrap.ensures in
    rw c.changes.ensures (c.in_ok-set.ensures.ok, (refl, name, (c.unwrap.result.now, size, c.in_ok-blocks.ensures.ok)))
