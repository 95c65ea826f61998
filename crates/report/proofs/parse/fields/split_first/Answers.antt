use Rattle.std.proofs.Common.{◌≡◌, ◌+◌, ◌-◌, length, take, drop, sym, arith, length-drop}
use Rattle.std.proofs.lemmas.List.{take_all}
use Rattle.report.proofs.FieldLemmas.{fields_of-found, fields_of-none}
use Rattle.report.proofs.parse.fields.split_first.Goals as goal

pub returns-in-Some : goal.returns-in-Some
returns-in-Some c =
    let text = c.args.text.now in
    let after = c.in-Some.space + 1 in
    let whole : take (length text - after) (drop after text) ≡ drop after text =
    take_all (length text - after) (drop after text) (omega (arith, length-drop after text)) in
    rw whole (fields_of-found text c.in-Some.space (sym c.in-Some.ensures))

pub returns-in-None : goal.returns-in-None
returns-in-None c = fields_of-none c.args.text.now (sym c.in-None.ensures)
