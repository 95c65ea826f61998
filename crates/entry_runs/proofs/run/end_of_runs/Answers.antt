use Rattle.std.proofs.Common.{◌≡◌, suc, ◌-◌, length, sym, ◌∙◌, arith}
use Rattle.std.proofs.lemmas.Bool.{eqb-false}
use Rattle.entry_runs.proofs.Joins.{end_at}
use Rattle.entry_runs.proofs.run.end_of_runs.Goals as goal

pub returns-else-is_empty : goal.returns-else-is_empty
returns-else-is_empty c =
    let runs = c.args.runs.now in
    let some = eqb-false (length runs) 0 (sym c.is_empty.ensures ∙ c.if-is_empty.false) in
    let last : suc (length runs - 1) ≡ length runs = omega (arith, some) in
    c.end.ensures ∙ sym (end_at runs (length runs - 1) last)
