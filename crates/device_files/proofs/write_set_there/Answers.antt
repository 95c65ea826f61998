use Rattle.std.proofs.Common.{subst, ℕ, List, [], ◌∷◌, ◌++◌, codes}
use Rattle.std.proofs.lemmas.Result.{err_from_is_err_and}
use Rattle.hex.specs.Hex.{encode_lower}
use Rattle.report.specs.Written.{WritesText}
use Rattle.device_files.proofs.ToldLines.{part_of_more, writes_after}
use Rattle.device_files.proofs.write_set_there.Goals as goal

pub returns-in_err-write_text : goal.returns-in_err-write_text
returns-in_err-write_text g c =
    let from = err_from_is_err_and c.from_residual.result c.from_residual.ensures.1 in
    let failed = c.in_err-write_text.ensures in
    rw (from.1, from.2) (record {
      ok = tt;
      part = part_of_more _ _ (codes "there is a set: ") (encode_lower c.args.id.now ++ 10 ∷ []) failed.part;
      kind = failed.kind;
    })

pub returns : goal.returns
returns g c =
    let last = c.write_text-2 in
    subst (λ (line : List ℕ). WritesText (g.E.Write.contents c.args.err.now) (g.E.Write.contents last.new.writer) (codes "there is a set: " ++ line)
    last.result)
    c.id_line.ensures
    (writes_after last.result _ _ _ (codes "there is a set: ") _ c.in_ok-write_text.ensures.ok
    (record { ok = last.ensures.ok; part = last.ensures.part; kind = last.ensures.kind }))
