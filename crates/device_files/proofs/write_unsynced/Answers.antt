use Rattle.std.proofs.Common.{subst, ℕ, List, [], ◌∷◌, ◌++◌, codes}
use Rattle.std.proofs.lemmas.Result.{err_from_is_err_and}
use Rattle.report.specs.Written.{AppendsPart, WritesText}
use Rattle.device_files.specs.Faults.{unsynced_line}
use Rattle.device_files.proofs.ToldLines.{part_after, part_of_more, writes_after}
use Rattle.device_files.proofs.write_unsynced.Goals as goal

pub returns-in_err-write_text : goal.returns-in_err-write_text
returns-in_err-write_text g c =
    let from = err_from_is_err_and c.from_residual.result c.from_residual.ensures.1 in
    let failed = c.in_err-write_text.ensures in
    rw (from.1, from.2) (record { ok = tt; part = part_of_more _ _ (codes "cannot sync ") (c.args.folder.now ++ 10 ∷ []) failed.part; kind = failed.kind })

pub returns-in_err-write_text-2 : goal.returns-in_err-write_text-2
returns-in_err-write_text-2 g c =
    let from = err_from_is_err_and c.from_residual-in_err-write_text-2.result c.from_residual-in_err-write_text-2.ensures.1 in
    let failed = c.in_err-write_text-2.ensures in
    let part = part_after _ _ _ (codes "cannot sync ") _ c.in_ok-write_text.ensures.ok (part_of_more _ _ c.as_bytes.result.now (10 ∷ []) failed.part) in
    rw (from.1, from.2) (record {
      ok = tt;
      part = subst (λ (folder : List ℕ). AppendsPart (g.E.Write.contents c.args.err.now) (g.E.Write.contents c.write_text-2.new.writer) (unsynced_line folder))
          c.as_bytes.ensures.value part;
      kind = failed.kind;
    })

pub returns : goal.returns
returns g c =
    let last = c.write_text-3 in
    subst (λ (folder : List ℕ). WritesText (g.E.Write.contents c.args.err.now) (g.E.Write.contents last.new.writer) (unsynced_line folder) last.result)
    c.as_bytes.ensures.value
    (writes_after last.result _ _ _ (codes "cannot sync ") _ c.in_ok-write_text.ensures.ok
    (writes_after last.result _ _ _ c.as_bytes.result.now (10 ∷ []) c.in_ok-write_text-2.ensures.ok
    (record { ok = last.ensures.ok; part = last.ensures.part; kind = last.ensures.kind })))
