use Rattle.std.proofs.Common.{◌≡◌, rules, subst, ℕ, List, [], ◌∷◌, ◌++◌, codes}
use Rattle.std.specs.Prelude.{decimal}
use Rattle.std.proofs.lemmas.Result.{err_from_is_err_and}
use Rattle.report.specs.Written.{AppendsPart, WritesText}
use Rattle.device_files.proofs.ToldLines.{part_after, part_of_more, writes_after}
use Rattle.raidtool.proofs.telling.write_unused.Goals as goal

pub returns-in_err-write_text : goal.returns-in_err-write_text
returns-in_err-write_text g c =
    let from = err_from_is_err_and c.from_residual.result c.from_residual.ensures.1 in
    let failed = c.in_err-write_text.ensures in
    rw (from.1, from.2) (record {
      ok = tt;
      part = part_of_more _ _ (codes "unused ") (decimal c.args.blocks ++ (codes " blocks" ++ 10 ∷ [])) failed.part;
      kind = failed.kind;
    })

pub returns-in_err-write_text-2 : goal.returns-in_err-write_text-2
returns-in_err-write_text-2 g c =
    let from = err_from_is_err_and c.from_residual-in_err-write_text-2.result c.from_residual-in_err-write_text-2.ensures.1 in
    let failed = c.in_err-write_text-2.ensures in
    let digits_are : c.as_bytes.result.now ≡ decimal c.args.blocks = search rules in
    let part = part_after _ _ _ (codes "unused ") _ c.in_ok-write_text.ensures.ok
    (part_of_more _ _ c.as_bytes.result.now (codes " blocks" ++ 10 ∷ []) failed.part) in
    rw (from.1, from.2) (record {
      ok = tt;
      part = subst (λ (digits : List ℕ). AppendsPart (g.W.Write.contents c.args.out.now) (g.W.Write.contents c.write_text-2.new.writer)
          (codes "unused " ++ (digits ++ (codes " blocks" ++ 10 ∷ [])))) digits_are part;
      kind = failed.kind;
    })

pub returns : goal.returns
returns g c =
    let last = c.write_text-3 in
    let digits_are : c.as_bytes.result.now ≡ decimal c.args.blocks = search rules in
    subst (λ (digits : List ℕ). WritesText (g.W.Write.contents c.args.out.now) (g.W.Write.contents last.new.writer)
    (codes "unused " ++ (digits ++ (codes " blocks" ++ 10 ∷ []))) last.result)
    digits_are
    (writes_after last.result _ _ _ (codes "unused ") _ c.in_ok-write_text.ensures.ok
    (writes_after last.result _ _ _ c.as_bytes.result.now (codes " blocks" ++ 10 ∷ []) c.in_ok-write_text-2.ensures.ok
    (record { ok = last.ensures.ok; part = last.ensures.part; kind = last.ensures.kind })))
