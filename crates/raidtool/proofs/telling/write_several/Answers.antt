use Rattle.std.proofs.Common.{subst, ℕ, List, [], ◌∷◌, ◌++◌, codes}
use Rattle.std.specs.List.{flat_map}
use Rattle.hex.specs.Hex.{encode_lower}
use Rattle.std.proofs.lemmas.Result.{err_from_is_err_and}
use Rattle.device_files.proofs.ToldLines.{part_after, part_of_more, writes_after}
use Rattle.raidtool.proofs.telling.write_several.Goals as goal

-- the ids, a space before each
abbrev ids_text : List (List ℕ) → List ℕ
ids_text ids = flat_map (λ id. 32 ∷ encode_lower id) ids

pub returns-in_err-write_text : goal.returns-in_err-write_text
returns-in_err-write_text g c =
    let from = err_from_is_err_and c.from_residual.result c.from_residual.ensures.1 in
    let failed = c.in_err-write_text.ensures in
    rw (from.1, from.2) (record {
      ok = tt;
      part = part_of_more _ _ (codes "several sets:") (ids_text c.args.ids.now ++ 10 ∷ []) failed.part;
      kind = failed.kind;
    })

pub returns-in_err-write_ids : goal.returns-in_err-write_ids
returns-in_err-write_ids g c =
    let from = err_from_is_err_and c.from_residual-in_err-write_ids.result c.from_residual-in_err-write_ids.ensures.1 in
    let failed = c.in_err-write_ids.ensures in
    rw (from.1, from.2) (record {
      ok = tt;
      part = part_after _ _ _ (codes "several sets:") _ c.in_ok-write_text.ensures.ok (part_of_more _ _ (ids_text c.args.ids.now) (10 ∷ []) failed.part);
      kind = failed.kind;
    })

pub returns : goal.returns
returns g c =
    let last = c.write_text-2 in
    writes_after last.result _ _ _ (codes "several sets:") _ c.in_ok-write_text.ensures.ok
    (writes_after last.result _ _ _ (ids_text c.args.ids.now) (10 ∷ []) c.in_ok-write_ids.ensures.ok
    (record { ok = last.ensures.ok; part = last.ensures.part; kind = last.ensures.kind }))
