use Rattle.std.proofs.Common.{ℕ, List, ◌∷◌}
use Rattle.hex.specs.Hex.{encode_lower}
use Rattle.std.proofs.lemmas.Result.{err_from_is_err_and}
use Rattle.report.proofs.WriteLemmas.{AppendsPart-item}
use Rattle.raidtool.proofs.telling.write_ids.Goals as goal

-- a space and an id
abbrev id_text : List ℕ → List ℕ
id_text id = 32 ∷ encode_lower id

pub returns-in_err-write_id : goal.returns-in_err-write_id
returns-in_err-write_id g c =
    let p = err_from_is_err_and c.from_residual.result c.from_residual.ensures.1 in
    let it = c.in_err-write_id.ensures in
    rw (p.1, p.2) (record {
      ok = tt;
      part = AppendsPart-item id_text _ _ _ c.args.ids.now c.loop-id.id-index _ c.loop-id-test.true c.loop-id.invariant it.part;
      kind = it.kind;
    })
