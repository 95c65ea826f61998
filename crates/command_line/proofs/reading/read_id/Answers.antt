use Rattle.std.proofs.Common.{false, true, ◌≡◌, ◌∙◌, refl, sym}
use Rattle.std.specs.Prelude.{Ok}
use Rattle.hex.specs.Hex.{decode_sized}
use Rattle.hex.proofs.HexLemmas.{IsOk-decode_sized, decode_sized-twice}
use Rattle.command_line.specs.Invocations.{IsIdText}
use Rattle.command_line.proofs.reading.read_id.Goals as goal

pub returns-in-Err-clause-err : goal.returns-in-Err-clause-err
returns-in-Err-clause-err c = (
  refl,
  λ is_id.
      let refused = c.from_hex.ensures in
      let is = c.in-Err.is in
      let ok = (IsOk-decode_sized c.args.text.now 16).1 is_id in
      let bad : false ≡ true = rw (← refused, is) at ok in
      cc,
)

pub returns-in-Ok-clause-ok : goal.returns-in-Ok-clause-ok
returns-in-Ok-clause-ok c =
    let text = c.args.text.now in
    let sized : decode_sized text 16 ≡ Ok c.in-Ok.id = sym c.from_hex.ensures ∙ c.in-Ok.is in
    let is_id : IsIdText text = (IsOk-decode_sized text 16).0 (rw sized refl) in
    (is_id, sym (decode_sized-twice text 16 is_id.0) ∙ sized)
