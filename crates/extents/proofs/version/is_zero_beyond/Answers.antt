use Rattle.std.proofs.Common.{◌≡◌, take, take_all, drop, sym, ◌∙◌, refl, arith}
use Rattle.std.proofs.lemmas.List.{length-drop}
use Rattle.std.proofs.lemmas.Slice.Eq.{bytes_eq-Decides}
use Rattle.extents.specs.TableSpelling.{zeros}
use Rattle.extents.proofs.Bytes.{filled}
use Rattle.extents.proofs.version.is_zero_beyond.Goals as goal

pub returns : goal.returns
returns c =
    let rest = drop 1 c.args.first.now in
    let all : take 511 rest ≡ rest = take_all 511 rest (omega (arith, length-drop 1 c.args.first.now, c.told-first)) in
    let other : c.as_slice.result.now ≡ zeros 511 = c.as_slice.ensures ∙ filled 511 511 refl in
    let decides = bytes_eq-Decides (take 511 rest) c.as_slice.result.now in
    (λ yes. sym all ∙ decides.0 (sym c.eq.ensures ∙ yes) ∙ other, λ is. c.eq.ensures ∙ decides.1 (all ∙ is ∙ sym other))
