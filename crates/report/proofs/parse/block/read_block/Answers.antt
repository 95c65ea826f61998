use Rattle.std.proofs.Common.{◌≡◌, false, get_or, Some, None, sym, ◌∙◌, ap}
use Rattle.std.specs.Prelude.{is_ok}
use Rattle.std.proofs.lemmas.Slice.Eq.{strip_suffix_is}
use Rattle.std.proofs.lemmas.Bool.Decides.{Decides-eqb}
use Rattle.hex.specs.Hex.{decode_sized}
use Rattle.report.proofs.BlockLemmas.{IsBlock-repeated, decoded_byte, ending, not_decoded, not_digits, not_repeated}
use Rattle.report.proofs.parse.block.read_block.Goals as goal

pub returns-in_err-byte-clause-unsaid : goal.returns-in_err-byte-clause-unsaid
returns-in_err-byte-clause-unsaid c = λ _.
    let field = c.args.field.now in
    let spelled = strip_suffix_is Decides-eqb field ending (Some c.in-Some.digits) c.in-Some.ensures.cases in
    let refused : is_ok (decode_sized c.in-Some.digits.now 1) ≡ false = ap is_ok (sym c.from_hex.ensures) ∙ sym c.in_err-byte.ensures.variant in
    not_repeated field c.in-Some.digits.now spelled refused

pub returns-in-Some-clause-said : goal.returns-in-Some-clause-said
returns-in-Some-clause-said c =
    let field = c.args.field.now in
    let spelled = strip_suffix_is Decides-eqb field ending (Some c.in-Some.digits) c.in-Some.ensures.cases in
    let digits = c.in-Some.digits.now in
    let decoded = decoded_byte digits c.in_ok-byte.field-0 c.from_hex.result c.from_hex.ensures c.in_ok-byte.ensures.value in
    IsBlock-repeated field digits (get_or c.in_ok-byte.field-0 0 0) spelled decoded

pub returns-clause-unsaid : goal.returns-clause-unsaid
returns-clause-unsaid c = λ none.
    let field = c.args.field.now in
    let other = strip_suffix_is Decides-eqb field ending None c.in_default.ensures.cases in
    let refused = not_decoded (decode_sized field 512) c.decode_to_slice.result c.decode_to_slice.new.out (rw c.told-to at c.decode_to_slice.ensures.value)
    (sym c.ok-2.ensures.value ∙ none) in
    not_digits field other refused
