use Rattle.std.proofs.Common.{◌≡◌, ◌*◌, ◌++◌, [], length, get_or, take, sym, ap, ap₂, ◌∙◌, arith, length-set, length-append, length-take-le, get_or-set_other}
use Rattle.std.specs.Prelude.{bit_xor}
use Rattle.std.specs.Simd.Lanes.{chunk, zip2}
use Rattle.std.proofs.lemmas.List.{take_all}
use Rattle.parity.specs.Lanes.{sector_in}
use Rattle.parity.proofs.Lanes.{sector_in-take, sector_in-take-set, take_more_chunk, zip2-append, xor_of-zip2}
use Rattle.parity.proofs.xor_lanes.Goals as goal

pub loop-i-preserved : goal.loop-i-preserved
loop-i-preserved c =
    let old = c.args.to.now in
    let from = c.args.from.now in
    let so_far = c.loop-i.invariant in
    let k = c.loop-i.i in
    let vector = get_or old k [] in
    let part = chunk (64 * k) 64 from in
    let same : get_or c.loop-i.to k [] ≡ vector = so_far.rest k (omega arith) in
    let one_more = sector_in-take old k (omega (arith, c.told-to, c.loop-i-test.true)) in
    let long : length vector ≡ 64 = ap length (sym same) ∙ c.xor.ensures.long in
    record {
      eight = length-set c.loop-i.to k c.xor.result ∙ so_far.eight;
      long = ap length one_more ∙ length-append (sector_in (take k old)) vector ∙ (omega (arith, so_far.long, long));
      done =
          sector_in-take-set c.loop-i.to k c.xor.result (omega (arith, so_far.eight, c.loop-i-test.true))
          ∙ ap₂ (λ s t. s ++ t) so_far.done (c.xor.ensures.value ∙ ap₂ (zip2 bit_xor) same c.part.ensures)
          ∙ sym (zip2-append (sector_in (take k old)) (take (64 * k) from)
          (so_far.long ∙ sym (length-take-le (64 * k) from (omega (arith, c.told-from, c.loop-i-test.true)))) vector part)
          ∙ ap₂ (zip2 bit_xor) (sym one_more) (sym (take_more_chunk from k));
      rest = λ i later. get_or-set_other c.loop-i.to k i c.xor.result [] (λ at. absurd (omega (arith, later, at))) ∙ so_far.rest i (omega (arith, later));
    }

pub returns : goal.returns
returns c =
    let old = c.args.to.now in
    let from = c.args.from.now in
    let so_far = c.loop-i.invariant in
    let k = c.loop-i.i in
    let whole = take_all k old (omega (arith, c.told-to, c.loop-i-test.false)) in
    let long : length (sector_in old) ≡ 512 = ap (λ s. length (sector_in s)) (sym whole)
    ∙ omega (arith, so_far.long, c.loop-i-test.false, c.loop-i.auto.i-end) in
    ap sector_in (sym (take_all k c.loop-i.to (omega (arith, so_far.eight, c.loop-i-test.false))))
    ∙ so_far.done
    ∙ ap₂ (zip2 bit_xor) (ap sector_in whole) (take_all (64 * k) from (omega (arith, c.told-from, c.loop-i-test.false)))
    ∙ xor_of-zip2 (sector_in old) from long c.told-from
