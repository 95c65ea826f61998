use Rattle.std.proofs.Common.{sym, ap, ap₂, ◌++◌, ◌*◌, ◌∙◌, arith, length-set}
use Rattle.std.proofs.lemmas.List.{take_all}
use Rattle.parity.specs.Lanes.{sector_in}
use Rattle.parity.proofs.Lanes.{sector_in-take-set, take_more_chunk}
use Rattle.parity.proofs.load.Goals as goal

pub loop-k-preserved : goal.loop-k-preserved
loop-k-preserved c =
    let lanes = c.loop-k.lanes in
    let k = c.loop-k.k in
    let within = c.loop-k-test.true in
    record {
      eight = length-set lanes k c.part.result ∙ c.loop-k.invariant.eight;
      done = sector_in-take-set lanes k c.part.result (omega (arith, c.loop-k.invariant.eight))
          ∙ ap₂ (λ s t. s ++ t) c.loop-k.invariant.done c.part.ensures ∙ sym (take_more_chunk c.args.sector.now k);
    }

pub returns : goal.returns
returns c =
    let lanes = c.loop-k.lanes in
    let sector = c.args.sector.now in
    ap sector_in (sym (take_all c.loop-k.k lanes (omega (arith, c.loop-k.invariant.eight))))
    ∙ c.loop-k.invariant.done ∙ take_all (64 * c.loop-k.k) sector (omega (arith, c.told-sector))
