use Rattle.std.proofs.Common.{◌≡◌, ◌+◌, ◌*◌, length, get_or, take, [], sym, ap, ◌++◌, ◌∙◌, arith}
use Rattle.std.proofs.lemmas.List.{take_all}
use Rattle.std.proofs.lemmas.Simd.{take_more_put_chunk}
use Rattle.parity.specs.Lanes.{sector_in}
use Rattle.parity.proofs.Lanes.{sector_in-take}
use Rattle.parity.proofs.store.Goals as goal

pub loop-k-preserved : goal.loop-k-preserved
loop-k-preserved c =
    let lanes = c.args.lanes.now in
    let k = c.loop-k.k in
    let vector = get_or lanes k [] in
    let end : 64 * (k + 1) ≡ 64 * k + length vector = omega (arith, c.put_part.ensures.long) in
    record {
      long = c.put_part.array_long;
      done = ap (λ s. take (64 * (k + 1)) s) c.put_part.ensures.value
          ∙ take_more_put_chunk (64 * k) c.loop-k.to vector (64 * (k + 1)) end (omega (arith, c.loop-k.invariant.long))
          ∙ ap (λ s. s ++ vector) c.loop-k.invariant.done ∙ sym (sector_in-take lanes k (omega (arith, c.told-lanes)));
    }

pub returns : goal.returns
returns c =
    sym (take_all (64 * c.loop-k.k) c.loop-k.to (omega (arith, c.loop-k.invariant.long)))
    ∙ c.loop-k.invariant.done ∙ ap sector_in (take_all c.loop-k.k c.args.lanes.now (omega (arith, c.told-lanes)))
