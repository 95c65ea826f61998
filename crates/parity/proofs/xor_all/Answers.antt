use Rattle.std.proofs.Common.{[], get_or, sym, ◌∙◌, ap}
use Rattle.parity.specs.Xor.{xor_of}
use Rattle.parity.proofs.Lanes.{sector_in-zeros}
use Rattle.parity.proofs.Laws.{xor_of_all-take}
use Rattle.parity.proofs.xor_all.Goals as goal

pub loop-sector-init : goal.loop-sector-init
loop-sector-init c = sector_in-zeros

pub loop-sector-preserved : goal.loop-sector-preserved
loop-sector-preserved c =
    let sectors = c.args.sectors.now in
    let place = c.loop-sector.sector-index in
    c.xor_lanes.ensures
    ∙ ap (λ s. xor_of s (get_or sectors place [])) c.loop-sector.invariant
    ∙ sym (xor_of_all-take sectors place c.loop-sector-test.true)
