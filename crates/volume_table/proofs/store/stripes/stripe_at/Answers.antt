use Rattle.std.proofs.Common.{◌≡◌, ◌*◌, ◌/◌, ◌%◌, sym, ◌∙◌, ap₂, subst, arith}
use Rattle.layout_map.specs.Placement.{stripe_blocks}
use Rattle.extents.specs.declared.extent_layout.ExtentLayout.{ExtentLayout}
use Rattle.extents.specs.ExtentMaps.{HasPlace, IsWhere, place_of}
use Rattle.extents.specs.SetExtents.{extents_in}
use Rattle.volume_table.specs.WholeStripes.{FillStripe}
use Rattle.volume_table.proofs.AlignedExtents.{begins_stripe, stripe_in_extent}
use Rattle.volume_table.proofs.WholeStripes.{fills_stripe}
use Rattle.volume_table.proofs.store.stripes.stripe_at.Goals as goal

pub returns : goal.returns
returns c =
    let geometry = c.args.geometry.now in
    let extents = extents_in geometry in
    let blocks = c.from.result * c.from-2.result in
    let same : blocks ≡ stripe_blocks geometry.members geometry.chunk = ap₂ (λ chunk others. chunk * others) c.from.ensures c.from-2.ensures in
    let there = subst (λ (e : ExtentLayout). HasPlace c.args.map.now c.args.volume (place_of e c.args.block)) c.requires.of_set c.requires.placed in
    let is_there = subst (λ (e : ExtentLayout). IsWhere e c.args.map.now c.args.volume c.args.block c.where_is.result) c.requires.of_set c.where_is.ensures in
    let fits = stripe_in_extent geometry c.requires.two c.args.block c.requires.first in
    let begins = ap₂ (λ logical each. logical % each) (is_there there.0 there.1) same
    ∙ begins_stripe geometry c.requires.two c.args.block c.requires.first there.0 in
    subst (λ (e : ExtentLayout). FillStripe geometry e c.args.map.now c.args.volume c.args.block (c.where_is.result / blocks)) (sym c.requires.of_set)
    (fills_stripe geometry extents c.args.map.now c.args.volume c.args.block c.where_is.result blocks same (omega (arith, fits, same)) begins is_there)
