use Rattle.std.proofs.Common.{◌≡◌, ◌/◌, ℕ, ap, arith}
use Rattle.extents.specs.ExtentMaps.{place_of}
use Rattle.volume_table.proofs.store.dirty_blocks.is_dirty_block.Goals as goal

pub bounds-extents_of-place : goal.bounds-extents_of-place
bounds-extents_of-place c =
    let place : c.from.result / c.args.extents.now.blocks ≡ place_of c.args.extents.now c.args.block =
    ap (λ (n : ℕ). n / c.args.extents.now.blocks) c.from.ensures in
    omega (arith, place, (c.extents_of.ensures.extents.all c.requires.0 (place_of c.args.extents.now c.args.block) c.requires.1).0)
