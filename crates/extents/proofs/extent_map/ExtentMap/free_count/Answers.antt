-- The extents that are not in the index are free.
use Rattle.std.proofs.Common.{◌≡◌, ◌+◌, ap, arith}
use Rattle.extents.specs.ExtentMaps.{free_of}
use Rattle.extents.proofs.IndexLemmas.{others_are_free}
use Rattle.extents.proofs.extent_map.ExtentMap.free_count.Goals as goal
use Rattle.extents.proofs.extent_map.ExtentMap.free_count.Goals.{After-from}

others : (c : After-from) → free_of c.args.self.now + c.from.result ≡ c.len.result
others c =
    let all = others_are_free c.self.inside.owners.items c.self.inside.index c.self.invariant in
    let value = c.len.ensures.value in
    let start = c.from.ensures in
    omega (arith, ap free_of c.self.view_is)

pub overflow_sub-result : goal.overflow_sub-result
overflow_sub-result c = omega (arith, others c)

pub returns : goal.returns
returns c = omega (arith, others c)
