use Rattle.std.proofs.Common.{◌≡◌, take, length, arith}
use Rattle.std.proofs.lemmas.List.{length-take}
use Rattle.server.proofs.ReadRanges.{range_done, range_undone}
use Rattle.server.proofs.answering.reading.read_admitted.Goals as goal

pub read_parts-requires : goal.read_parts-requires
read_parts-requires g c =
    omega (arith, length-take c.args.count c.args.blocks.now, c.requires.most, c.requires.room, c.requires.within)

pub returns-in-Ok-clause-served : goal.returns-in-Ok-clause-served
returns-in-Ok-clause-served g c =
    let places = length (take c.args.count c.args.blocks.now) in
    let as_many : places ≡ c.args.count = omega (arith, length-take c.args.count c.args.blocks.now, c.requires.most, c.requires.room) in
    let long : length c.read_parts.new.to ≡ c.args.count = omega (arith, as_many, c.read_parts.auto.to) in
    λ going. range_done _ c.args.name.now c.args.at c.args.count c.read_parts.new.to _ _ _ c.requires.least c.requires.most going long c.in-Ok.ensures.reads

pub returns-in-Err-clause-served : goal.returns-in-Err-clause-served
returns-in-Err-clause-served g c =
    let places = length (take c.args.count c.args.blocks.now) in
    let as_many : places ≡ c.args.count = omega (arith, length-take c.args.count c.args.blocks.now, c.requires.most, c.requires.room) in
    λ going. range_undone _ c.args.name.now c.args.at c.args.count places _ _ _ c.requires.least c.requires.most going as_many c.in-Err.ensures.stops
