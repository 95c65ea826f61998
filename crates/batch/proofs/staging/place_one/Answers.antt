use Rattle.std.proofs.Common.{refl, arith}
use Rattle.batch.proofs.staging.place_one.Goals as goal

pub returns-in-Has : goal.returns-in-Has
returns-in-Has c = c.in-Has.ensures.adds c.args.all.now c.args.sector.now refl (omega (arith, c.requires.most, c.requires.long)) c.requires.held

pub returns-in-Full : goal.returns-in-Full
returns-in-Full c = c.in-Full.ensures.adds c.args.all.now c.args.sector.now refl (omega (arith, c.requires.most, c.requires.long)) c.requires.held

pub returns-in-At : goal.returns-in-At
returns-in-At c = c.in-At.ensures.adds c.args.all.now c.args.sector.now refl (omega (arith, c.requires.most, c.requires.long)) c.requires.held
