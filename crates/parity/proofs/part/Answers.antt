use Rattle.std.proofs.Common.{◌-◌, ◌*◌, drop, arith, take-take}
use Rattle.parity.proofs.part.Goals as goal

pub returns : goal.returns
returns c = take-take 64 (512 - 64 * c.args.k) (drop (64 * c.args.k) c.args.sector.now) (omega (arith, c.requires))
