use Rattle.std.proofs.Common.{refl}
use Rattle.parity.proofs.xor.Goals as goal

pub returns-clause-long : goal.returns-clause-long
returns-clause-long c = c.fits-a.0

pub returns-clause-value : goal.returns-clause-value
returns-clause-value c = refl
