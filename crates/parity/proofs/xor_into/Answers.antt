use Rattle.std.proofs.Common.{rules}
use Rattle.parity.proofs.xor_into.Goals as goal

pub returns : goal.returns
returns c = search rules
