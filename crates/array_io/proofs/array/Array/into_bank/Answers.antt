use Rattle.std.proofs.Common.{rules}
use Rattle.array_io.proofs.array.Array.into_bank.Goals as goal

pub returns : goal.returns
returns c = search rules
