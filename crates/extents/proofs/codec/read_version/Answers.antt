use Rattle.std.proofs.Common.{arith}
use Rattle.extents.proofs.codec.read_version.Goals as goal

pub returns : goal.returns
returns c = record {
  sectors = λ k within. c.told-from k (omega arith);
  some = c.version_of.ensures.some;
  exact = c.version_of.ensures.exact;
}
