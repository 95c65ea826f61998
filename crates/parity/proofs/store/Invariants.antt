-- The bytes up to part `k` are those of the first `k` vectors.
use Rattle.std.proofs.Common.{◌≡◌, ◌*◌, length, take}
use Rattle.parity.specs.Lanes.{sector_in}
use Rattle.parity.proofs.store.Given as goal

abbrev pub invariant-loop-k : goal.invariant-loop-k
invariant-loop-k l = record {
  long : length l.to ≡ 512;
  done : take (64 * l.k) l.to ≡ sector_in (take l.k l.lanes);
}
