-- The first `k` vectors have the bytes up to part `k`.
use Rattle.std.proofs.Common.{◌≡◌, ◌*◌, length, take}
use Rattle.parity.specs.Lanes.{sector_in}
use Rattle.parity.proofs.load.Given as goal

abbrev pub invariant-loop-k : goal.invariant-loop-k
invariant-loop-k l = record {
  eight : length l.lanes ≡ 8;
  done : sector_in (take l.k l.lanes) ≡ take (64 * l.k) l.sector;
}
