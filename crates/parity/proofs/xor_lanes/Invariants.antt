-- The first `i` vectors are XORed, and the others are as they were.
use Rattle.std.proofs.Common.{◌≡◌, ℕ, ◌*◌, ◌≤◌, [], length, get_or, take}
use Rattle.std.specs.Prelude.{bit_xor}
use Rattle.std.specs.Simd.Lanes.{zip2}
use Rattle.parity.specs.Lanes.{sector_in}
use Rattle.parity.proofs.xor_lanes.Given as goal

abbrev pub invariant-loop-i : goal.invariant-loop-i
invariant-loop-i l = record {
  eight : length l.to ≡ 8;
  long : length (sector_in (take l.i l.initial.to)) ≡ 64 * l.i;
  done : sector_in (take l.i l.to) ≡ zip2 bit_xor (sector_in (take l.i l.initial.to)) (take (64 * l.i) l.from);
  rest : (k : ℕ) → l.i ≤ k → get_or l.to k [] ≡ get_or l.initial.to k [];
}
