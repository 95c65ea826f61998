-- The XOR of the sectors so far.
use Rattle.std.proofs.Common.{◌≡◌, take}
use Rattle.parity.specs.Lanes.{sector_in}
use Rattle.parity.specs.Xor.{xor_of_all}
use Rattle.parity.proofs.xor_all.Given as goal

abbrev pub invariant-loop-sector : goal.invariant-loop-sector
invariant-loop-sector l = sector_in l.sum ≡ xor_of_all (take l.sector-index l.sectors)
