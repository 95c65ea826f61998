use Rattle.std.proofs.Common.{◌≡◌, get_or, vec_len}
use Rattle.sector_model.specs.Files.{HoldsDisk}
use Rattle.sector_model.specs.Memory.{AreSectors}
use Rattle.device_files.proofs.memory.sectors_of.Given as goal

abbrev pub invariant-loop-number : goal.invariant-loop-number
invariant-loop-number l = record {
  count : vec_len l.disk ≡ l.number;
  holds : HoldsDisk (λ p. get_or l.bytes p 0) l.disk.items;
  whole : AreSectors l.disk.items;
}
