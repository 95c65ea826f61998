use Rattle.std.proofs.Common.{◌≡◌, ◌*◌, vec_len, get_or, take}
use Rattle.sector_model.specs.Files.{HoldsDisk}
use Rattle.sector_model.proofs.mem_file.MemFile.new.Given as goal

abbrev pub invariant-loop-sector : goal.invariant-loop-sector
invariant-loop-sector l = record {
  size : vec_len l.bytes ≡ 512 * l.sector-index;
  holds : HoldsDisk (λ p. get_or l.bytes.items p 0) (take l.sector-index l.disk);
}
