use Rattle.std.proofs.Common.{◌≡◌, map, take}
use Rattle.std.specs.Option.{option_map}
use Rattle.device_files.proofs.lending.read_all.Given as goal

abbrev pub invariant-loop-slot : goal.invariant-loop-slot
invariant-loop-slot g l = map (option_map (λ one. one.file.now)) l.read.items ≡ take l.slot-index l.fn.files
