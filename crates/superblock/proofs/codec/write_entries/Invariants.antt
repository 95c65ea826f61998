-- The entries of the slots so far stand after the first 40 bytes.
use Rattle.std.proofs.Common.{◌+◌, ◌*◌, ◌++◌, take}
use Rattle.superblock.specs.Spelling.{entries_bytes}
use Rattle.superblock.proofs.Parts.{Begins}
use Rattle.superblock.proofs.codec.write_entries.Given as goal

abbrev pub invariant-loop-slot : goal.invariant-loop-slot
invariant-loop-slot l = Begins (40 + 16 * l.slot) l.to (take 40 l.initial.to ++ entries_bytes l.slot l.states l.incarnations)
