use Rattle.std.proofs.Common.{take}
use Rattle.std.specs.List.{flat_map}
use Rattle.std.specs.Io.KnownBytes.{Appends}
use Rattle.report.specs.Replies.{block_line}
use Rattle.report.proofs.replies.write_blocks.Given as goal

abbrev pub invariant-loop-block : goal.invariant-loop-block
invariant-loop-block g l = Appends (g.W.Write.contents l.initial.writer) (g.W.Write.contents l.writer) (flat_map block_line (take l.block-index l.blocks))
