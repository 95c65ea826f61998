use Rattle.std.proofs.Common.{take}
use Rattle.std.specs.List.{flat_map}
use Rattle.std.specs.Io.KnownBytes.{Appends}
use Rattle.report.specs.Replies.{volume_line}
use Rattle.report.specs.Written.{volume_of}
use Rattle.report.proofs.replies.write_volumes.Given as goal

abbrev pub invariant-loop-volume : goal.invariant-loop-volume
invariant-loop-volume g l = Appends (g.W.Write.contents l.initial.writer) (g.W.Write.contents l.writer)
    (flat_map (λ volume. volume_line (volume_of volume)) (take l.volume-index l.volumes))
