use Rattle.std.proofs.Common.{take}
use Rattle.std.specs.List.{flat_map}
use Rattle.std.specs.Io.KnownBytes.{Appends}
use Rattle.server.specs.Ends.{reply_text_to_write}
use Rattle.server.proofs.waiting.write_replies.Given as goal

abbrev pub invariant-loop-reply : goal.invariant-loop-reply
invariant-loop-reply g l = Appends (g.W.Write.contents l.initial.writer) (g.W.Write.contents l.writer)
    (flat_map reply_text_to_write (take l.reply-index l.replies))
