use Rattle.std.proofs.Common.{rules, ◌≡◌, List, ℕ, subst}
use mathlib.Core.List.{append_assoc}
use Rattle.rebuild.specs.Rebuilding.{Position}
use Rattle.report.specs.Replies.{progress_line}
use Rattle.report.specs.Written.{WritesText}
use Rattle.report.proofs.replies.set.write_position.Goals as goal

pub returns : goal.returns
returns g c =
    let is : c.as_slice.result.now ≡ progress_line c.args.format c.args.rows (Position c.args.position) = search (rules, append_assoc) in
    subst (λ (text : List ℕ). WritesText (g.W.Write.contents c.args.writer.now) (g.W.Write.contents c.write_text.new.writer) text c.write_text.result) is
    (record { ok = c.write_text.ensures.ok; part = c.write_text.ensures.part; kind = c.write_text.ensures.kind })
