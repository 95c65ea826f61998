use Rattle.std.proofs.Common.{rules, ◌≡◌, List, ℕ, subst}
use Rattle.std.specs.Prelude.{OnErr, OnOk}
use Rattle.std.specs.Io.KnownBytes.{Appends}
use mathlib.Core.List.{append_assoc}
use Rattle.report.specs.Replies.{slot_line}
use Rattle.report.specs.Written.{AppendsPart}
use Rattle.report.proofs.replies.write_slot_line.Goals as goal

pub returns-clause-ok : goal.returns-clause-ok
returns-clause-ok g c =
    let is : c.as_slice.result.now ≡ slot_line c.args.before.now c.args.slot c.args.after.now = search (rules, append_assoc) in
    subst (λ (text : List ℕ). OnOk c.write_text.result (Appends (g.W.Write.contents c.args.writer.now) (g.W.Write.contents c.write_text.new.writer) text)) is
    c.write_text.ensures.ok

pub returns-clause-part : goal.returns-clause-part
returns-clause-part g c =
    let is : c.as_slice.result.now ≡ slot_line c.args.before.now c.args.slot c.args.after.now = search (rules, append_assoc) in
    subst (λ (text : List ℕ). OnErr c.write_text.result (AppendsPart (g.W.Write.contents c.args.writer.now) (g.W.Write.contents c.write_text.new.writer) text))
    is c.write_text.ensures.part
