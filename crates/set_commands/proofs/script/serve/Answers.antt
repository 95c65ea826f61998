use Rattle.std.proofs.Common.{subst}
use Rattle.volume_table.specs.VolumeStep.{Create, Extend, Names, Read, Remove, Rename}
use Rattle.report.specs.Kept.{IsKept}
use Rattle.set_commands.proofs.LineAnswers.{line_answered, write_line_answered}
use Rattle.set_commands.proofs.script.serve.Goals as goal

pub returns-in-Some-Create-clause-answered : goal.returns-in-Some-Create-clause-answered
returns-in-Some-Create-clause-answered g c =
    let r = c.in-Some-Create in
    let said = r.ensures.said in
    let kept = subst (IsKept said.0) r.field-0-is said.2 in
    rw (c.outcome_of.ensures c.args.buffer.now)
    (line_answered _ c.args.line.now (Create r.name.now r.blocks) said.0 _ _ _ c.if-line-gt-LONGEST_LINE.false said.1 kept tt c.create.ensures.creates)

pub returns-in-Some-Extend-clause-answered : goal.returns-in-Some-Extend-clause-answered
returns-in-Some-Extend-clause-answered g c =
    let r = c.in-Some-Extend in
    let said = r.ensures.said in
    let kept = subst (IsKept said.0) r.field-0-is said.2 in
    rw (c.outcome_of-in-Some-Extend.ensures c.args.buffer.now)
    (line_answered _ c.args.line.now (Extend r.name.now r.by) said.0 _ _ _ c.if-line-gt-LONGEST_LINE.false said.1 kept tt c.extend.ensures.extends)

pub returns-in-Some-Remove-clause-answered : goal.returns-in-Some-Remove-clause-answered
returns-in-Some-Remove-clause-answered g c =
    let r = c.in-Some-Remove in
    let said = r.ensures.said in
    let kept = subst (IsKept said.0) r.field-0-is said.2 in
    rw (c.outcome_of-in-Some-Remove.ensures c.args.buffer.now)
    (line_answered _ c.args.line.now (Remove r.name.now) said.0 _ _ _ c.if-line-gt-LONGEST_LINE.false said.1 kept tt c.remove.ensures.removes)

pub returns-in-Some-Rename-clause-answered : goal.returns-in-Some-Rename-clause-answered
returns-in-Some-Rename-clause-answered g c =
    let r = c.in-Some-Rename in
    let said = r.ensures.said in
    let kept = subst (IsKept said.0) r.field-0-is said.2 in
    rw (c.outcome_of-in-Some-Rename.ensures c.args.buffer.now)
    (line_answered _ c.args.line.now (Rename r.old.now r.new.now) said.0 _ _ _ c.if-line-gt-LONGEST_LINE.false said.1 kept tt c.rename.ensures.renames)

pub returns-in-Some-Read-clause-answered : goal.returns-in-Some-Read-clause-answered
returns-in-Some-Read-clause-answered g c =
    let r = c.in-Some-Read in
    let said = r.ensures.said in
    let kept = subst (IsKept said.0) r.field-0-is said.2 in
    line_answered _ c.args.line.now (Read r.name.now r.at r.count) said.0 _ _ _ c.if-line-gt-LONGEST_LINE.false said.1 kept tt c.serve_read.ensures.applies

pub returns-in-Some-Write-clause-answered : goal.returns-in-Some-Write-clause-answered
returns-in-Some-Write-clause-answered g c =
    let r = c.in-Some-Write in
    let said = r.ensures.said in
    let kept = subst (IsKept said.0) r.field-0-is said.2 in
    rw (c.outcome_of-in-Some-Write.ensures c.args.buffer.now)
    (write_line_answered _ c.args.line.now r.name.now r.at r.blocks.now said.0 _ _ c.write.result c.if-line-gt-LONGEST_LINE.false said.1 kept
    c.write.ensures.few c.write.ensures.writes)

pub returns-in-Ok-clause-answered : goal.returns-in-Ok-clause-answered
returns-in-Ok-clause-answered g c =
    let r = c.in-Some-List in
    let said = r.ensures.said in
    let kept = subst (IsKept said.0) r.field-0-is said.2 in
    line_answered _ c.args.line.now Names said.0 _ _ _ c.if-line-gt-LONGEST_LINE.false said.1 kept tt c.in-Ok.ensures.lists

pub returns-in-Err-clause-answered : goal.returns-in-Err-clause-answered
returns-in-Err-clause-answered g c =
    let r = c.in-Some-List in
    let said = r.ensures.said in
    let kept = subst (IsKept said.0) r.field-0-is said.2 in
    line_answered _ c.args.line.now Names said.0 _ _ _ c.if-line-gt-LONGEST_LINE.false said.1 kept tt c.in-Err.ensures.lists
