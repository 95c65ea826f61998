use Rattle.std.proofs.Common.{inl}
use Rattle.raidtool.specs.Causes.{IsReplaceRefused}
use Rattle.raidtool.specs.DoneOver.{IsReplacedOn}
use Rattle.raidtool.specs.Stops.{IsRefusal}
use Rattle.raidtool.proofs.Renewed.{refusal_blamed, replaces_more}
use Rattle.raidtool.proofs.Undone.{ends_begun, ends_unready, replaced_well, unprepared_undone}
use Rattle.raidtool.proofs.replacing.replace_or_undo.Goals as goal

pub returns-in-Ok-clause-ends : goal.returns-in-Ok-clause-ends
returns-in-Ok-clause-ends g c = rw c.settle.ensures.done (ends_begun g.D.File.Growing (g.D.SlotFiles.removes c.args.disk.now) _ _ _
    c.prepare_file-ready.new.files.files.items _ _
    c.prepare_file-ready.new.files.before _ _ c.replace_over-done.result c.prepare_file-ready.ensures.prepares c.into_parts-open.ensures.log
    (λ well. rw (c.deref_mut.ensures.value, c.into_parts-open.ensures.files) at (replaced_well
    (IsReplacedOn g.D.File.Growing g.D.File.BankFile.left c.deref_mut.result.now c.args.id c.args.slot)
    (IsReplaceRefused g.D.File.Growing g.D.File.BankFile.left c.args.id c.args.slot) (λ fault. IsRefusal fault) g.W.Write.contents c.args.slot
    c.args.out.now c.replace_over-done.new.out c.replace_over-done.result c.replace_over-done.ensures well)) (λ well. (c.settle.ensures.kept well).0)
    c.settle.ensures.undone)

pub returns-in-Ok-clause-replaces : goal.returns-in-Ok-clause-replaces
returns-in-Ok-clause-replaces g c = rw c.settle.ensures.done (replaces_more _ _ _ _ _ _ _ _ g.W.Write.contents c.args.slot c.args.out.now
    c.replace_over-done.new.out
    c.replace_over-done.result
    (λ replaced. record {
      files = c.prepare_file-ready.new.files.files.items;
      prepared = c.in-Ok.ensures.prepared;
      replaced = rw (c.deref_mut.ensures.value, c.into_parts-open.ensures.files) at replaced;
    }) (λ any. c.in-Ok.ensures.synced) (λ refusal cause. inl cause)
    (refusal_blamed (g.D.SlotFiles.opens c.args.disk.now) (g.D.SlotFiles.creates c.args.disk.now) g.D.File.Growing.has_failed c.args.folder.now)
    c.replace_over-done.ensures)

pub returns-in-Err-clause-ends : goal.returns-in-Err-clause-ends
returns-in-Err-clause-ends g c = rw c.settle-in-Err.ensures.done (ends_unready g.D.File.Growing (g.D.SlotFiles.removes c.args.disk.now) _ _ _
    c.prepare_file-ready.new.files.files.items _
    c.prepare_file-ready.new.files.before _ c.in-Err.fault c.prepare_file-ready.ensures.prepares
    (unprepared_undone c.args.slot c.in-Err.fault c.in-Err.ensures.fault) (rw (c.into_parts-open.ensures.log, c.into_parts-open.ensures.files) at
    (c.settle-in-Err.ensures.undone (unprepared_undone c.args.slot c.in-Err.fault c.in-Err.ensures.fault))))
