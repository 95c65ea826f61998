use Rattle.std.proofs.lemmas.Result.{on_ok_weaker}
use Rattle.raidtool.proofs.Undone.{ends_begun, ends_unready, made_well, unmade_undone}
use Rattle.raidtool.proofs.make.make_or_undo.Goals as goal

pub returns-in-Ok-clause-ends : goal.returns-in-Ok-clause-ends
returns-in-Ok-clause-ends g c = rw c.settle.ensures.done (ends_begun g.D.File.Growing (g.D.SlotFiles.removes c.args.disk.now) _ _ _
    c.ready_files-ready.new.files.files.items _ _
    c.ready_files-ready.new.files.before _ _ c.make_over-made.result (rw c.in-Ok.is at c.ready_files-ready.ensures.files) c.into_parts-open.ensures.log
    (λ well. rw (c.deref_mut.ensures.value, c.into_parts-open.ensures.files) at (made_well c.args.geometry.members c.make_over-made.result _
    c.make_over-made.ensures.made c.make_over-made.ensures.stopped well)) (λ well. (c.settle.ensures.kept well).0) c.settle.ensures.undone)

pub returns-in-Ok-clause-made : goal.returns-in-Ok-clause-made
returns-in-Ok-clause-made g c = rw c.settle.ensures.done (on_ok_weaker c.make_over-made.result (λ alone. record {
  files = c.ready_files-ready.new.files.files.items;
  notes_were = c.args.files.before;
  notes_are = c.ready_files-ready.new.files.before;
  made = rw c.in-Ok.is at c.ready_files-ready.ensures.files;
  alone = rw (c.deref_mut.ensures.value, c.into_parts-open.ensures.files) at alone;
}) c.make_over-made.ensures.made)

pub returns-in-Err-clause-ends : goal.returns-in-Err-clause-ends
returns-in-Err-clause-ends g c = rw c.settle-in-Err.ensures.done (ends_unready g.D.File.Growing (g.D.SlotFiles.removes c.args.disk.now) _ _ _
    c.ready_files-ready.new.files.files.items _
    c.ready_files-ready.new.files.before _ c.in-Err.fault (rw c.in-Err.is at c.ready_files-ready.ensures.files)
    (unmade_undone c.args.geometry.members c.in-Err.fault c.in-Err.ensures.fault) (rw (c.into_parts-open.ensures.log, c.into_parts-open.ensures.files) at
    (c.settle-in-Err.ensures.undone (unmade_undone c.args.geometry.members c.in-Err.fault c.in-Err.ensures.fault))))
