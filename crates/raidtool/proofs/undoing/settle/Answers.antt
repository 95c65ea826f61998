use Rattle.std.proofs.Common.{sym, ◌∙◌}
use Rattle.std.proofs.lemmas.Bool.{false≢true}
use Rattle.raidtool.proofs.Undone.{taken_back_whole}
use Rattle.raidtool.proofs.undoing.settle.Goals as goal

pub returns-then-is_undone-clause-kept : goal.returns-then-is_undone-clause-kept
returns-then-is_undone-clause-kept g c = λ well. absurd (well (c.is_undone.ensures.0 c.if-is_undone.true))

pub returns-then-is_undone-clause-undone : goal.returns-then-is_undone-clause-undone
returns-then-is_undone-clause-undone g c = λ is. taken_back_whole g.D.File.Growing (g.D.SlotFiles.removes c.args.disk.now) _ c.args.log.before
    c.args.files.items c.undo.new.files c.args.files.len c.undo.result (rw c.deref_mut.ensures.value at c.undo.ensures)
    (rw c.deref_mut.ensures.value at c.deref_mut.ensures.len)

pub returns-clause-undone : goal.returns-clause-undone
returns-clause-undone g c = λ is. absurd (false≢true (sym c.if-is_undone.false ∙ c.is_undone.ensures.1 is))
