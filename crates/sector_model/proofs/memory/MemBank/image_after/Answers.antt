use Rattle.std.proofs.Common.{ℕ, ◌≤◌, sym, subst, ◌+◌, ap, ◌∙◌, List, count_by, arith}
use Rattle.sector_model.specs.declared.memory.Entry.{Entry}
use Rattle.sector_model.specs.History.{cut_at}
use Rattle.sector_model.specs.Candidates.{logged}
use Rattle.sector_model.specs.Memory.{IsInOrder, slots_of, run_of, log_before, is_answered}
use Rattle.sector_model.proofs.Images.{image_of, image_allowed}
use Rattle.std.proofs.lemmas.Result.{err_from_is_err_and}
use Rattle.sector_model.proofs.memory.MemBank.image_after.Goals as goal

pub returns-clause-choice : goal.returns-clause-choice
returns-clause-choice c =
    let m = c.args.self.now in
    image_of c.args.choice m.room c.answered.result c.args.call m.calls m.start.items c.deref-3.result.now c.in_ok-slots.slots.items m.log.items
    c.entries_before-log.result.now m.in_order m.replayed.early c.requires
    c.deref-3.ensures.value
    (c.entries_before-log.ensures ∙ ap (log_before c.args.call) c.deref-2.ensures.value)
    (c.answered.ensures ∙ ap (λ (log : List Entry). count_by (λ (entry : Entry). is_answered entry.event) log) c.deref.ensures.value)
    (omega (arith, c.in_ok-slots.slots.ok.0, c.in_ok-slots.ensures.len))
    c.in_ok-slots.ensures.taken

pub returns-clause-allowed : goal.returns-clause-allowed
returns-clause-allowed c =
    let m = c.args.self.now in
    image_allowed c.args.choice (m.room + logged (run_of (slots_of m.start.items) m.log.items m.calls))
    (cut_at c.args.call (run_of (slots_of m.start.items) m.log.items m.calls)) (slots_of c.in_ok-slots.slots.items) (returns-clause-choice c)

pub returns-in_err-slots-clause-slots : goal.returns-in_err-slots-clause-slots
returns-in_err-slots-clause-slots c = rw (err_from_is_err_and c.from_residual.result c.from_residual.ensures.1).1 tt

pub returns-in_err-slots-clause-choice : goal.returns-in_err-slots-clause-choice
returns-in_err-slots-clause-choice c = rw (err_from_is_err_and c.from_residual.result c.from_residual.ensures.1).1 tt

pub returns-in_err-slots-clause-allowed : goal.returns-in_err-slots-clause-allowed
returns-in_err-slots-clause-allowed c = rw (err_from_is_err_and c.from_residual.result c.from_residual.ensures.1).1 tt

pub entries_before-log-requires : goal.entries_before-log-requires
entries_before-log-requires c = subst IsInOrder (sym c.deref-2.ensures.value) c.args.self.now.in_order

pub slots_after-requires : goal.slots_after-requires
slots_after-requires c = let m = c.args.self.now in subst (λ (n : ℕ). n ≤ 10) (sym (c.deref-3.ensures.len ∙ m.slots)) m.most

pub returns-clause-slots : goal.returns-clause-slots
returns-clause-slots c = c.in_ok-slots.ensures.len ∙ c.deref-3.ensures.len ∙ c.args.self.now.slots

pub returns-in_err-slots-clause-err : goal.returns-in_err-slots-clause-err
returns-in_err-slots-clause-err c = let p = err_from_is_err_and c.from_residual.result c.from_residual.ensures.1 in rw p.1 p.2

pub returns-clause-err : goal.returns-clause-err
returns-clause-err c = tt
