use Rattle.std.proofs.Common.{◌≡◌, ◌<◌, ℕ, true, false, refl, sym, ◌∙◌, subst, IsTrue}
use Rattle.sector_model.proofs.FileRuns.{calls_at, called_fault, called_few, called_kept, called_quiet, fault_down, good_so, good_up, here_at, idle_answered}
use Rattle.sector_model.proofs.FileRuns.{idle_closed, idle_up, panel_here, synced_here, synced_others, over_flushed, over_failed, on_ok, noted_so, noted_not}
use Rattle.sector_model.proofs.FileRuns.{after_same, over_idle, one_more_fits, called_up, closed_sectors, closed_down}
use Rattle.sector_model.specs.declared.event.Event.TheVariants.{DeviceFailed}
use Rattle.sector_model.specs.declared.calls.TheConstants.{GREATEST_COUNT}
use Rattle.sector_model.specs.History.{History, calls_of, is_down}
use Rattle.std.proofs.lemmas.Bool.{false≢true}
use Rattle.sector_model.proofs.files.FileBankBank.flush.Goals as goal

pub flush-requires : goal.flush-requires
flush-requires g c = λ tells up.
    (called_kept (calls_at (c.args.self.now.over tells) c.args.self.now.slots.ok.0 c.args.self.now.ten c.requires.call.device c.index_mut-slot.ensures.value)
    up).marked

pub invariant_of-self-then-is_err-clause-over : goal.invariant_of-self-then-is_err-clause-over
invariant_of-self-then-is_err-clause-over g c = λ tells.
    over_failed (calls_at (c.args.self.now.over tells) c.args.self.now.slots.ok.0 c.args.self.now.ten c.requires.call.device c.index_mut-slot.ensures.value)
    c.flush.new.self _
    c.flush.ensures.sectors (fault_down c.flush.result c.flush.ensures.answer c.if-is_err.ensures.value)
    (c.note_failure.ensures (subst IsTrue (sym c.args.self.now.paired) tells))

pub invariant_of-self-then-note_flush-clause-over : goal.invariant_of-self-then-note_flush-clause-over
invariant_of-self-then-note_flush-clause-over g c = λ tells.
    over_flushed (calls_at (c.args.self.now.over tells) c.args.self.now.slots.ok.0 c.args.self.now.ten c.requires.call.device c.index_mut-slot.ensures.value)
    c.flush.new.self _
    c.flush.ensures.sectors (good_up c.flush.result c.flush.ensures.answer c.if-is_err.ensures.value) (sym c.if-is_closed.ensures)
    (on_ok c.flush.result (c.flush.ensures.safe tells) (good_so c.flush.result c.if-is_err.ensures.value))
    (noted_so _ _ (c.note_flush.ensures.noted (subst IsTrue (sym c.args.self.now.paired) tells)) c.if-note_flush.true)

pub invariant_of-self-2-clause-over : goal.invariant_of-self-2-clause-over
invariant_of-self-2-clause-over g c = λ tells.
    let noted = subst IsTrue (sym c.args.self.now.paired) tells in
    over_failed (calls_at (c.args.self.now.over tells) c.args.self.now.slots.ok.0 c.args.self.now.ten c.requires.call.device c.index_mut-slot.ensures.value)
    c.close.new.self _
    (closed_sectors c.flush.new.self c.close.ensures c.flush.ensures.sectors) (closed_down c.flush.new.self c.close.ensures)
    (after_same (DeviceFailed c.args.dev) (c.note_failure-2.ensures noted) (noted_not _ _ (c.note_flush.ensures.noted noted) c.if-note_flush.false))

pub returns-then-is_closed-clause-panel : goal.returns-then-is_closed-clause-panel
returns-then-is_closed-clause-panel g c =
    panel_here (here_at c.args.self.now.slots.ok.0 c.args.self.now.ten c.requires.call.device c.index_mut-slot.ensures.value) c.args.self.now.calls
    c.index_mut-slot.result.now false refl (sym c.if-is_closed.ensures) (λ closed. refl)

pub returns-then-is_closed-clause-others : goal.returns-then-is_closed-clause-others
returns-then-is_closed-clause-others g c = synced_others c.args.self.now.slots.items c.args.dev c.index_mut-slot.result.now

pub returns-then-is_closed-clause-synced : goal.returns-then-is_closed-clause-synced
returns-then-is_closed-clause-synced g c = tt

pub returns-then-is_closed-clause-idle : goal.returns-then-is_closed-clause-idle
returns-then-is_closed-clause-idle g c = λ synced. idle_closed
    (here_at c.args.self.now.slots.ok.0 c.args.self.now.ten c.requires.call.device c.index_mut-slot.ensures.value) _ c.if-is_closed.ensures

pub note_failure-requires-clause-calls : goal.note_failure-requires-clause-calls
note_failure-requires-clause-calls g c = λ tells. called_few
    (calls_at (c.args.self.now.over (subst IsTrue c.args.self.now.paired tells)) c.args.self.now.slots.ok.0 c.args.self.now.ten c.requires.call.device
    c.index_mut-slot.ensures.value) c.requires.call.calls

pub returns-then-is_err-clause-panel : goal.returns-then-is_err-clause-panel
returns-then-is_err-clause-panel g c =
    panel_here (here_at c.args.self.now.slots.ok.0 c.args.self.now.ten c.requires.call.device c.index_mut-slot.ensures.value) c.args.self.now.calls
    c.flush.new.self false c.flush.ensures.sectors
    (fault_down c.flush.result c.flush.ensures.answer c.if-is_err.ensures.value) (λ closed. refl)

pub returns-then-is_err-clause-idle : goal.returns-then-is_err-clause-idle
returns-then-is_err-clause-idle g c = λ synced. absurd
    (idle_answered (here_at c.args.self.now.slots.ok.0 c.args.self.now.ten c.requires.call.device c.index_mut-slot.ensures.value) c.flush.result
    c.if-is_err.ensures.value c.if-is_closed.ensures c.flush.ensures.idle synced)

pub returns-then-is_err-clause-others : goal.returns-then-is_err-clause-others
returns-then-is_err-clause-others g c = synced_others c.args.self.now.slots.items c.args.dev c.flush.new.self

pub returns-then-note_flush-clause-panel : goal.returns-then-note_flush-clause-panel
returns-then-note_flush-clause-panel g c =
    panel_here (here_at c.args.self.now.slots.ok.0 c.args.self.now.ten c.requires.call.device c.index_mut-slot.ensures.value) c.args.self.now.calls
    c.flush.new.self true c.flush.ensures.sectors
    (good_up c.flush.result c.flush.ensures.answer c.if-is_err.ensures.value) (λ closed. absurd (false≢true (c.if-is_closed.ensures ∙ closed)))

pub returns-then-note_flush-clause-idle : goal.returns-then-note_flush-clause-idle
returns-then-note_flush-clause-idle g c = λ synced. idle_up
    (here_at c.args.self.now.slots.ok.0 c.args.self.now.ten c.requires.call.device c.index_mut-slot.ensures.value) _ c.if-is_closed.ensures
    c.if-note_flush.ensures.room

pub returns-then-note_flush-clause-synced : goal.returns-then-note_flush-clause-synced
returns-then-note_flush-clause-synced g c =
    synced_here (here_at c.args.self.now.slots.ok.0 c.args.self.now.ten c.requires.call.device c.index_mut-slot.ensures.value) c.flush.new.self
    (on_ok c.flush.result c.flush.ensures.synced (good_so c.flush.result c.if-is_err.ensures.value))

pub returns-then-note_flush-clause-others : goal.returns-then-note_flush-clause-others
returns-then-note_flush-clause-others g c = synced_others c.args.self.now.slots.items c.args.dev c.flush.new.self

pub returns-clause-panel : goal.returns-clause-panel
returns-clause-panel g c =
    panel_here (here_at c.args.self.now.slots.ok.0 c.args.self.now.ten c.requires.call.device c.index_mut-slot.ensures.value) c.args.self.now.calls
    c.close.new.self false (closed_sectors c.flush.new.self c.close.ensures c.flush.ensures.sectors) (closed_down c.flush.new.self c.close.ensures)
    (λ closed. refl)

pub returns-clause-idle : goal.returns-clause-idle
returns-clause-idle g c = λ synced. idle_up (here_at c.args.self.now.slots.ok.0 c.args.self.now.ten c.requires.call.device c.index_mut-slot.ensures.value) _
    c.if-is_closed.ensures c.if-note_flush.ensures.room

pub returns-clause-others : goal.returns-clause-others
returns-clause-others g c = synced_others c.args.self.now.slots.items c.args.dev c.close.new.self

pub returns-then-is_closed-clause-history : goal.returns-then-is_closed-clause-history
returns-then-is_closed-clause-history g c = λ tells.
    called_quiet (calls_at (c.args.self.now.over tells) c.args.self.now.slots.ok.0 c.args.self.now.ten c.requires.call.device c.index_mut-slot.ensures.value)
    (DeviceFailed c.args.dev) c.if-is_closed.ensures (c.note_quiet.ensures (subst IsTrue (sym c.args.self.now.paired) tells))

pub returns-then-is_err-clause-history : goal.returns-then-is_err-clause-history
returns-then-is_err-clause-history g c = λ tells.
    called_fault (calls_at (c.args.self.now.over tells) c.args.self.now.slots.ok.0 c.args.self.now.ten c.requires.call.device c.index_mut-slot.ensures.value)
    (DeviceFailed c.args.dev) c.if-is_closed.ensures (c.note_failure.ensures (subst IsTrue (sym c.args.self.now.paired) tells))

pub returns-then-note_flush-clause-history : goal.returns-then-note_flush-clause-history
returns-then-note_flush-clause-history g c = λ tells. noted_so _ _ (c.note_flush.ensures.noted (subst IsTrue (sym c.args.self.now.paired) tells))
    c.if-note_flush.true

pub returns-clause-history : goal.returns-clause-history
returns-clause-history g c = λ tells.
    let noted = (subst IsTrue (sym c.args.self.now.paired) tells) in
    called_fault (calls_at (c.args.self.now.over tells) c.args.self.now.slots.ok.0 c.args.self.now.ten c.requires.call.device c.index_mut-slot.ensures.value)
    (DeviceFailed c.args.dev) c.if-is_closed.ensures
    (after_same (DeviceFailed c.args.dev) (c.note_failure-2.ensures noted) (noted_not _ _ (c.note_flush.ensures.noted noted) c.if-note_flush.false))

pub returns-then-is_closed-clause-honest : goal.returns-then-is_closed-clause-honest
returns-then-is_closed-clause-honest g c = (λ tells. tells, λ tells. tells)

pub returns-then-is_err-clause-honest : goal.returns-then-is_err-clause-honest
returns-then-is_err-clause-honest g c = (λ tells. tells, λ tells. tells)

pub returns-then-note_flush-clause-honest : goal.returns-then-note_flush-clause-honest
returns-then-note_flush-clause-honest g c = (λ tells. tells, λ tells. tells)

pub returns-clause-honest : goal.returns-clause-honest
returns-clause-honest g c = (λ tells. tells, λ tells. tells)

pub overflow_add-self : goal.overflow_add-self
overflow_add-self g c = one_more_fits c.args.self.now.calls c.requires.call.calls

pub index_mut-slot-requires : goal.index_mut-slot-requires
index_mut-slot-requires g c = subst (λ (n : ℕ). c.args.dev < n) (sym c.args.self.now.ten) c.requires.call.device

pub note_quiet-requires : goal.note_quiet-requires
note_quiet-requires g c = λ tells. called_few (calls_at (c.args.self.now.over (subst IsTrue c.args.self.now.paired tells)) c.args.self.now.slots.ok.0
    c.args.self.now.ten c.requires.call.device c.index_mut-slot.ensures.value) c.requires.call.calls

pub invariant_of-self-clause-over : goal.invariant_of-self-clause-over
invariant_of-self-clause-over g c = λ tells.
    over_idle (calls_at (c.args.self.now.over tells) c.args.self.now.slots.ok.0 c.args.self.now.ten c.requires.call.device c.index_mut-slot.ensures.value) _ _
    refl (sym c.if-is_closed.ensures)
    (c.note_quiet.ensures (subst IsTrue (sym c.args.self.now.paired) tells))

pub invariant_of-self-clause-ten : goal.invariant_of-self-clause-ten
invariant_of-self-clause-ten g c = c.args.self.now.ten

pub invariant_of-self-clause-paired : goal.invariant_of-self-clause-paired
invariant_of-self-clause-paired g c = c.args.self.now.paired

pub invariant_of-self-then-is_err-clause-ten : goal.invariant_of-self-then-is_err-clause-ten
invariant_of-self-then-is_err-clause-ten g c = c.args.self.now.ten

pub invariant_of-self-then-is_err-clause-paired : goal.invariant_of-self-then-is_err-clause-paired
invariant_of-self-then-is_err-clause-paired g c = c.args.self.now.paired

pub invariant_of-self-then-note_flush-clause-ten : goal.invariant_of-self-then-note_flush-clause-ten
invariant_of-self-then-note_flush-clause-ten g c = c.args.self.now.ten

pub invariant_of-self-then-note_flush-clause-paired : goal.invariant_of-self-then-note_flush-clause-paired
invariant_of-self-then-note_flush-clause-paired g c = c.args.self.now.paired

pub invariant_of-self-2-clause-ten : goal.invariant_of-self-2-clause-ten
invariant_of-self-2-clause-ten g c = c.args.self.now.ten

pub invariant_of-self-2-clause-paired : goal.invariant_of-self-2-clause-paired
invariant_of-self-2-clause-paired g c = c.args.self.now.paired

pub note_failure-requires-clause-up : goal.note_failure-requires-clause-up
note_failure-requires-clause-up g c = λ tells. called_up
    (calls_at (c.args.self.now.over (subst IsTrue c.args.self.now.paired tells)) c.args.self.now.slots.ok.0 c.args.self.now.ten c.requires.call.device
    c.index_mut-slot.ensures.value) (sym c.if-is_closed.ensures)

pub note_flush-requires-clause-calls : goal.note_flush-requires-clause-calls
note_flush-requires-clause-calls g c = λ tells. called_few
    (calls_at (c.args.self.now.over (subst IsTrue c.args.self.now.paired tells)) c.args.self.now.slots.ok.0 c.args.self.now.ten c.requires.call.device
    c.index_mut-slot.ensures.value) c.requires.call.calls

pub note_flush-requires-clause-up : goal.note_flush-requires-clause-up
note_flush-requires-clause-up g c = λ tells. called_up
    (calls_at (c.args.self.now.over (subst IsTrue c.args.self.now.paired tells)) c.args.self.now.slots.ok.0 c.args.self.now.ten c.requires.call.device
    c.index_mut-slot.ensures.value) (sym c.if-is_closed.ensures)

pub returns-then-is_err-clause-synced : goal.returns-then-is_err-clause-synced
returns-then-is_err-clause-synced g c = tt

pub returns-clause-synced : goal.returns-clause-synced
returns-clause-synced g c = tt

pub note_failure-requires-2-clause-calls : goal.note_failure-requires-2-clause-calls
note_failure-requires-2-clause-calls g c = λ tells.
    subst (λ (k : History). calls_of k < GREATEST_COUNT) (sym (noted_not _ _ (c.note_flush.ensures.noted tells) c.if-note_flush.false))
    (called_few (calls_at (c.args.self.now.over (subst IsTrue c.args.self.now.paired tells)) c.args.self.now.slots.ok.0 c.args.self.now.ten
    c.requires.call.device c.index_mut-slot.ensures.value) c.requires.call.calls)

pub note_failure-requires-2-clause-up : goal.note_failure-requires-2-clause-up
note_failure-requires-2-clause-up g c = λ tells.
    subst (λ (k : History). is_down k c.args.dev ≡ false) (sym (noted_not _ _ (c.note_flush.ensures.noted tells) c.if-note_flush.false))
    (called_up (calls_at (c.args.self.now.over (subst IsTrue c.args.self.now.paired tells)) c.args.self.now.slots.ok.0 c.args.self.now.ten
    c.requires.call.device c.index_mut-slot.ensures.value) (sym c.if-is_closed.ensures))
