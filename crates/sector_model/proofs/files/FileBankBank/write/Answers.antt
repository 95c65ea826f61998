use Rattle.std.proofs.Common.{◌≡◌, ◌<◌, ℕ, true, false, refl, sym, ◌∙◌, subst, IsTrue}
use Rattle.sector_model.proofs.FileRuns.{calls_at, called_fault, called_few, called_quiet, called_up, fault_down, good_so, good_up, here_at, panel_here}
use Rattle.sector_model.proofs.FileRuns.{synced_here, synced_others, within_file, within_seen, over_wrote, over_lost, on_ok, noted_so, noted_not, after_same}
use Rattle.sector_model.proofs.FileRuns.{over_idle, one_more_fits, closed_sectors, closed_down}
use Rattle.sector_model.specs.declared.event.Event.TheVariants.{Lost}
use Rattle.sector_model.specs.declared.calls.TheConstants.{GREATEST_COUNT}
use Rattle.sector_model.specs.History.{History, calls_of, is_down}
use Rattle.std.proofs.lemmas.Bool.{false≢true}
use Rattle.sector_model.proofs.files.FileBankBank.write.Goals as goal

pub note_write-requires-clause-within : goal.note_write-requires-clause-within
note_write-requires-clause-within g c = λ tells.
    within_seen (calls_at (c.args.self.now.over (subst IsTrue c.args.self.now.paired tells)) c.args.self.now.slots.ok.0 c.args.self.now.ten
    c.requires.call.device c.index_mut-slot.ensures.value)
    c.args.at c.requires.within (sym c.if-is_closed.ensures)

pub invariant_of-self-then-is_err-clause-over : goal.invariant_of-self-then-is_err-clause-over
invariant_of-self-then-is_err-clause-over g c = λ tells.
    over_lost (calls_at (c.args.self.now.over tells) c.args.self.now.slots.ok.0 c.args.self.now.ten c.requires.call.device c.index_mut-slot.ensures.value)
    c.write.new.self _ c.args.at c.args.from.now
    c.write.ensures.sectors (fault_down c.write.result c.write.ensures.answer c.if-is_err.ensures.value) c.told-from
    (c.note_loss.ensures (subst IsTrue (sym c.args.self.now.paired) tells))

pub invariant_of-self-then-note_write-clause-over : goal.invariant_of-self-then-note_write-clause-over
invariant_of-self-then-note_write-clause-over g c = λ tells.
    over_wrote (calls_at (c.args.self.now.over tells) c.args.self.now.slots.ok.0 c.args.self.now.ten c.requires.call.device c.index_mut-slot.ensures.value)
    c.write.new.self _ c.args.at c.args.from.now
    c.write.ensures.sectors (good_up c.write.result c.write.ensures.answer c.if-is_err.ensures.value) (sym c.if-is_closed.ensures)
    (on_ok c.write.result c.write.ensures.synced (good_so c.write.result c.if-is_err.ensures.value)) c.told-from c.requires.within
    (on_ok c.write.result (c.write.ensures.written tells) (good_so c.write.result c.if-is_err.ensures.value))
    (noted_so _ _ (c.note_write.ensures.noted (subst IsTrue (sym c.args.self.now.paired) tells)) c.if-note_write.true)

pub invariant_of-self-2-clause-over : goal.invariant_of-self-2-clause-over
invariant_of-self-2-clause-over g c = λ tells.
    let noted = subst IsTrue (sym c.args.self.now.paired) tells in
    over_lost (calls_at (c.args.self.now.over tells) c.args.self.now.slots.ok.0 c.args.self.now.ten c.requires.call.device c.index_mut-slot.ensures.value)
    c.close.new.self _ c.args.at c.args.from.now
    (closed_sectors c.write.new.self c.close.ensures c.write.ensures.sectors) (closed_down c.write.new.self c.close.ensures) c.told-from
    (after_same (Lost c.args.dev c.args.at c.args.from.now) (c.note_loss-2.ensures noted)
    (noted_not _ _ (c.note_write.ensures.noted noted) c.if-note_write.false))

pub returns-then-is_closed-clause-panel : goal.returns-then-is_closed-clause-panel
returns-then-is_closed-clause-panel g c =
    panel_here (here_at c.args.self.now.slots.ok.0 c.args.self.now.ten c.requires.call.device c.index_mut-slot.ensures.value) c.args.self.now.calls
    c.index_mut-slot.result.now false refl (sym c.if-is_closed.ensures) (λ closed. refl)

pub returns-then-is_closed-clause-synced : goal.returns-then-is_closed-clause-synced
returns-then-is_closed-clause-synced g c = tt

pub returns-then-is_closed-clause-others : goal.returns-then-is_closed-clause-others
returns-then-is_closed-clause-others g c = synced_others c.args.self.now.slots.items c.args.dev c.index_mut-slot.result.now

pub write-requires : goal.write-requires
write-requires g c = λ tells up.
    within_file (calls_at (c.args.self.now.over tells) c.args.self.now.slots.ok.0 c.args.self.now.ten c.requires.call.device c.index_mut-slot.ensures.value)
    c.args.at c.requires.within up

pub note_loss-requires-clause-calls : goal.note_loss-requires-clause-calls
note_loss-requires-clause-calls g c = λ tells. called_few
    (calls_at (c.args.self.now.over (subst IsTrue c.args.self.now.paired tells)) c.args.self.now.slots.ok.0 c.args.self.now.ten c.requires.call.device
    c.index_mut-slot.ensures.value) c.requires.call.calls

pub note_loss-requires-clause-up : goal.note_loss-requires-clause-up
note_loss-requires-clause-up g c = λ tells. called_up (calls_at (c.args.self.now.over (subst IsTrue c.args.self.now.paired tells)) c.args.self.now.slots.ok.0
    c.args.self.now.ten c.requires.call.device c.index_mut-slot.ensures.value) (sym c.if-is_closed.ensures)

pub returns-then-is_err-clause-panel : goal.returns-then-is_err-clause-panel
returns-then-is_err-clause-panel g c =
    panel_here (here_at c.args.self.now.slots.ok.0 c.args.self.now.ten c.requires.call.device c.index_mut-slot.ensures.value) c.args.self.now.calls
    c.write.new.self false c.write.ensures.sectors
    (fault_down c.write.result c.write.ensures.answer c.if-is_err.ensures.value) (λ closed. refl)

pub returns-then-is_err-clause-others : goal.returns-then-is_err-clause-others
returns-then-is_err-clause-others g c = synced_others c.args.self.now.slots.items c.args.dev c.write.new.self

pub note_write-requires-clause-calls : goal.note_write-requires-clause-calls
note_write-requires-clause-calls g c = λ tells. called_few
    (calls_at (c.args.self.now.over (subst IsTrue c.args.self.now.paired tells)) c.args.self.now.slots.ok.0 c.args.self.now.ten c.requires.call.device
    c.index_mut-slot.ensures.value) c.requires.call.calls

pub note_write-requires-clause-up : goal.note_write-requires-clause-up
note_write-requires-clause-up g c = λ tells. called_up
    (calls_at (c.args.self.now.over (subst IsTrue c.args.self.now.paired tells)) c.args.self.now.slots.ok.0 c.args.self.now.ten c.requires.call.device
    c.index_mut-slot.ensures.value) (sym c.if-is_closed.ensures)

pub returns-then-note_write-clause-panel : goal.returns-then-note_write-clause-panel
returns-then-note_write-clause-panel g c =
    panel_here (here_at c.args.self.now.slots.ok.0 c.args.self.now.ten c.requires.call.device c.index_mut-slot.ensures.value) c.args.self.now.calls
    c.write.new.self true c.write.ensures.sectors
    (good_up c.write.result c.write.ensures.answer c.if-is_err.ensures.value) (λ closed. absurd (false≢true (c.if-is_closed.ensures ∙ closed)))

pub returns-then-note_write-clause-synced : goal.returns-then-note_write-clause-synced
returns-then-note_write-clause-synced g c =
    synced_here (here_at c.args.self.now.slots.ok.0 c.args.self.now.ten c.requires.call.device c.index_mut-slot.ensures.value) c.write.new.self
    (on_ok c.write.result c.write.ensures.synced (good_so c.write.result c.if-is_err.ensures.value))

pub returns-then-note_write-clause-others : goal.returns-then-note_write-clause-others
returns-then-note_write-clause-others g c = synced_others c.args.self.now.slots.items c.args.dev c.write.new.self

pub returns-clause-panel : goal.returns-clause-panel
returns-clause-panel g c =
    panel_here (here_at c.args.self.now.slots.ok.0 c.args.self.now.ten c.requires.call.device c.index_mut-slot.ensures.value) c.args.self.now.calls
    c.close.new.self false (closed_sectors c.write.new.self c.close.ensures c.write.ensures.sectors) (closed_down c.write.new.self c.close.ensures)
    (λ closed. refl)

pub returns-clause-synced : goal.returns-clause-synced
returns-clause-synced g c = tt

pub returns-clause-others : goal.returns-clause-others
returns-clause-others g c = synced_others c.args.self.now.slots.items c.args.dev c.close.new.self

pub returns-then-is_closed-clause-history : goal.returns-then-is_closed-clause-history
returns-then-is_closed-clause-history g c = λ tells.
    called_quiet (calls_at (c.args.self.now.over tells) c.args.self.now.slots.ok.0 c.args.self.now.ten c.requires.call.device c.index_mut-slot.ensures.value)
    (Lost c.args.dev c.args.at c.args.from.now) c.if-is_closed.ensures (c.note_quiet.ensures (subst IsTrue (sym c.args.self.now.paired) tells))

pub returns-then-is_err-clause-history : goal.returns-then-is_err-clause-history
returns-then-is_err-clause-history g c = λ tells.
    called_fault (calls_at (c.args.self.now.over tells) c.args.self.now.slots.ok.0 c.args.self.now.ten c.requires.call.device c.index_mut-slot.ensures.value)
    (Lost c.args.dev c.args.at c.args.from.now) c.if-is_closed.ensures (c.note_loss.ensures (subst IsTrue (sym c.args.self.now.paired) tells))

pub returns-then-note_write-clause-history : goal.returns-then-note_write-clause-history
returns-then-note_write-clause-history g c = λ tells. noted_so _ _ (c.note_write.ensures.noted (subst IsTrue (sym c.args.self.now.paired) tells))
    c.if-note_write.true

pub returns-clause-history : goal.returns-clause-history
returns-clause-history g c = λ tells.
    let noted = (subst IsTrue (sym c.args.self.now.paired) tells) in
    called_fault (calls_at (c.args.self.now.over tells) c.args.self.now.slots.ok.0 c.args.self.now.ten c.requires.call.device c.index_mut-slot.ensures.value)
    (Lost c.args.dev c.args.at c.args.from.now) c.if-is_closed.ensures
    (after_same (Lost c.args.dev c.args.at c.args.from.now) (c.note_loss-2.ensures noted)
    (noted_not _ _ (c.note_write.ensures.noted noted) c.if-note_write.false))

pub returns-then-is_closed-clause-honest : goal.returns-then-is_closed-clause-honest
returns-then-is_closed-clause-honest g c = (λ tells. tells, λ tells. tells)

pub returns-then-is_err-clause-honest : goal.returns-then-is_err-clause-honest
returns-then-is_err-clause-honest g c = (λ tells. tells, λ tells. tells)

pub returns-then-note_write-clause-honest : goal.returns-then-note_write-clause-honest
returns-then-note_write-clause-honest g c = (λ tells. tells, λ tells. tells)

pub returns-clause-honest : goal.returns-clause-honest
returns-clause-honest g c = (λ tells. tells, λ tells. tells)

pub overflow_add-self : goal.overflow_add-self
overflow_add-self g c = one_more_fits c.args.self.now.calls c.requires.call.calls

pub index_mut-slot-requires : goal.index_mut-slot-requires
index_mut-slot-requires g c = subst (λ (n : ℕ). c.args.dev < n) (sym c.args.self.now.ten) c.requires.call.device

pub note_quiet-requires : goal.note_quiet-requires
note_quiet-requires g c = λ tells. called_few (calls_at (c.args.self.now.over (subst IsTrue c.args.self.now.paired tells)) c.args.self.now.slots.ok.0
    c.args.self.now.ten c.requires.call.device c.index_mut-slot.ensures.value) c.requires.call.calls

pub invariant_of-self-clause-over : goal.invariant_of-self-clause-over
invariant_of-self-clause-over g c = λ tells.
    over_idle (calls_at (c.args.self.now.over tells) c.args.self.now.slots.ok.0 c.args.self.now.ten c.requires.call.device c.index_mut-slot.ensures.value) _ _
    refl (sym c.if-is_closed.ensures)
    (c.note_quiet.ensures (subst IsTrue (sym c.args.self.now.paired) tells))

pub invariant_of-self-clause-ten : goal.invariant_of-self-clause-ten
invariant_of-self-clause-ten g c = c.args.self.now.ten

pub invariant_of-self-clause-paired : goal.invariant_of-self-clause-paired
invariant_of-self-clause-paired g c = c.args.self.now.paired

pub invariant_of-self-then-is_err-clause-ten : goal.invariant_of-self-then-is_err-clause-ten
invariant_of-self-then-is_err-clause-ten g c = c.args.self.now.ten

pub invariant_of-self-then-is_err-clause-paired : goal.invariant_of-self-then-is_err-clause-paired
invariant_of-self-then-is_err-clause-paired g c = c.args.self.now.paired

pub invariant_of-self-then-note_write-clause-ten : goal.invariant_of-self-then-note_write-clause-ten
invariant_of-self-then-note_write-clause-ten g c = c.args.self.now.ten

pub invariant_of-self-then-note_write-clause-paired : goal.invariant_of-self-then-note_write-clause-paired
invariant_of-self-then-note_write-clause-paired g c = c.args.self.now.paired

pub invariant_of-self-2-clause-ten : goal.invariant_of-self-2-clause-ten
invariant_of-self-2-clause-ten g c = c.args.self.now.ten

pub invariant_of-self-2-clause-paired : goal.invariant_of-self-2-clause-paired
invariant_of-self-2-clause-paired g c = c.args.self.now.paired

pub returns-then-is_err-clause-synced : goal.returns-then-is_err-clause-synced
returns-then-is_err-clause-synced g c = tt

pub note_loss-requires-2-clause-calls : goal.note_loss-requires-2-clause-calls
note_loss-requires-2-clause-calls g c = λ tells.
    subst (λ (k : History). calls_of k < GREATEST_COUNT) (sym (noted_not _ _ (c.note_write.ensures.noted tells) c.if-note_write.false))
    (called_few (calls_at (c.args.self.now.over (subst IsTrue c.args.self.now.paired tells)) c.args.self.now.slots.ok.0 c.args.self.now.ten
    c.requires.call.device c.index_mut-slot.ensures.value) c.requires.call.calls)

pub note_loss-requires-2-clause-up : goal.note_loss-requires-2-clause-up
note_loss-requires-2-clause-up g c = λ tells.
    subst (λ (k : History). is_down k c.args.dev ≡ false) (sym (noted_not _ _ (c.note_write.ensures.noted tells) c.if-note_write.false))
    (called_up (calls_at (c.args.self.now.over (subst IsTrue c.args.self.now.paired tells)) c.args.self.now.slots.ok.0 c.args.self.now.ten
    c.requires.call.device c.index_mut-slot.ensures.value) (sym c.if-is_closed.ensures))
