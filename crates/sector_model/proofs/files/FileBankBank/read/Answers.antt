use Rattle.std.proofs.Common.{◌<◌, ℕ, rules, true, false, refl, sym, ◌∙◌, subst, IsTrue}
use Rattle.sector_model.proofs.FileRuns.{calls_at, called_fault, called_quiet, called_up, fault_down, good_up, here_at, panel_here, synced_each, called_few}
use Rattle.sector_model.proofs.FileRuns.{within_file, read_is_seen, over_read, over_idle, on_ok, over_failed, one_more_fits, good_so}
use Rattle.std.proofs.lemmas.Bool.{false≢true}
use Rattle.sector_model.specs.declared.event.Event.TheVariants.{DeviceFailed}
use Rattle.sector_model.proofs.files.FileBankBank.read.Goals as goal

pub note_quiet-requires : goal.note_quiet-requires
note_quiet-requires g c = λ tells. called_few (calls_at (c.args.self.now.over (subst IsTrue c.args.self.now.paired tells)) c.args.self.now.slots.ok.0
    c.args.self.now.ten c.requires.call.device c.index_mut-slot.ensures.value) c.requires.call.calls

pub read-requires : goal.read-requires
read-requires g c = λ tells up. within_file (calls_at (c.args.self.now.over tells) c.args.self.now.slots.ok.0 c.args.self.now.ten c.requires.call.device
    c.index_mut-slot.ensures.value) c.args.at c.requires.within up

pub note_failure-requires-clause-calls : goal.note_failure-requires-clause-calls
note_failure-requires-clause-calls g c = λ tells. called_few
    (calls_at (c.args.self.now.over (subst IsTrue c.args.self.now.paired tells)) c.args.self.now.slots.ok.0 c.args.self.now.ten c.requires.call.device
    c.index_mut-slot.ensures.value) c.requires.call.calls

pub note_failure-requires-clause-up : goal.note_failure-requires-clause-up
note_failure-requires-clause-up g c = λ tells. called_up
    (calls_at (c.args.self.now.over (subst IsTrue c.args.self.now.paired tells)) c.args.self.now.slots.ok.0 c.args.self.now.ten c.requires.call.device
    c.index_mut-slot.ensures.value) (sym c.if-is_closed.ensures)

pub note_quiet-requires-2 : goal.note_quiet-requires-2
note_quiet-requires-2 g c = λ tells. called_few (calls_at (c.args.self.now.over (subst IsTrue c.args.self.now.paired tells)) c.args.self.now.slots.ok.0
    c.args.self.now.ten c.requires.call.device c.index_mut-slot.ensures.value) c.requires.call.calls

pub invariant_of-self-clause-over : goal.invariant_of-self-clause-over
invariant_of-self-clause-over g c = λ tells.
    over_idle (calls_at (c.args.self.now.over tells) c.args.self.now.slots.ok.0 c.args.self.now.ten c.requires.call.device c.index_mut-slot.ensures.value) _ _
    refl (sym c.if-is_closed.ensures)
    (c.note_quiet.ensures (subst IsTrue (sym c.args.self.now.paired) tells))

pub invariant_of-self-2-clause-over : goal.invariant_of-self-2-clause-over
invariant_of-self-2-clause-over g c = λ tells.
    over_read (calls_at (c.args.self.now.over tells) c.args.self.now.slots.ok.0 c.args.self.now.ten c.requires.call.device c.index_mut-slot.ensures.value)
    c.read.new.self _
    c.read.ensures.sectors (good_up c.read.result c.read.ensures.answer c.if-is_err.ensures.value) (sym c.if-is_closed.ensures) c.read.ensures.synced
    (on_ok c.read.result (c.read.ensures.same tells) (good_so c.read.result c.if-is_err.ensures.value))
    (c.note_quiet-2.ensures (subst IsTrue (sym c.args.self.now.paired) tells))

pub returns-clause-bytes : goal.returns-clause-bytes
returns-clause-bytes g c = λ tells.
    read_is_seen (calls_at (c.args.self.now.over tells) c.args.self.now.slots.ok.0 c.args.self.now.ten c.requires.call.device c.index_mut-slot.ensures.value)
    c.args.at _
    (sym c.if-is_closed.ensures) c.requires.within (search rules)
    (on_ok c.read.result (c.read.ensures.read tells) (good_so c.read.result c.if-is_err.ensures.value))

pub returns-then-is_closed-clause-panel : goal.returns-then-is_closed-clause-panel
returns-then-is_closed-clause-panel g c =
    panel_here (here_at c.args.self.now.slots.ok.0 c.args.self.now.ten c.requires.call.device c.index_mut-slot.ensures.value) c.args.self.now.calls
    c.index_mut-slot.result.now false refl (sym c.if-is_closed.ensures) (λ closed. refl)

pub returns-then-is_closed-clause-synced : goal.returns-then-is_closed-clause-synced
returns-then-is_closed-clause-synced g c = synced_each
    (here_at c.args.self.now.slots.ok.0 c.args.self.now.ten c.requires.call.device c.index_mut-slot.ensures.value) c.index_mut-slot.result.now refl

pub returns-then-is_err-clause-panel : goal.returns-then-is_err-clause-panel
returns-then-is_err-clause-panel g c =
    panel_here (here_at c.args.self.now.slots.ok.0 c.args.self.now.ten c.requires.call.device c.index_mut-slot.ensures.value) c.args.self.now.calls
    c.read.new.self false c.read.ensures.sectors
    (fault_down c.read.result c.read.ensures.answer c.if-is_err.ensures.value) (λ closed. refl)

pub returns-then-is_err-clause-synced : goal.returns-then-is_err-clause-synced
returns-then-is_err-clause-synced g c = synced_each (here_at c.args.self.now.slots.ok.0 c.args.self.now.ten c.requires.call.device
    c.index_mut-slot.ensures.value) c.read.new.self c.read.ensures.synced

pub returns-clause-panel : goal.returns-clause-panel
returns-clause-panel g c =
    panel_here (here_at c.args.self.now.slots.ok.0 c.args.self.now.ten c.requires.call.device c.index_mut-slot.ensures.value) c.args.self.now.calls
    c.read.new.self true c.read.ensures.sectors
    (good_up c.read.result c.read.ensures.answer c.if-is_err.ensures.value) (λ closed. absurd (false≢true (c.if-is_closed.ensures ∙ closed)))

pub returns-clause-synced : goal.returns-clause-synced
returns-clause-synced g c = synced_each (here_at c.args.self.now.slots.ok.0 c.args.self.now.ten c.requires.call.device c.index_mut-slot.ensures.value)
    c.read.new.self c.read.ensures.synced

pub returns-then-is_closed-clause-history : goal.returns-then-is_closed-clause-history
returns-then-is_closed-clause-history g c = λ tells.
    called_quiet (calls_at (c.args.self.now.over tells) c.args.self.now.slots.ok.0 c.args.self.now.ten c.requires.call.device c.index_mut-slot.ensures.value)
    (DeviceFailed c.args.dev) c.if-is_closed.ensures (c.note_quiet.ensures (subst IsTrue (sym c.args.self.now.paired) tells))

pub returns-then-is_err-clause-history : goal.returns-then-is_err-clause-history
returns-then-is_err-clause-history g c = λ tells.
    called_fault (calls_at (c.args.self.now.over tells) c.args.self.now.slots.ok.0 c.args.self.now.ten c.requires.call.device c.index_mut-slot.ensures.value)
    (DeviceFailed c.args.dev) c.if-is_closed.ensures (c.note_failure.ensures (subst IsTrue (sym c.args.self.now.paired) tells))

pub returns-clause-history : goal.returns-clause-history
returns-clause-history g c = λ tells. c.note_quiet-2.ensures (subst IsTrue (sym c.args.self.now.paired) tells)

pub returns-then-is_closed-clause-honest : goal.returns-then-is_closed-clause-honest
returns-then-is_closed-clause-honest g c = (λ tells. tells, λ tells. tells)

pub returns-then-is_err-clause-honest : goal.returns-then-is_err-clause-honest
returns-then-is_err-clause-honest g c = (λ tells. tells, λ tells. tells)

pub returns-clause-honest : goal.returns-clause-honest
returns-clause-honest g c = (λ tells. tells, λ tells. tells)

pub overflow_add-self : goal.overflow_add-self
overflow_add-self g c = one_more_fits c.args.self.now.calls c.requires.call.calls

pub index_mut-slot-requires : goal.index_mut-slot-requires
index_mut-slot-requires g c = subst (λ (n : ℕ). c.args.dev < n) (sym c.args.self.now.ten) c.requires.call.device

pub invariant_of-self-clause-ten : goal.invariant_of-self-clause-ten
invariant_of-self-clause-ten g c = c.args.self.now.ten

pub invariant_of-self-clause-paired : goal.invariant_of-self-clause-paired
invariant_of-self-clause-paired g c = c.args.self.now.paired

pub invariant_of-self-then-is_err-clause-ten : goal.invariant_of-self-then-is_err-clause-ten
invariant_of-self-then-is_err-clause-ten g c = c.args.self.now.ten

pub invariant_of-self-then-is_err-clause-paired : goal.invariant_of-self-then-is_err-clause-paired
invariant_of-self-then-is_err-clause-paired g c = c.args.self.now.paired

pub invariant_of-self-2-clause-ten : goal.invariant_of-self-2-clause-ten
invariant_of-self-2-clause-ten g c = c.args.self.now.ten

pub invariant_of-self-2-clause-paired : goal.invariant_of-self-2-clause-paired
invariant_of-self-2-clause-paired g c = c.args.self.now.paired

pub invariant_of-self-then-is_err-clause-over : goal.invariant_of-self-then-is_err-clause-over
invariant_of-self-then-is_err-clause-over g c = λ tells.
    over_failed (calls_at (c.args.self.now.over tells) c.args.self.now.slots.ok.0 c.args.self.now.ten c.requires.call.device c.index_mut-slot.ensures.value)
    c.read.new.self _
    c.read.ensures.sectors (fault_down c.read.result c.read.ensures.answer c.if-is_err.ensures.value)
    (c.note_failure.ensures (subst IsTrue (sym c.args.self.now.paired) tells))

pub returns-then-is_closed-clause-bytes : goal.returns-then-is_closed-clause-bytes
returns-then-is_closed-clause-bytes g c = λ tells. tt

pub returns-then-is_err-clause-bytes : goal.returns-then-is_err-clause-bytes
returns-then-is_err-clause-bytes g c = λ tells. tt
