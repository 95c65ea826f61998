use Rattle.std.proofs.Common.{◌≡◌, ◌+◌, ◌∙◌, ℕ, refl, sym, ap, subst}
use Rattle.std.specs.Prelude.{Err}
use Rattle.std.proofs.lemmas.Result.{err_from_is_err_and}
use Rattle.sector_model.specs.declared.refusal.Refusal.{Refusal}
use Rattle.sector_model.specs.declared.refusal.Refusal.TheVariants.{Memory, ReadFault, WriteFault}
use Rattle.array_io.specs.Believed.Views.{EndsIt}
use Rattle.set_commands.proofs.Scripts.{come_cut, come_ended, come_first, come_last, come_more, come_too_far, come_unread, gives_line, has_no_line}
use Rattle.set_commands.proofs.Scripts.{memory_not_writing, not_memory, not_reading, reading_not_memory, reading_not_writing, same_refusal, script_refusal}
use Rattle.set_commands.proofs.script.run_script.Goals as goal

pub loop-init : goal.loop-init
loop-init g c = record {
  capacity = c.in_ok-line.ensures.capacity;
  counted = refl;
  honest = λ honest. honest;
  still = λ honest. honest;
  come = come_first _ _ _ _;
}

pub loop-preserved : goal.loop-preserved
loop-preserved g c = record {
  capacity = c.in_ok-next_line.ensures.capacity;
  counted = ap (λ (n : ℕ). n + 1) c.loop.invariant.counted;
  honest = λ honest. c.in_ok-answer_line.ensures.honest.0 (c.loop.invariant.honest honest);
  still = λ honest. c.loop.invariant.still (c.in_ok-answer_line.ensures.honest.1 honest);
  come =
      let kept = c.next_line.new.line.items in
      let read = gives_line (g.R.Read.remaining c.loop.reader) (g.R.Read.remaining c.next_line.new.reader) kept c.in_ok-next_line.field-0
      c.if-not-branch.false c.in_ok-next_line.ensures.line in
      come_more _ _ _ _ _ _ _ _ _ _ kept c.loop.invariant.honest c.loop.invariant.come read
      (rw (sym c.deref.ensures.value) c.in_ok-answer_line.ensures.done);
}

pub returns-in_err-next_line-clause-read_fault : goal.returns-in_err-next_line-clause-read_fault
returns-in_err-next_line-clause-read_fault g c = λ fault. come_unread _ _ _ _ _ _ _ c.loop.invariant.come c.in_err-next_line.ensures.fault

pub returns-then-not-branch-clause-done : goal.returns-then-not-branch-clause-done
returns-then-not-branch-clause-done g c =
    come_last _ _ _ _ _ _ _ c.loop.invariant.come
    (has_no_line _ (g.R.Read.remaining c.next_line.new.reader) c.in_ok-next_line.field-0 c.if-not-branch.true c.in_ok-next_line.ensures.none)

pub returns-in_err-answer_line-clause-read_fault : goal.returns-in_err-answer_line-clause-read_fault
returns-in_err-answer_line-clause-read_fault g c = λ fault.
    let p = err_from_is_err_and c.from_residual-in_err-answer_line.result c.from_residual-in_err-answer_line.ensures.1 in
    let same : c.in_err-answer_line.field-0.0 ≡ ReadFault = same_refusal _ _ _ _ p.1 p.2 fault in
    absurd (not_reading c.in_err-answer_line.field-0.0 c.in_err-answer_line.ensures.err same)

pub returns-in_err-answer_line-clause-write_fault : goal.returns-in_err-answer_line-clause-write_fault
returns-in_err-answer_line-clause-write_fault g c = λ fault.
    let p = err_from_is_err_and c.from_residual-in_err-answer_line.result c.from_residual-in_err-answer_line.ensures.1 in
    let same : c.in_err-answer_line.field-0.0 ≡ WriteFault = same_refusal _ _ _ _ p.1 p.2 fault in
    let kept = c.next_line.new.line.items in
    let read = gives_line (g.R.Read.remaining c.loop.reader) (g.R.Read.remaining c.next_line.new.reader) kept c.in_ok-next_line.field-0
    c.if-not-branch.false c.in_ok-next_line.ensures.line in
    come_cut _ _ _ _ _ _ _ _ _ _ kept c.loop.invariant.honest c.loop.invariant.come read
    (rw (sym c.deref.ensures.value) (c.in_err-answer_line.ensures.cut (ap (λ (refusal : Refusal). Err refusal) same)))

pub returns-in_err-answer_line-clause-loss : goal.returns-in_err-answer_line-clause-loss
returns-in_err-answer_line-clause-loss g c = λ refusal err ends.
    let p = err_from_is_err_and c.from_residual-in_err-answer_line.result c.from_residual-in_err-answer_line.ensures.1 in
    let same : c.in_err-answer_line.field-0.0 ≡ refusal = same_refusal _ _ _ _ p.1 p.2 err in
    let kept = c.next_line.new.line.items in
    let read = gives_line (g.R.Read.remaining c.loop.reader) (g.R.Read.remaining c.next_line.new.reader) kept c.in_ok-next_line.field-0
    c.if-not-branch.false c.in_ok-next_line.ensures.line in
    come_ended _ _ refusal _ _ _ _ _ _ _ _ kept c.loop.invariant.honest c.loop.invariant.come read
    (rw (sym c.deref.ensures.value) (c.in_err-answer_line.ensures.ended refusal (ap (λ (refusal : Refusal). Err refusal) same) ends))

pub returns-in_err-answer_line-clause-memory : goal.returns-in_err-answer_line-clause-memory
returns-in_err-answer_line-clause-memory g c = λ fault.
    let p = err_from_is_err_and c.from_residual-in_err-answer_line.result c.from_residual-in_err-answer_line.ensures.1 in
    let same : c.in_err-answer_line.field-0.0 ≡ Memory = same_refusal _ _ _ _ p.1 p.2 fault in
    absurd (not_memory c.in_err-answer_line.field-0.0 c.in_err-answer_line.ensures.err same)

pub returns-clause-read_fault : goal.returns-clause-read_fault
returns-clause-read_fault g c = λ fault. come_too_far _ _ _ _ _ _ c.loop.invariant.come

pub returns-in_err-line-clause-honest : goal.returns-in_err-line-clause-honest
returns-in_err-line-clause-honest g c = (λ honest. honest, λ honest. honest)

pub returns-in_err-line-clause-done : goal.returns-in_err-line-clause-done
returns-in_err-line-clause-done g c = rw (err_from_is_err_and c.from_residual.result c.from_residual.ensures.1).1 tt

pub returns-in_err-line-clause-read_fault : goal.returns-in_err-line-clause-read_fault
returns-in_err-line-clause-read_fault g c = λ fault.
    let p = err_from_is_err_and c.from_residual.result c.from_residual.ensures.1 in
    absurd (reading_not_memory (sym (same_refusal _ _ Memory ReadFault p.1 p.2 fault)))

pub returns-in_err-line-clause-write_fault : goal.returns-in_err-line-clause-write_fault
returns-in_err-line-clause-write_fault g c = λ fault.
    let p = err_from_is_err_and c.from_residual.result c.from_residual.ensures.1 in
    absurd (memory_not_writing (same_refusal _ _ Memory WriteFault p.1 p.2 fault))

pub returns-in_err-line-clause-loss : goal.returns-in_err-line-clause-loss
returns-in_err-line-clause-loss g c = λ refusal err ends.
    let p = err_from_is_err_and c.from_residual.result c.from_residual.ensures.1 in
    let same : refusal ≡ Memory = sym (same_refusal _ _ Memory refusal p.1 p.2 err) in
    absurd (subst EndsIt same ends)

pub returns-in_err-line-clause-memory : goal.returns-in_err-line-clause-memory
returns-in_err-line-clause-memory g c = λ is. (refl, refl, refl)

pub returns-in_err-next_line-clause-honest : goal.returns-in_err-next_line-clause-honest
returns-in_err-next_line-clause-honest g c = (c.loop.invariant.honest, c.loop.invariant.still)

pub returns-in_err-next_line-clause-done : goal.returns-in_err-next_line-clause-done
returns-in_err-next_line-clause-done g c = rw (err_from_is_err_and c.from_residual-in_err-next_line.result c.from_residual-in_err-next_line.ensures.1).1 tt

pub returns-in_err-next_line-clause-write_fault : goal.returns-in_err-next_line-clause-write_fault
returns-in_err-next_line-clause-write_fault g c = λ fault.
    let p = err_from_is_err_and c.from_residual-in_err-next_line.result c.from_residual-in_err-next_line.ensures.1 in
    absurd (reading_not_writing (sym c.in_err-next_line.ensures.kind ∙ same_refusal _ _ _ _ p.1 p.2 fault))

pub returns-in_err-next_line-clause-memory : goal.returns-in_err-next_line-clause-memory
returns-in_err-next_line-clause-memory g c = λ fault.
    let p = err_from_is_err_and c.from_residual-in_err-next_line.result c.from_residual-in_err-next_line.ensures.1 in
    absurd (reading_not_memory (sym c.in_err-next_line.ensures.kind ∙ same_refusal _ _ _ _ p.1 p.2 fault))

pub returns-in_err-next_line-clause-loss : goal.returns-in_err-next_line-clause-loss
returns-in_err-next_line-clause-loss g c = λ refusal err ends.
    let p = err_from_is_err_and c.from_residual-in_err-next_line.result c.from_residual-in_err-next_line.ensures.1 in
    let same : refusal ≡ ReadFault = sym (same_refusal _ _ _ _ p.1 p.2 err) ∙ c.in_err-next_line.ensures.kind in
    absurd (subst EndsIt same ends)

pub returns-then-not-branch-clause-honest : goal.returns-then-not-branch-clause-honest
returns-then-not-branch-clause-honest g c = (c.loop.invariant.honest, c.loop.invariant.still)

pub returns-in_err-answer_line-clause-honest : goal.returns-in_err-answer_line-clause-honest
returns-in_err-answer_line-clause-honest g c = (
  λ honest. c.in_err-answer_line.ensures.honest.0 (c.loop.invariant.honest honest),
  λ honest. c.loop.invariant.still (c.in_err-answer_line.ensures.honest.1 honest),
)

pub returns-in_err-answer_line-clause-done : goal.returns-in_err-answer_line-clause-done
returns-in_err-answer_line-clause-done g c = rw (err_from_is_err_and c.from_residual-in_err-answer_line.result c.from_residual-in_err-answer_line.ensures.1).1
    tt

pub returns-in_err-answer_line-clause-err : goal.returns-in_err-answer_line-clause-err
returns-in_err-answer_line-clause-err g c =
    let p = err_from_is_err_and c.from_residual-in_err-answer_line.result c.from_residual-in_err-answer_line.ensures.1 in
    rw (p.1, p.2) (script_refusal _ c.in_err-answer_line.ensures.err)

pub returns-clause-honest : goal.returns-clause-honest
returns-clause-honest g c = (c.loop.invariant.honest, c.loop.invariant.still)

pub returns-clause-loss : goal.returns-clause-loss
returns-clause-loss g c = λ refusal err ends. absurd (subst EndsIt (sym (same_refusal _ _ ReadFault refusal refl refl err)) ends)
