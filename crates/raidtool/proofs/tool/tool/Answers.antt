use Rattle.std.proofs.Common.{arith, inl, inr, refl, ap}
use Rattle.clap.specs.Walk.{texts}
use Rattle.raidtool.proofs.Statuses.{done_by, fresh_refused, no_line, no_memory_fault, none_given, one_at_most, refused_words, some_words}
use Rattle.raidtool.proofs.tool.tool.Goals as goal

-- ---- no words

pub returns-then-is_empty-clause-status : goal.returns-then-is_empty-clause-status
returns-then-is_empty-clause-status g c = omega (arith, one_at_most c.serve_fresh.result c.status_of.result c.status_of.ensures.status)

pub returns-then-is_empty-clause-done : goal.returns-then-is_empty-clause-done
returns-then-is_empty-clause-done g c = λ is. inl (none_given c.args.words.now c.is_empty.result c.is_empty.ensures c.if-is_empty.true)

pub returns-then-is_empty-clause-wrong : goal.returns-then-is_empty-clause-wrong
returns-then-is_empty-clause-wrong g c = λ is. absurd (omega (arith, is, one_at_most c.serve_fresh.result c.status_of.result c.status_of.ensures.status))

pub returns-then-is_empty-clause-unread : goal.returns-then-is_empty-clause-unread
returns-then-is_empty-clause-unread g c = λ is. absurd (omega (arith, is, one_at_most c.serve_fresh.result c.status_of.result c.status_of.ensures.status))

pub returns-then-is_empty-clause-ends : goal.returns-then-is_empty-clause-ends
returns-then-is_empty-clause-ends g c = λ some. absurd (some (none_given c.args.words.now c.is_empty.result c.is_empty.ensures c.if-is_empty.true))

pub returns-then-is_empty-clause-memory : goal.returns-then-is_empty-clause-memory
returns-then-is_empty-clause-memory g c = λ script none told is. done_by _ c.serve_fresh.result c.status_of.result c.status_of.ensures.status is
    (c.serve_fresh.ensures.ran script told)

pub returns-then-is_empty-clause-read : goal.returns-then-is_empty-clause-read
returns-then-is_empty-clause-read g c = λ none is known. done_by _ c.serve_fresh.result c.status_of.result c.status_of.ensures.status is
    (c.serve_fresh.ensures.read known)

pub returns-then-is_empty-clause-silent : goal.returns-then-is_empty-clause-silent
returns-then-is_empty-clause-silent g c = λ none is. done_by _ c.serve_fresh.result c.status_of.result c.status_of.ensures.status is c.status_of.ensures.quiet

pub returns-then-is_empty-clause-refused : goal.returns-then-is_empty-clause-refused
returns-then-is_empty-clause-refused g c = λ none. fresh_refused _ _ c.serve_fresh.result c.status_of.result c.status_of.ensures.status
    c.serve_fresh.ensures.end c.status_of.ensures.told c.serve_fresh.ensures.early

-- ---- a line

pub returns-in-Ok-clause-status : goal.returns-in-Ok-clause-status
returns-in-Ok-clause-status g c = c.end_asked.ensures.most

pub returns-in-Ok-clause-done : goal.returns-in-Ok-clause-done
returns-in-Ok-clause-done g c = λ is. inr (c.in-Ok.asked, c.in-Ok.ensures.ok)

pub returns-in-Ok-clause-wrong : goal.returns-in-Ok-clause-wrong
returns-in-Ok-clause-wrong g c = λ is. absurd (c.end_asked.ensures.never_two is)

pub returns-in-Ok-clause-unread : goal.returns-in-Ok-clause-unread
returns-in-Ok-clause-unread g c = λ is. absurd (c.end_asked.ensures.never_two is)

pub returns-in-Ok-clause-ends : goal.returns-in-Ok-clause-ends
returns-in-Ok-clause-ends g c = λ some. inl (c.in-Ok.asked, c.in-Ok.ensures.ok, c.end_asked.ensures.ends)

pub returns-in-Ok-clause-memory : goal.returns-in-Ok-clause-memory
returns-in-Ok-clause-memory g c = λ script none told is. absurd (no_line _ c.in-Ok.asked (ap texts none) c.in-Ok.ensures.ok)

pub returns-in-Ok-clause-read : goal.returns-in-Ok-clause-read
returns-in-Ok-clause-read g c = λ none is known. absurd (no_line _ c.in-Ok.asked (ap texts none) c.in-Ok.ensures.ok)

pub returns-in-Ok-clause-silent : goal.returns-in-Ok-clause-silent
returns-in-Ok-clause-silent g c = λ none is. absurd (no_line _ c.in-Ok.asked (ap texts none) c.in-Ok.ensures.ok)

pub returns-in-Ok-clause-refused : goal.returns-in-Ok-clause-refused
returns-in-Ok-clause-refused g c = λ none. absurd (no_line _ c.in-Ok.asked (ap texts none) c.in-Ok.ensures.ok)

-- ---- memory ran out while they were read

pub returns-in-Err-clause-status : goal.returns-in-Err-clause-status
returns-in-Err-clause-status g c = omega (arith, c.status_of-in-Err.ensures.status)

pub returns-in-Err-clause-done : goal.returns-in-Err-clause-done
returns-in-Err-clause-done g c = λ is. absurd (omega (arith, is, c.status_of-in-Err.ensures.status))

pub returns-in-Err-clause-wrong : goal.returns-in-Err-clause-wrong
returns-in-Err-clause-wrong g c = λ is. absurd (omega (arith, is, c.status_of-in-Err.ensures.status))

pub returns-in-Err-clause-unread : goal.returns-in-Err-clause-unread
returns-in-Err-clause-unread g c = λ is. absurd (omega (arith, is, c.status_of-in-Err.ensures.status))

pub returns-in-Err-clause-ends : goal.returns-in-Err-clause-ends
returns-in-Err-clause-ends g c = λ some. inr (inl (c.status_of-in-Err.ensures.status, c.status_of-in-Err.ensures.told, refl, refl))

pub returns-in-Err-clause-memory : goal.returns-in-Err-clause-memory
returns-in-Err-clause-memory g c = λ script none told is. absurd (omega (arith, is, c.status_of-in-Err.ensures.status))

pub returns-in-Err-clause-read : goal.returns-in-Err-clause-read
returns-in-Err-clause-read g c = λ none is. absurd (omega (arith, is, c.status_of-in-Err.ensures.status))

pub returns-in-Err-clause-silent : goal.returns-in-Err-clause-silent
returns-in-Err-clause-silent g c = λ none is. absurd (omega (arith, is, c.status_of-in-Err.ensures.status))

pub returns-in-Err-clause-refused : goal.returns-in-Err-clause-refused
returns-in-Err-clause-refused g c = λ none.
    absurd (some_words c.args.words.now c.is_empty.result c.is_empty.ensures c.if-is_empty.false (ap texts none))

-- ---- they ask for nothing

pub returns-in-Err-2-clause-wrong : goal.returns-in-Err-2-clause-wrong
returns-in-Err-2-clause-wrong g c = λ is.
    let some = some_words c.args.words.now c.is_empty.result c.is_empty.ensures c.if-is_empty.false in
    refused_words (texts c.args.words.now) c.in-Err-2.fault some c.in-Err-2.ensures.err
    (no_memory_fault c.in-Err.fault c.in-Err-2.fault c.is_memory.result c.is_memory.ensures c.if-is_memory.false c.in-Err-2.fault-is)

pub returns-in-Err-2-clause-ends : goal.returns-in-Err-2-clause-ends
returns-in-Err-2-clause-ends g c = λ some. inr (inr (
  c.in-Err-2.fault,
  c.in-Err-2.ensures.err,
  no_memory_fault c.in-Err.fault c.in-Err-2.fault c.is_memory.result c.is_memory.ensures c.if-is_memory.false c.in-Err-2.fault-is,
  (refl, rw c.in-Err-2.fault-is at c.tell_fault.ensures),
))

pub returns-in-Err-2-clause-unread : goal.returns-in-Err-2-clause-unread
returns-in-Err-2-clause-unread g c = λ is. (refl, refl)

pub returns-in-Err-2-clause-done : goal.returns-in-Err-2-clause-done
returns-in-Err-2-clause-done g c = λ is. absurd (omega (arith, is))

pub returns-in-Err-2-clause-memory : goal.returns-in-Err-2-clause-memory
returns-in-Err-2-clause-memory g c = λ script none told is. absurd (omega (arith, is))

pub returns-in-Err-2-clause-read : goal.returns-in-Err-2-clause-read
returns-in-Err-2-clause-read g c = λ none is. absurd (omega (arith, is))

pub returns-in-Err-2-clause-silent : goal.returns-in-Err-2-clause-silent
returns-in-Err-2-clause-silent g c = λ none is. absurd (omega (arith, is))

pub returns-in-Err-2-clause-refused : goal.returns-in-Err-2-clause-refused
returns-in-Err-2-clause-refused g c = λ none.
    absurd (some_words c.args.words.now c.is_empty.result c.is_empty.ensures c.if-is_empty.false (ap texts none))
