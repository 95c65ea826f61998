use Rattle.std.proofs.Common.{inl, ◌<◌, Ok, Err, sym, ◌∙◌, ap, subst}
use Rattle.std.proofs.lemmas.Result.{err_from_is_err_and}
use Rattle.layout_map.specs.declared.geometry.Geometry.{Geometry}
use Rattle.layout_map.specs.Placement.{rows_of}
use Rattle.array_io.specs.Believed.ArrayCalls.{Answer}
use Rattle.array_io.specs.Steps.ReadingOn.{KeepsOn}
use Rattle.array_io.proofs.Images.Codecs.{spellings}
use Rattle.array_io.proofs.Reading.ReadEnds.{both_tries, first_gives, first_try, not_marked_twice, second_gives, try_marked}
use Rattle.array_io.proofs.Reading.ReadWhole.{first_whole, second_whole}
use Rattle.array_io.proofs.Reading.Scanning.{answer_of_read}
use Rattle.array_io.proofs.array.read.read_value.Goals as goal

pub returns-in_err-value_or_fail_slot-clause-steps : goal.returns-in_err-value_or_fail_slot-clause-steps
returns-in_err-value_or_fail_slot-clause-steps g c =
    let p = err_from_is_err_and c.from_residual.result c.from_residual.ensures.1 in
    rw (p.1, p.2) (first_try spellings (g.B.Bank.honest c.args.bank.now) c.args.member c.args.row c.args.table.now c.value_or_fail_slot.new.table
    (g.B.Bank.panel c.args.bank.now) (g.B.Bank.panel c.value_or_fail_slot.new.bank)
    (g.B.Bank.history c.args.bank.now) (g.B.Bank.history c.value_or_fail_slot.new.bank) c.value_or_fail_slot.new.to (Err c.in_err-value_or_fail_slot.field-0.0)
    (λ fair. g.met.B.Bank.true_to _ fair) (λ fair. g.met.B.Bank.true_to _ (c.value_or_fail_slot.ensures.honest.0 fair)) c.requires.its_slots
    c.in_err-value_or_fail_slot.ensures.reads)

pub returns-then-branch-clause-steps : goal.returns-then-branch-clause-steps
returns-then-branch-clause-steps g c = subst (λ (a : Answer). KeepsOn (g.B.Bank.honest c.args.bank.now) c.args.table.now c.value_or_fail_slot.new.table
    (g.B.Bank.panel c.args.bank.now) (g.B.Bank.panel c.value_or_fail_slot.new.bank) (g.B.Bank.history c.args.bank.now)
    (g.B.Bank.history c.value_or_fail_slot.new.bank) a) (ap answer_of_read (c.in_ok-value_or_fail_slot.was ∙ ap Ok c.if-branch.true))
    (first_try spellings (g.B.Bank.honest c.args.bank.now) c.args.member c.args.row c.args.table.now c.value_or_fail_slot.new.table
    (g.B.Bank.panel c.args.bank.now) (g.B.Bank.panel c.value_or_fail_slot.new.bank)
    (g.B.Bank.history c.args.bank.now) (g.B.Bank.history c.value_or_fail_slot.new.bank) c.value_or_fail_slot.new.to c.value_or_fail_slot.result
    (λ fair. g.met.B.Bank.true_to _ fair) (λ fair. g.met.B.Bank.true_to _ (c.value_or_fail_slot.ensures.honest.0 fair)) c.requires.its_slots
    c.value_or_fail_slot.ensures.reads)

pub returns-then-branch-clause-gives : goal.returns-then-branch-clause-gives
returns-then-branch-clause-gives g c = λ honest. first_gives spellings (g.B.Bank.honest c.args.bank.now) c.args.member c.args.row c.args.table.now
    c.value_or_fail_slot.new.table (g.B.Bank.panel c.args.bank.now) (g.B.Bank.panel c.value_or_fail_slot.new.bank)
    (g.B.Bank.history c.args.bank.now) (g.B.Bank.history c.value_or_fail_slot.new.bank) c.value_or_fail_slot.new.to c.value_or_fail_slot.result
    (λ fair. g.met.B.Bank.true_to _ fair) (λ fair. g.met.B.Bank.true_to _ (c.value_or_fail_slot.ensures.honest.0 fair)) c.requires.its_slots
    c.value_or_fail_slot.ensures.reads
    (inl (c.in_ok-value_or_fail_slot.was ∙ ap Ok c.if-branch.true)) honest (ap answer_of_read (c.in_ok-value_or_fail_slot.was ∙ ap Ok c.if-branch.true))

pub returns-in_err-value_or_fail_slot-2-clause-steps : goal.returns-in_err-value_or_fail_slot-2-clause-steps
returns-in_err-value_or_fail_slot-2-clause-steps g c =
    let p = err_from_is_err_and c.from_residual-in_err-value_or_fail_slot-2.result c.from_residual-in_err-value_or_fail_slot-2.ensures.1 in
    rw (p.1, p.2) (both_tries spellings (g.B.Bank.honest c.args.bank.now) c.args.member c.args.row c.args.table.now c.value_or_fail_slot.new.table
    (g.B.Bank.panel c.args.bank.now) (g.B.Bank.panel c.value_or_fail_slot.new.bank)
    (g.B.Bank.history c.args.bank.now) (g.B.Bank.history c.value_or_fail_slot.new.bank) c.value_or_fail_slot.new.to c.value_or_fail_slot.result
    (λ fair. g.met.B.Bank.true_to _ fair) (λ fair. g.met.B.Bank.true_to _ (c.value_or_fail_slot.ensures.honest.0 fair)) c.requires.its_slots
    c.value_or_fail_slot.ensures.reads
    (g.B.Bank.honest c.value_or_fail_slot.new.bank) (λ fair. c.value_or_fail_slot.ensures.honest.0 fair) c.value_or_fail_slot-2.new.table
    (g.B.Bank.panel c.value_or_fail_slot-2.new.bank) (g.B.Bank.history c.value_or_fail_slot-2.new.bank) c.value_or_fail_slot-2.new.to
    (Err c.in_err-value_or_fail_slot-2.field-0.0)
    c.value_or_fail_slot.ensures.its_slots c.in_err-value_or_fail_slot-2.ensures.reads (λ fair. g.met.B.Bank.true_to _ fair)
    (λ fair. g.met.B.Bank.true_to _ (c.value_or_fail_slot-2.ensures.honest.0 fair))
    (c.in_ok-value_or_fail_slot.was ∙ ap Ok c.if-branch.false))

pub returns-then-branch-2-clause-steps : goal.returns-then-branch-2-clause-steps
returns-then-branch-2-clause-steps g c = subst (λ (a : Answer). KeepsOn (g.B.Bank.honest c.args.bank.now) c.args.table.now c.value_or_fail_slot-2.new.table
    (g.B.Bank.panel c.args.bank.now) (g.B.Bank.panel c.value_or_fail_slot-2.new.bank) (g.B.Bank.history c.args.bank.now)
    (g.B.Bank.history c.value_or_fail_slot-2.new.bank) a) (ap answer_of_read (c.in_ok-value_or_fail_slot-2.was ∙ ap Ok c.if-branch-2.true))
    (both_tries spellings (g.B.Bank.honest c.args.bank.now) c.args.member c.args.row c.args.table.now c.value_or_fail_slot.new.table
    (g.B.Bank.panel c.args.bank.now) (g.B.Bank.panel c.value_or_fail_slot.new.bank)
    (g.B.Bank.history c.args.bank.now) (g.B.Bank.history c.value_or_fail_slot.new.bank) c.value_or_fail_slot.new.to c.value_or_fail_slot.result
    (λ fair. g.met.B.Bank.true_to _ fair) (λ fair. g.met.B.Bank.true_to _ (c.value_or_fail_slot.ensures.honest.0 fair)) c.requires.its_slots
    c.value_or_fail_slot.ensures.reads
    (g.B.Bank.honest c.value_or_fail_slot.new.bank) (λ fair. c.value_or_fail_slot.ensures.honest.0 fair) c.value_or_fail_slot-2.new.table
    (g.B.Bank.panel c.value_or_fail_slot-2.new.bank) (g.B.Bank.history c.value_or_fail_slot-2.new.bank) c.value_or_fail_slot-2.new.to
    c.value_or_fail_slot-2.result
    c.value_or_fail_slot.ensures.its_slots c.value_or_fail_slot-2.ensures.reads (λ fair. g.met.B.Bank.true_to _ fair)
    (λ fair. g.met.B.Bank.true_to _ (c.value_or_fail_slot-2.ensures.honest.0 fair))
    (c.in_ok-value_or_fail_slot.was ∙ ap Ok c.if-branch.false))

pub returns-then-branch-2-clause-gives : goal.returns-then-branch-2-clause-gives
returns-then-branch-2-clause-gives g c = λ honest. second_gives spellings (g.B.Bank.honest c.args.bank.now) c.args.member c.args.row c.args.table.now
    c.value_or_fail_slot.new.table (g.B.Bank.panel c.args.bank.now) (g.B.Bank.panel c.value_or_fail_slot.new.bank)
    (g.B.Bank.history c.args.bank.now) (g.B.Bank.history c.value_or_fail_slot.new.bank) c.value_or_fail_slot.new.to c.value_or_fail_slot.result
    (λ fair. g.met.B.Bank.true_to _ fair) (λ fair. g.met.B.Bank.true_to _ (c.value_or_fail_slot.ensures.honest.0 fair)) c.requires.its_slots
    c.value_or_fail_slot.ensures.reads
    (g.B.Bank.honest c.value_or_fail_slot.new.bank) (λ fair. c.value_or_fail_slot.ensures.honest.0 fair) c.value_or_fail_slot-2.new.table
    (g.B.Bank.panel c.value_or_fail_slot-2.new.bank) (g.B.Bank.history c.value_or_fail_slot-2.new.bank) c.value_or_fail_slot-2.new.to
    c.value_or_fail_slot-2.result
    c.value_or_fail_slot.ensures.its_slots c.value_or_fail_slot-2.ensures.reads (λ fair. g.met.B.Bank.true_to _ fair)
    (λ fair. g.met.B.Bank.true_to _ (c.value_or_fail_slot-2.ensures.honest.0 fair))
    (inl (c.in_ok-value_or_fail_slot-2.was ∙ ap Ok c.if-branch-2.true)) honest (ap answer_of_read (c.in_ok-value_or_fail_slot-2.was ∙ ap Ok c.if-branch-2.true))

-- no second slot can be marked
pub returns-clause-steps : goal.returns-clause-steps
returns-clause-steps g c = absurd (not_marked_twice (g.B.Bank.honest c.args.bank.now) (g.B.Bank.honest c.value_or_fail_slot.new.bank) c.args.table.now
    c.value_or_fail_slot.new.table c.value_or_fail_slot-2.new.table (g.B.Bank.panel c.args.bank.now) (g.B.Bank.panel c.value_or_fail_slot.new.bank)
    (g.B.Bank.panel c.value_or_fail_slot-2.new.bank) (g.B.Bank.history c.args.bank.now) (g.B.Bank.history c.value_or_fail_slot.new.bank)
    (g.B.Bank.history c.value_or_fail_slot-2.new.bank)
    (try_marked spellings (g.B.Bank.honest c.args.bank.now) (g.B.Bank.panel c.args.bank.now).devices 0 c.args.table.now c.value_or_fail_slot.new.table
    c.args.member c.args.row (g.B.Bank.panel c.args.bank.now) (g.B.Bank.panel c.value_or_fail_slot.new.bank) (g.B.Bank.history c.args.bank.now)
    (g.B.Bank.history c.value_or_fail_slot.new.bank) c.value_or_fail_slot.new.to c.value_or_fail_slot.result (λ fair. g.met.B.Bank.true_to _ fair)
    (λ fair. g.met.B.Bank.true_to _ (c.value_or_fail_slot.ensures.honest.0 fair)) c.requires.its_slots c.value_or_fail_slot.ensures.reads
    (c.in_ok-value_or_fail_slot.was ∙ ap Ok c.if-branch.false))
    (try_marked spellings (g.B.Bank.honest c.value_or_fail_slot.new.bank) (g.B.Bank.panel c.value_or_fail_slot.new.bank).devices 0
    c.value_or_fail_slot.new.table c.value_or_fail_slot-2.new.table c.args.member c.args.row (g.B.Bank.panel c.value_or_fail_slot.new.bank)
    (g.B.Bank.panel c.value_or_fail_slot-2.new.bank) (g.B.Bank.history c.value_or_fail_slot.new.bank) (g.B.Bank.history c.value_or_fail_slot-2.new.bank)
    c.value_or_fail_slot-2.new.to c.value_or_fail_slot-2.result (λ fair. g.met.B.Bank.true_to _ fair)
    (λ fair. g.met.B.Bank.true_to _ (c.value_or_fail_slot-2.ensures.honest.0 fair)) c.value_or_fail_slot.ensures.its_slots
    c.value_or_fail_slot-2.ensures.reads (c.in_ok-value_or_fail_slot-2.was ∙ ap Ok c.if-branch-2.false)))

pub returns-then-branch-clause-whole : goal.returns-then-branch-clause-whole
returns-then-branch-clause-whole g c = λ fair none. first_whole (g.B.Bank.honest c.args.bank.now) c.args.table.now c.value_or_fail_slot.new.table c.args.member
    c.args.row (g.B.Bank.panel c.args.bank.now) (g.B.Bank.panel c.value_or_fail_slot.new.bank)
    (g.B.Bank.history c.args.bank.now) (g.B.Bank.history c.value_or_fail_slot.new.bank) c.value_or_fail_slot.new.to c.value_or_fail_slot.result
    c.value_or_fail_slot.ensures.reads (c.in_ok-value_or_fail_slot.was ∙ ap Ok c.if-branch.true) fair

pub returns-then-branch-2-clause-whole : goal.returns-then-branch-2-clause-whole
returns-then-branch-2-clause-whole g c =
    let honest = g.B.Bank.honest c.args.bank.now in
    second_whole honest (g.B.Bank.honest c.value_or_fail_slot.new.bank) (λ fair. c.value_or_fail_slot.ensures.honest.0 fair) c.args.table.now
    c.value_or_fail_slot.new.table c.value_or_fail_slot-2.new.table c.args.member c.args.row
    (g.B.Bank.panel c.args.bank.now) (g.B.Bank.panel c.value_or_fail_slot.new.bank) (g.B.Bank.panel c.value_or_fail_slot-2.new.bank)
    (g.B.Bank.history c.args.bank.now) (g.B.Bank.history c.value_or_fail_slot.new.bank) (g.B.Bank.history c.value_or_fail_slot-2.new.bank)
    c.value_or_fail_slot-2.new.to c.value_or_fail_slot-2.result
    (try_marked spellings honest (g.B.Bank.panel c.args.bank.now).devices 0 c.args.table.now c.value_or_fail_slot.new.table c.args.member c.args.row
    (g.B.Bank.panel c.args.bank.now) (g.B.Bank.panel c.value_or_fail_slot.new.bank)
    (g.B.Bank.history c.args.bank.now) (g.B.Bank.history c.value_or_fail_slot.new.bank) c.value_or_fail_slot.new.to c.value_or_fail_slot.result
    (λ fair. g.met.B.Bank.true_to _ fair) (λ fair. g.met.B.Bank.true_to _ (c.value_or_fail_slot.ensures.honest.0 fair))
    c.requires.its_slots c.value_or_fail_slot.ensures.reads (c.in_ok-value_or_fail_slot.was ∙ ap Ok c.if-branch.false))
    (λ fair. g.met.B.Bank.true_to _ fair) c.requires.its_slots.of_bank c.requires.member c.value_or_fail_slot-2.ensures.reads
    (c.in_ok-value_or_fail_slot-2.was ∙ ap Ok c.if-branch-2.true)

pub value_or_fail_slot-requires-clause-its_slots : goal.value_or_fail_slot-requires-clause-its_slots
value_or_fail_slot-requires-clause-its_slots g c = c.requires.its_slots

pub value_or_fail_slot-requires-clause-member : goal.value_or_fail_slot-requires-clause-member
value_or_fail_slot-requires-clause-member g c = c.requires.member

pub value_or_fail_slot-requires-clause-row : goal.value_or_fail_slot-requires-clause-row
value_or_fail_slot-requires-clause-row g c = c.requires.row

pub returns-in_err-value_or_fail_slot-clause-honest : goal.returns-in_err-value_or_fail_slot-clause-honest
returns-in_err-value_or_fail_slot-clause-honest g c = c.value_or_fail_slot.ensures.honest

pub returns-in_err-value_or_fail_slot-clause-its_slots : goal.returns-in_err-value_or_fail_slot-clause-its_slots
returns-in_err-value_or_fail_slot-clause-its_slots g c = c.value_or_fail_slot.ensures.its_slots

pub returns-in_err-value_or_fail_slot-clause-gives : goal.returns-in_err-value_or_fail_slot-clause-gives
returns-in_err-value_or_fail_slot-clause-gives g c = λ fair. rw (err_from_is_err_and c.from_residual.result c.from_residual.ensures.1).1 tt

pub returns-in_err-value_or_fail_slot-clause-whole : goal.returns-in_err-value_or_fail_slot-clause-whole
returns-in_err-value_or_fail_slot-clause-whole g c = λ fair. rw (err_from_is_err_and c.from_residual.result c.from_residual.ensures.1).1 tt

pub returns-then-branch-clause-honest : goal.returns-then-branch-clause-honest
returns-then-branch-clause-honest g c = c.value_or_fail_slot.ensures.honest

pub returns-then-branch-clause-its_slots : goal.returns-then-branch-clause-its_slots
returns-then-branch-clause-its_slots g c = c.value_or_fail_slot.ensures.its_slots

pub value_or_fail_slot-requires-2-clause-its_slots : goal.value_or_fail_slot-requires-2-clause-its_slots
value_or_fail_slot-requires-2-clause-its_slots g c = c.value_or_fail_slot.ensures.its_slots

pub value_or_fail_slot-requires-2-clause-member : goal.value_or_fail_slot-requires-2-clause-member
value_or_fail_slot-requires-2-clause-member g c =
    let same = (first_try spellings (g.B.Bank.honest c.args.bank.now) c.args.member c.args.row c.args.table.now c.value_or_fail_slot.new.table
    (g.B.Bank.panel c.args.bank.now) (g.B.Bank.panel c.value_or_fail_slot.new.bank)
    (g.B.Bank.history c.args.bank.now) (g.B.Bank.history c.value_or_fail_slot.new.bank) c.value_or_fail_slot.new.to c.value_or_fail_slot.result
    (λ fair. g.met.B.Bank.true_to _ fair) (λ fair. g.met.B.Bank.true_to _ (c.value_or_fail_slot.ensures.honest.0 fair)) c.requires.its_slots
    c.value_or_fail_slot.ensures.reads
    (g.B.Bank.panel c.args.bank.now).devices 0).goes_on.not_older.same_geometry in
    subst (λ (s : Geometry). c.args.member < s.members) (sym same) c.requires.member

pub value_or_fail_slot-requires-2-clause-row : goal.value_or_fail_slot-requires-2-clause-row
value_or_fail_slot-requires-2-clause-row g c =
    let same = (first_try spellings (g.B.Bank.honest c.args.bank.now) c.args.member c.args.row c.args.table.now c.value_or_fail_slot.new.table
    (g.B.Bank.panel c.args.bank.now) (g.B.Bank.panel c.value_or_fail_slot.new.bank)
    (g.B.Bank.history c.args.bank.now) (g.B.Bank.history c.value_or_fail_slot.new.bank) c.value_or_fail_slot.new.to c.value_or_fail_slot.result
    (λ fair. g.met.B.Bank.true_to _ fair) (λ fair. g.met.B.Bank.true_to _ (c.value_or_fail_slot.ensures.honest.0 fair)) c.requires.its_slots
    c.value_or_fail_slot.ensures.reads
    (g.B.Bank.panel c.args.bank.now).devices 0).goes_on.not_older.same_geometry in
    subst (λ (s : Geometry). c.args.row < rows_of s.chunk s.stripes) (sym same) c.requires.row

pub returns-in_err-value_or_fail_slot-2-clause-honest : goal.returns-in_err-value_or_fail_slot-2-clause-honest
returns-in_err-value_or_fail_slot-2-clause-honest g c = (
  λ fair. c.value_or_fail_slot-2.ensures.honest.0 (c.value_or_fail_slot.ensures.honest.0 fair),
  λ fair. c.value_or_fail_slot.ensures.honest.1 (c.value_or_fail_slot-2.ensures.honest.1 fair),
)

pub returns-in_err-value_or_fail_slot-2-clause-its_slots : goal.returns-in_err-value_or_fail_slot-2-clause-its_slots
returns-in_err-value_or_fail_slot-2-clause-its_slots g c = c.value_or_fail_slot-2.ensures.its_slots

pub returns-then-branch-2-clause-honest : goal.returns-then-branch-2-clause-honest
returns-then-branch-2-clause-honest g c = (
  λ fair. c.value_or_fail_slot-2.ensures.honest.0 (c.value_or_fail_slot.ensures.honest.0 fair),
  λ fair. c.value_or_fail_slot.ensures.honest.1 (c.value_or_fail_slot-2.ensures.honest.1 fair),
)

pub returns-then-branch-2-clause-its_slots : goal.returns-then-branch-2-clause-its_slots
returns-then-branch-2-clause-its_slots g c = c.value_or_fail_slot-2.ensures.its_slots

pub returns-clause-honest : goal.returns-clause-honest
returns-clause-honest g c = (
  λ fair. c.value_or_fail_slot-2.ensures.honest.0 (c.value_or_fail_slot.ensures.honest.0 fair),
  λ fair. c.value_or_fail_slot.ensures.honest.1 (c.value_or_fail_slot-2.ensures.honest.1 fair),
)

pub returns-clause-its_slots : goal.returns-clause-its_slots
returns-clause-its_slots g c = c.value_or_fail_slot-2.ensures.its_slots

pub returns-in_err-value_or_fail_slot-2-clause-gives : goal.returns-in_err-value_or_fail_slot-2-clause-gives
returns-in_err-value_or_fail_slot-2-clause-gives g c =
    λ fair. rw (err_from_is_err_and c.from_residual-in_err-value_or_fail_slot-2.result c.from_residual-in_err-value_or_fail_slot-2.ensures.1).1 tt

pub returns-in_err-value_or_fail_slot-2-clause-whole : goal.returns-in_err-value_or_fail_slot-2-clause-whole
returns-in_err-value_or_fail_slot-2-clause-whole g c =
    λ fair. rw (err_from_is_err_and c.from_residual-in_err-value_or_fail_slot-2.result c.from_residual-in_err-value_or_fail_slot-2.ensures.1).1 tt

pub returns-clause-gives : goal.returns-clause-gives
returns-clause-gives g c = λ fair. tt

pub returns-clause-whole : goal.returns-clause-whole
returns-clause-whole g c = λ fair. tt
