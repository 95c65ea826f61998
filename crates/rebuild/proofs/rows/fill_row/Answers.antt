use Rattle.std.proofs.Common.{◌≡◌, ◌+◌, Bool, false, Ok, Err, Result, ◌∙◌, ap, subst}
use Rattle.std.proofs.lemmas.Result.{err_from_is_err_and}
use Rattle.sector_model.specs.declared.refusal.Refusal.{Refusal}
use Rattle.superblock.specs.declared.table.Table.{Table}
use Rattle.array_io.proofs.Calls.DeviceSteps.{its_slots_later}
use Rattle.array_io.proofs.Commits.PuttingRows.{at_ok}
use Rattle.rebuild.specs.RowSteps.{EndsOrFails, FillsOrFailsSlot}
use Rattle.rebuild.proofs.RowsFilled.{member_counts, read_ended, row_ended, was_read}
use Rattle.rebuild.proofs.rows.fill_row.Goals as goal

pub returns-in_err-value_or_fail_slot-clause-fills : goal.returns-in_err-value_or_fail_slot-clause-fills
returns-in_err-value_or_fail_slot-clause-fills g c =
    let p = err_from_is_err_and c.from_residual.result c.from_residual.ensures.1 in
    rw (p.1, p.2) (read_ended (g.B.Bank.honest c.args.bank.now) c.args.table.now c.args.member c.args.row
    (g.B.Bank.panel c.args.bank.now) (g.B.Bank.panel c.value_or_fail_slot.new.bank)
    (g.B.Bank.history c.args.bank.now) (g.B.Bank.history c.value_or_fail_slot.new.bank)
    (member_counts c.args.table.now c.args.member c.args.row (c.args.row + 1)
    (g.B.Bank.panel c.args.bank.now) c.requires.can)
    c.value_or_fail_slot.new.table c.value_or_fail_slot.new.to (Err c.in_err-value_or_fail_slot.field-0.0)
    (c.args.row + 1) c.in_err-value_or_fail_slot.ensures.reads (λ is. cc))

pub returns-then-not-branch-clause-fills : goal.returns-then-not-branch-clause-fills
returns-then-not-branch-clause-fills g c =
    let ended : c.value_or_fail_slot.result ≡ Ok false = c.in_ok-value_or_fail_slot.was ∙ ap Ok c.if-not-branch.true in
    subst (λ (r : Result Bool Refusal). FillsOrFailsSlot (g.B.Bank.honest c.args.bank.now) c.args.table.now
    c.value_or_fail_slot.new.table c.args.member c.args.row (c.args.row + 1)
    (g.B.Bank.panel c.args.bank.now) (g.B.Bank.panel c.value_or_fail_slot.new.bank) (g.B.Bank.history c.args.bank.now)
    (g.B.Bank.history c.value_or_fail_slot.new.bank) r) ended
    (read_ended (g.B.Bank.honest c.args.bank.now) c.args.table.now c.args.member c.args.row
    (g.B.Bank.panel c.args.bank.now) (g.B.Bank.panel c.value_or_fail_slot.new.bank)
    (g.B.Bank.history c.args.bank.now) (g.B.Bank.history c.value_or_fail_slot.new.bank)
    (member_counts c.args.table.now c.args.member c.args.row (c.args.row + 1)
    (g.B.Bank.panel c.args.bank.now) c.requires.can)
    c.value_or_fail_slot.new.table c.value_or_fail_slot.new.to c.value_or_fail_slot.result
    (c.args.row + 1) c.value_or_fail_slot.ensures.reads (λ is. cc))

pub done_or_fail_slot-requires-clause-its_slots : goal.done_or_fail_slot-requires-clause-its_slots
done_or_fail_slot-requires-clause-its_slots g c = its_slots_later c.value_or_fail_slot.new.table
    (g.B.Bank.panel c.value_or_fail_slot.new.bank) (g.B.Bank.panel c.write_sector-done.new.bank)
    c.write_sector-done.ensures.panel c.value_or_fail_slot.ensures.its_slots

pub returns-clause-fills : goal.returns-clause-fills
returns-clause-fills g c =
    let read = was_read (g.B.Bank.honest c.args.bank.now) c.args.table.now c.args.member c.args.row
    (g.B.Bank.panel c.args.bank.now) (g.B.Bank.panel c.value_or_fail_slot.new.bank)
    (g.B.Bank.history c.args.bank.now) (g.B.Bank.history c.value_or_fail_slot.new.bank)
    (member_counts c.args.table.now c.args.member c.args.row (c.args.row + 1)
    (g.B.Bank.panel c.args.bank.now) c.requires.can)
    c.value_or_fail_slot.new.table c.value_or_fail_slot.new.to c.value_or_fail_slot.result c.value_or_fail_slot.ensures.reads
    (c.in_ok-value_or_fail_slot.was ∙ ap Ok c.if-not-branch.false) in
    row_ended (g.B.Bank.honest c.args.bank.now) (g.B.Bank.honest c.write_sector-done.new.bank)
    (λ fair. c.write_sector-done.ensures.honest.0 (c.value_or_fail_slot.ensures.honest.0 fair))
    c.args.table.now c.done_or_fail_slot.new.table c.args.member c.args.row c.value_or_fail_slot.new.to
    (g.B.Bank.panel c.args.bank.now) (g.B.Bank.panel c.value_or_fail_slot.new.bank)
    (g.B.Bank.panel c.write_sector-done.new.bank) (g.B.Bank.panel c.done_or_fail_slot.new.bank)
    (g.B.Bank.history c.args.bank.now) (g.B.Bank.history c.value_or_fail_slot.new.bank)
    (g.B.Bank.history c.write_sector-done.new.bank) (g.B.Bank.history c.done_or_fail_slot.new.bank)
    c.write_sector-done.result c.done_or_fail_slot.result c.requires.can read.1
    (λ fair. g.met.B.Bank.true_to _ (c.value_or_fail_slot.ensures.honest.0 fair))
    (λ fair. g.met.B.Bank.true_to _ (c.write_sector-done.ensures.honest.0 (c.value_or_fail_slot.ensures.honest.0 fair)))
    c.write_sector-done.ensures.panel c.write_sector-done.ensures.err
    (at_ok c.write_sector-done.result c.write_sector-done.ensures.up)
    (λ fair. c.write_sector-done.ensures.history (c.value_or_fail_slot.ensures.honest.0 fair))
    (subst (λ (t : Table). EndsOrFails (g.B.Bank.honest c.write_sector-done.new.bank) c.args.member
    (g.B.Bank.panel c.write_sector-done.new.bank) (g.B.Bank.panel c.done_or_fail_slot.new.bank) t
    c.done_or_fail_slot.new.table (g.B.Bank.history c.write_sector-done.new.bank)
    (g.B.Bank.history c.done_or_fail_slot.new.bank) c.write_sector-done.result c.done_or_fail_slot.result) read.0
    c.done_or_fail_slot.ensures.ends)
