use Rattle.std.proofs.Common.{◌≡◌, Bool, false, Ok, Err, Result, ◌∙◌, ap, subst}
use Rattle.std.proofs.lemmas.Result.{err_from_is_err_and}
use Rattle.sector_model.specs.declared.refusal.Refusal.{Refusal}
use Rattle.superblock.specs.declared.table.Table.{Table}
use Rattle.array_io.specs.Steps.Bringing.{CountsOn}
use Rattle.array_io.proofs.Images.Codecs.{spellings}
use Rattle.array_io.proofs.Calls.DeviceSteps.{its_slots_later}
use Rattle.array_io.proofs.Commits.PuttingRows.{at_ok}
use Rattle.rebuild.specs.RowSteps.{CanFill, EndsOrFails, FillsOrFailsSlot, FillsRows, IsFlushed}
use Rattle.rebuild.proofs.RowsFilled.{member_counts, not_done, rows_ended, was_done}
use Rattle.rebuild.proofs.RowsWritten.{writes_rows}
use Rattle.rebuild.proofs.rows.write_rows.Goals as goal

pub returns-in_err-fill_rows-clause-writes : goal.returns-in_err-fill_rows-clause-writes
returns-in_err-fill_rows-clause-writes g c = λ number.
    let can : CanFill c.args.table.now c.args.member c.args.from c.args.end (g.B.Bank.panel c.args.bank.now) =
    record {
      its_slots = c.requires.its_slots;
      of_members = c.requires.of_members;
      rebuilding =
          c.requires.rebuilding;
      least = c.requires.beyond;
      ordered = c.requires.ordered;
      most = c.requires.of_set;
    } in
    let p = err_from_is_err_and c.from_residual.result c.from_residual.ensures.1 in
    rw (p.1, p.2) (writes_rows spellings (g.B.Bank.honest c.args.bank.now) number c.args.table.now c.args.member
    c.args.from c.args.end (g.B.Bank.panel c.args.bank.now) (g.B.Bank.panel c.fill_rows.new.bank)
    (g.B.Bank.history c.args.bank.now) (g.B.Bank.history c.fill_rows.new.bank) c.requires.of_members
    c.requires.rebuilding c.requires.beyond
    (member_counts c.args.table.now c.args.member c.args.from c.args.end (g.B.Bank.panel c.args.bank.now) can)
    (λ fair. g.met.B.Bank.true_to _ fair) (λ fair. g.met.B.Bank.true_to _ (c.fill_rows.ensures.honest.0 fair))
    c.fill_rows.new.table (Err c.in_err-fill_rows.field-0.0) c.requires.its_slots
    (not_done (FillsRows (g.B.Bank.honest c.args.bank.now) c.args.table.now c.args.member c.args.from c.args.end
    (g.B.Bank.panel c.args.bank.now) (g.B.Bank.panel c.fill_rows.new.bank)
    (g.B.Bank.history c.args.bank.now) (g.B.Bank.history c.fill_rows.new.bank))
    (IsFlushed (g.B.Bank.honest c.args.bank.now) c.args.table.now c.args.member c.args.from c.args.end
    (g.B.Bank.panel c.args.bank.now) (g.B.Bank.panel c.fill_rows.new.bank)
    (g.B.Bank.history c.args.bank.now) (g.B.Bank.history c.fill_rows.new.bank))
    (g.B.Bank.honest c.args.bank.now) c.args.table.now c.fill_rows.new.table c.args.member
    (g.B.Bank.panel c.args.bank.now) (g.B.Bank.panel c.fill_rows.new.bank)
    (g.B.Bank.history c.args.bank.now) (g.B.Bank.history c.fill_rows.new.bank) (Err c.in_err-fill_rows.field-0.0)
    (λ is. cc) c.in_err-fill_rows.ensures.fills))

pub returns-then-not-branch-clause-writes : goal.returns-then-not-branch-clause-writes
returns-then-not-branch-clause-writes g c = λ number.
    let can : CanFill c.args.table.now c.args.member c.args.from c.args.end (g.B.Bank.panel c.args.bank.now) =
    record {
      its_slots = c.requires.its_slots;
      of_members = c.requires.of_members;
      rebuilding =
          c.requires.rebuilding;
      least = c.requires.beyond;
      ordered = c.requires.ordered;
      most = c.requires.of_set;
    } in
    let ended : c.fill_rows.result ≡ Ok false = c.in_ok-fill_rows.was ∙ ap Ok c.if-not-branch.true in
    writes_rows spellings (g.B.Bank.honest c.args.bank.now) number c.args.table.now c.args.member c.args.from c.args.end
    (g.B.Bank.panel c.args.bank.now) (g.B.Bank.panel c.fill_rows.new.bank)
    (g.B.Bank.history c.args.bank.now) (g.B.Bank.history c.fill_rows.new.bank) c.requires.of_members
    c.requires.rebuilding c.requires.beyond
    (member_counts c.args.table.now c.args.member c.args.from c.args.end (g.B.Bank.panel c.args.bank.now) can)
    (λ fair. g.met.B.Bank.true_to _ fair) (λ fair. g.met.B.Bank.true_to _ (c.fill_rows.ensures.honest.0 fair))
    c.fill_rows.new.table (Ok false) c.requires.its_slots
    (not_done (FillsRows (g.B.Bank.honest c.args.bank.now) c.args.table.now c.args.member c.args.from c.args.end
    (g.B.Bank.panel c.args.bank.now) (g.B.Bank.panel c.fill_rows.new.bank)
    (g.B.Bank.history c.args.bank.now) (g.B.Bank.history c.fill_rows.new.bank))
    (IsFlushed (g.B.Bank.honest c.args.bank.now) c.args.table.now c.args.member c.args.from c.args.end
    (g.B.Bank.panel c.args.bank.now) (g.B.Bank.panel c.fill_rows.new.bank)
    (g.B.Bank.history c.args.bank.now) (g.B.Bank.history c.fill_rows.new.bank))
    (g.B.Bank.honest c.args.bank.now) c.args.table.now c.fill_rows.new.table c.args.member
    (g.B.Bank.panel c.args.bank.now) (g.B.Bank.panel c.fill_rows.new.bank)
    (g.B.Bank.history c.args.bank.now) (g.B.Bank.history c.fill_rows.new.bank) (Ok false) (λ is. cc)
    (subst (λ (r : Result Bool Refusal). FillsOrFailsSlot (g.B.Bank.honest c.args.bank.now) c.args.table.now
    c.fill_rows.new.table c.args.member c.args.from c.args.end (g.B.Bank.panel c.args.bank.now)
    (g.B.Bank.panel c.fill_rows.new.bank) (g.B.Bank.history c.args.bank.now) (g.B.Bank.history c.fill_rows.new.bank) r)
    ended c.fill_rows.ensures.fills))

pub done_or_fail_slot-requires-clause-its_slots : goal.done_or_fail_slot-requires-clause-its_slots
done_or_fail_slot-requires-clause-its_slots g c = its_slots_later c.fill_rows.new.table (g.B.Bank.panel c.fill_rows.new.bank)
    (g.B.Bank.panel c.flush_device-done.new.bank)
    c.flush_device-done.ensures.panel c.fill_rows.ensures.its_slots

pub returns-clause-writes : goal.returns-clause-writes
returns-clause-writes g c = λ number.
    let can : CanFill c.args.table.now c.args.member c.args.from c.args.end (g.B.Bank.panel c.args.bank.now) =
    record {
      its_slots = c.requires.its_slots;
      of_members = c.requires.of_members;
      rebuilding =
          c.requires.rebuilding;
      least = c.requires.beyond;
      ordered = c.requires.ordered;
      most = c.requires.of_set;
    } in
    let counted : CountsOn c.args.table.now c.args.member =
    member_counts c.args.table.now c.args.member c.args.from c.args.end (g.B.Bank.panel c.args.bank.now) can in
    let done = was_done (FillsRows (g.B.Bank.honest c.args.bank.now) c.args.table.now c.args.member c.args.from
    c.args.end (g.B.Bank.panel c.args.bank.now) (g.B.Bank.panel c.fill_rows.new.bank)
    (g.B.Bank.history c.args.bank.now) (g.B.Bank.history c.fill_rows.new.bank))
    (g.B.Bank.honest c.args.bank.now) c.args.table.now c.fill_rows.new.table c.args.member
    (g.B.Bank.panel c.args.bank.now) (g.B.Bank.panel c.fill_rows.new.bank) (g.B.Bank.history c.args.bank.now)
    (g.B.Bank.history c.fill_rows.new.bank) c.fill_rows.result c.fill_rows.ensures.fills
    (c.in_ok-fill_rows.was ∙ ap Ok c.if-not-branch.false) in
    writes_rows spellings (g.B.Bank.honest c.args.bank.now) number c.args.table.now c.args.member c.args.from c.args.end
    (g.B.Bank.panel c.args.bank.now) (g.B.Bank.panel c.done_or_fail_slot.new.bank)
    (g.B.Bank.history c.args.bank.now) (g.B.Bank.history c.done_or_fail_slot.new.bank) c.requires.of_members
    c.requires.rebuilding c.requires.beyond counted
    (λ fair. g.met.B.Bank.true_to _ fair)
    (λ fair. g.met.B.Bank.true_to _ (c.done_or_fail_slot.ensures.honest.0 (c.flush_device-done.ensures.honest.0
    (c.fill_rows.ensures.honest.0 fair))))
    c.done_or_fail_slot.new.table c.done_or_fail_slot.result c.requires.its_slots
    (rows_ended (g.B.Bank.honest c.args.bank.now) (g.B.Bank.honest c.flush_device-done.new.bank)
    (λ fair. c.flush_device-done.ensures.honest.0 (c.fill_rows.ensures.honest.0 fair))
    c.args.table.now c.done_or_fail_slot.new.table c.args.member c.args.from c.args.end (g.B.Bank.panel c.args.bank.now)
    (g.B.Bank.panel c.fill_rows.new.bank) (g.B.Bank.panel c.flush_device-done.new.bank)
    (g.B.Bank.panel c.done_or_fail_slot.new.bank) (g.B.Bank.history c.args.bank.now) (g.B.Bank.history c.fill_rows.new.bank)
    (g.B.Bank.history c.flush_device-done.new.bank)
    (g.B.Bank.history c.done_or_fail_slot.new.bank) c.flush_device-done.result c.done_or_fail_slot.result counted done.1
    (λ fair. g.met.B.Bank.true_to _ (c.flush_device-done.ensures.honest.0 (c.fill_rows.ensures.honest.0 fair)))
    c.flush_device-done.ensures.panel c.flush_device-done.ensures.err
    (at_ok c.flush_device-done.result c.flush_device-done.ensures.up)
    (λ fair. c.flush_device-done.ensures.history (c.fill_rows.ensures.honest.0 fair))
    (subst (λ (t : Table). EndsOrFails (g.B.Bank.honest c.flush_device-done.new.bank) c.args.member
    (g.B.Bank.panel c.flush_device-done.new.bank) (g.B.Bank.panel c.done_or_fail_slot.new.bank) t
    c.done_or_fail_slot.new.table (g.B.Bank.history c.flush_device-done.new.bank)
    (g.B.Bank.history c.done_or_fail_slot.new.bank) c.flush_device-done.result c.done_or_fail_slot.result) done.0
    c.done_or_fail_slot.ensures.ends))
