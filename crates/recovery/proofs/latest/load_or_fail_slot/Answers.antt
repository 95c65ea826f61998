use Rattle.std.proofs.Common.{◌≡◌, ◌⊎◌, Err, refl, subst}
use Rattle.std.proofs.lemmas.Result.{IfErr-at_err, err_from_is_err_and}
use Rattle.sector_model.specs.declared.sector.Stop.TheVariants as stop
use Rattle.sector_model.specs.Bank.{IsCauseOf}
use Rattle.stripe_journal.specs.Entries.{body_of}
use Rattle.array_io.specs.Steps.PuttingSteps.{EndsOrFailsSlot}
use Rattle.array_io.proofs.Images.Codecs.{spellings}
use Rattle.recovery.proofs.EntryLoaded.{load_done, load_failed, load_refused}
use Rattle.recovery.proofs.JournalReads.{was_marked}
use Rattle.recovery.proofs.latest.load_or_fail_slot.Goals as goal

pub returns-in_err-done_or_fail_slot-in-Err-clause-loads : goal.returns-in_err-done_or_fail_slot-in-Err-clause-loads
returns-in_err-done_or_fail_slot-in-Err-clause-loads g c =
    let p = err_from_is_err_and c.from_residual.result c.from_residual.ensures.1 in
    rw (p.1, p.2) (λ number.
    load_refused spellings (g.B.Bank.honest c.args.bank.now) c.args.latest.now number c.args.table.now
    (body_of c.args.table.now.geometry.members c.load_entry.new.entry) c.requires.latest
    (g.B.Bank.panel c.args.bank.now) (g.B.Bank.panel c.load_entry.new.bank) (g.B.Bank.history c.args.bank.now) (g.B.Bank.history c.load_entry.new.bank)
    c.load_entry.ensures.panel c.load_entry.ensures.read
    c.load_entry.ensures.others_stay (λ fair. g.met.B.Bank.true_to _ fair) (λ fair. g.met.B.Bank.true_to _ (c.load_entry.ensures.honest.0 fair)) c.in-Err.stop
    (IfErr-at_err (λ why. IsCauseOf (g.B.Bank.panel c.load_entry.new.bank) why × ((why ≡ stop.Worn) ⊎ (why ≡ stop.Down c.args.latest.now.source))) c.in-Err.is
    c.load_entry.ensures.err)
    (g.B.Bank.panel c.done_or_fail_slot.new.bank) c.done_or_fail_slot.new.table (g.B.Bank.history c.done_or_fail_slot.new.bank)
    (g.B.Bank.honest c.load_entry.new.bank) (λ fair. c.load_entry.ensures.honest.0 fair)
    (λ fair. g.met.B.Bank.true_to _ (c.done_or_fail_slot.ensures.honest.0 (c.load_entry.ensures.honest.0 fair))) c.requires.its_slots
    c.done_or_fail_slot.result c.done_or_fail_slot.ensures.ends c.in_err-done_or_fail_slot-in-Err.field-0.0 c.in_err-done_or_fail_slot-in-Err.was)

pub returns-in-Ok-clause-loads : goal.returns-in-Ok-clause-loads
returns-in-Ok-clause-loads g c = λ number.
    load_done spellings (g.B.Bank.honest c.args.bank.now) c.args.latest.now number c.args.table.now
    (body_of c.args.table.now.geometry.members c.load_entry.new.entry) c.requires.latest
    (g.B.Bank.panel c.args.bank.now) (g.B.Bank.panel c.load_entry.new.bank) (g.B.Bank.history c.args.bank.now) (g.B.Bank.history c.load_entry.new.bank)
    c.load_entry.ensures.panel c.load_entry.ensures.read
    c.load_entry.ensures.others_stay (λ fair. g.met.B.Bank.true_to _ fair) (λ fair. g.met.B.Bank.true_to _ (c.load_entry.ensures.honest.0 fair))
    c.load_entry.new.entry refl c.load_entry.result c.in-Ok.field-0 c.in-Ok.is c.load_entry.ensures.entry
    c.load_entry.ensures.loaded c.load_entry.ensures.none_failed

pub returns-in_ok-done_or_fail_slot-in-Err-clause-marked : goal.returns-in_ok-done_or_fail_slot-in-Err-clause-marked
returns-in_ok-done_or_fail_slot-in-Err-clause-marked g c = λ is.
    was_marked (g.B.Bank.honest c.load_entry.new.bank) c.args.latest.now.source (g.B.Bank.panel c.load_entry.new.bank)
    (g.B.Bank.panel c.done_or_fail_slot.new.bank) c.args.table.now c.done_or_fail_slot.new.table
    (g.B.Bank.history c.load_entry.new.bank) (g.B.Bank.history c.done_or_fail_slot.new.bank) c.in-Err.stop c.requires.latest.source.counted
    (subst (EndsOrFailsSlot (g.B.Bank.honest c.load_entry.new.bank) c.args.latest.now.source (g.B.Bank.panel c.load_entry.new.bank)
    (g.B.Bank.panel c.done_or_fail_slot.new.bank) c.args.table.now c.done_or_fail_slot.new.table
    (g.B.Bank.history c.load_entry.new.bank) (g.B.Bank.history c.done_or_fail_slot.new.bank) (Err c.in-Err.stop)) c.in_ok-done_or_fail_slot-in-Err.was
    c.done_or_fail_slot.ensures.ends)

pub returns-in_ok-done_or_fail_slot-in-Err-clause-loads : goal.returns-in_ok-done_or_fail_slot-in-Err-clause-loads
returns-in_ok-done_or_fail_slot-in-Err-clause-loads g c = λ number.
    load_failed spellings (g.B.Bank.honest c.args.bank.now) c.args.latest.now number c.args.table.now
    (body_of c.args.table.now.geometry.members c.load_entry.new.entry) c.requires.latest
    (g.B.Bank.panel c.args.bank.now) (g.B.Bank.panel c.load_entry.new.bank) (g.B.Bank.history c.args.bank.now) (g.B.Bank.history c.load_entry.new.bank)
    c.load_entry.ensures.panel c.load_entry.ensures.read
    c.load_entry.ensures.others_stay (λ fair. g.met.B.Bank.true_to _ fair) (λ fair. g.met.B.Bank.true_to _ (c.load_entry.ensures.honest.0 fair)) c.in-Err.stop
    (IfErr-at_err (λ why. IsCauseOf (g.B.Bank.panel c.load_entry.new.bank) why × ((why ≡ stop.Worn) ⊎ (why ≡ stop.Down c.args.latest.now.source))) c.in-Err.is
    c.load_entry.ensures.err)
    (g.B.Bank.panel c.done_or_fail_slot.new.bank) c.done_or_fail_slot.new.table (g.B.Bank.history c.done_or_fail_slot.new.bank)
    (g.B.Bank.honest c.load_entry.new.bank) (λ fair. c.load_entry.ensures.honest.0 fair)
    (λ fair. g.met.B.Bank.true_to _ (c.done_or_fail_slot.ensures.honest.0 (c.load_entry.ensures.honest.0 fair))) c.requires.its_slots
    c.done_or_fail_slot.result c.done_or_fail_slot.ensures.ends c.in_ok-done_or_fail_slot-in-Err.was
