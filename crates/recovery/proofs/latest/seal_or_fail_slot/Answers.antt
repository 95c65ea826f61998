use Rattle.std.proofs.Common.{◌≡◌, ◌≢◌, ◌⊎◌, ap, sym, ◌∙◌}
use Rattle.std.specs.Prelude.{is_ok}
use Rattle.std.proofs.lemmas.Result.{IfErr-at_err, IfOk-at_ok, err_from_is_err_and}
use Rattle.sector_model.specs.declared.sector.Stop.TheVariants as stop
use Rattle.sector_model.specs.Bank.{IsCauseOf}
use Rattle.superblock.specs.declared.state.State.TheVariants.{Missing}
use Rattle.superblock.specs.Tables.{state_at}
use Rattle.array_io.specs.Steps.Bringing.{CountsOn}
use Rattle.array_io.proofs.Calls.Trusting.{is_missing, not_missing}
use Rattle.array_io.proofs.Images.Codecs.{spellings}
use Rattle.recovery.specs.Replaying.{HasLast}
use Rattle.recovery.proofs.JournalSeals.{seal_found, seal_marked, seal_passed, seal_refused}
use Rattle.recovery.proofs.latest.seal_or_fail_slot.Goals as goal

pub returns-then-eq-clause-finds : goal.returns-then-eq-clause-finds
returns-then-eq-clause-finds g c = λ number known.
    let missing : state_at c.args.table.now.states c.args.journal ≡ Missing =
    is_missing (state_at c.args.table.now.states c.args.journal) (sym c.eq.ensures ∙ c.if-eq.true) in
    seal_passed spellings (g.B.Bank.honest c.args.bank.now) known c.args.journal number c.args.table.now (g.B.Bank.panel c.args.bank.now)
    (g.B.Bank.history c.args.bank.now) missing

pub returns-in_err-done_or_fail_slot-in-Err-clause-finds : goal.returns-in_err-done_or_fail_slot-in-Err-clause-finds
returns-in_err-done_or_fail_slot-in-Err-clause-finds g c =
    let p = err_from_is_err_and c.from_residual.result c.from_residual.ensures.1 in
    rw (p.1, p.2) (λ number known.
    let there : state_at c.args.table.now.states c.args.journal ≢ Missing =
    not_missing (state_at c.args.table.now.states c.args.journal) (sym c.eq.ensures ∙ c.if-eq.false) in
    let counted : CountsOn c.args.table.now c.args.journal = record { of_set = c.requires.of_set; there = there } in
    seal_refused spellings (g.B.Bank.honest c.args.bank.now) known c.args.journal number c.args.table.now (g.B.Bank.panel c.args.bank.now)
    (g.B.Bank.history c.args.bank.now)
    (g.B.Bank.panel c.last_sealed.new.bank) (g.B.Bank.history c.last_sealed.new.bank) counted c.last_sealed.ensures.panel (is_ok c.last_sealed.result)
    c.last_sealed.ensures.made
    (λ fair. g.met.B.Bank.true_to _ fair) (λ fair. g.met.B.Bank.true_to _ (c.last_sealed.ensures.honest.0 fair)) c.in-Err.stop
    (IfErr-at_err (λ why. IsCauseOf (g.B.Bank.panel c.last_sealed.new.bank) why × ((why ≡ stop.Worn) ⊎ (why ≡ stop.Down c.args.journal))) c.in-Err.is
    c.last_sealed.ensures.err)
    (g.B.Bank.panel c.done_or_fail_slot.new.bank) c.done_or_fail_slot.new.table (g.B.Bank.history c.done_or_fail_slot.new.bank)
    (g.B.Bank.honest c.last_sealed.new.bank) (λ fair. c.last_sealed.ensures.honest.0 fair)
    (λ fair. g.met.B.Bank.true_to _ (c.done_or_fail_slot.ensures.honest.0 (c.last_sealed.ensures.honest.0 fair))) c.requires.its_slots
    c.in_err-done_or_fail_slot-in-Err.field-0.0 c.done_or_fail_slot.result c.in_err-done_or_fail_slot-in-Err.was c.done_or_fail_slot.ensures.ends)

pub returns-in-Ok-clause-finds : goal.returns-in-Ok-clause-finds
returns-in-Ok-clause-finds g c = λ number known.
    let there : state_at c.args.table.now.states c.args.journal ≢ Missing =
    not_missing (state_at c.args.table.now.states c.args.journal) (sym c.eq.ensures ∙ c.if-eq.false) in
    let counted : CountsOn c.args.table.now c.args.journal = record { of_set = c.requires.of_set; there = there } in
    seal_found spellings (g.B.Bank.honest c.args.bank.now) known c.args.journal number c.args.table.now (g.B.Bank.panel c.args.bank.now)
    (g.B.Bank.history c.args.bank.now)
    (g.B.Bank.panel c.last_sealed.new.bank) (g.B.Bank.history c.last_sealed.new.bank) counted c.last_sealed.ensures.panel (is_ok c.last_sealed.result)
    c.last_sealed.ensures.made
    (λ fair. g.met.B.Bank.true_to _ fair) (λ fair. g.met.B.Bank.true_to _ (c.last_sealed.ensures.honest.0 fair)) (ap is_ok c.in-Ok.is) c.in-Ok.last
    (λ fair. IfOk-at_ok (λ last. HasLast c.args.table.now (g.B.Bank.history c.args.bank.now) c.args.journal last) c.in-Ok.is (c.last_sealed.ensures.last fair))

pub returns-in_ok-done_or_fail_slot-in-Err-clause-finds : goal.returns-in_ok-done_or_fail_slot-in-Err-clause-finds
returns-in_ok-done_or_fail_slot-in-Err-clause-finds g c = λ number known.
    let there : state_at c.args.table.now.states c.args.journal ≢ Missing =
    not_missing (state_at c.args.table.now.states c.args.journal) (sym c.eq.ensures ∙ c.if-eq.false) in
    let counted : CountsOn c.args.table.now c.args.journal = record { of_set = c.requires.of_set; there = there } in
    seal_marked spellings (g.B.Bank.honest c.args.bank.now) known c.args.journal number c.args.table.now (g.B.Bank.panel c.args.bank.now)
    (g.B.Bank.history c.args.bank.now)
    (g.B.Bank.panel c.last_sealed.new.bank) (g.B.Bank.history c.last_sealed.new.bank) counted c.last_sealed.ensures.panel (is_ok c.last_sealed.result)
    c.last_sealed.ensures.made
    (λ fair. g.met.B.Bank.true_to _ fair) (λ fair. g.met.B.Bank.true_to _ (c.last_sealed.ensures.honest.0 fair)) c.in-Err.stop
    (IfErr-at_err (λ why. IsCauseOf (g.B.Bank.panel c.last_sealed.new.bank) why × ((why ≡ stop.Worn) ⊎ (why ≡ stop.Down c.args.journal))) c.in-Err.is
    c.last_sealed.ensures.err)
    (g.B.Bank.panel c.done_or_fail_slot.new.bank) c.done_or_fail_slot.new.table (g.B.Bank.history c.done_or_fail_slot.new.bank)
    (g.B.Bank.honest c.last_sealed.new.bank) (λ fair. c.last_sealed.ensures.honest.0 fair)
    (λ fair. g.met.B.Bank.true_to _ (c.done_or_fail_slot.ensures.honest.0 (c.last_sealed.ensures.honest.0 fair))) c.requires.its_slots
    c.done_or_fail_slot.result c.in_ok-done_or_fail_slot-in-Err.was c.done_or_fail_slot.ensures.ends
