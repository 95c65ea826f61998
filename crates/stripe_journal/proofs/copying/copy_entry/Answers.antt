use Rattle.std.specs.Prelude.{[], ◌∷◌}
use Rattle.std.proofs.lemmas.Result.{err_from_is_err_and}
use Rattle.sector_model.specs.Calls.{Flush}
use Rattle.sector_model.proofs.Panels.{later_both}
use Rattle.sector_model.proofs.Sequences.{made_both, made_short}
use Rattle.stripe_journal.proofs.Copies.{copies_by, copies_short, copy_then_seal, ends_at_target, ends_by_flush, last_flush, short_after_copy, short_in_copy}
use Rattle.stripe_journal.proofs.copying.copy_entry.Goals as goal

pub returns-in_err-copy_body-clause-copies : goal.returns-in_err-copy_body-clause-copies
returns-in_err-copy_body-clause-copies g c =
    let p = err_from_is_err_and c.from_residual.result c.from_residual.ensures.1 in
    copies_short _ _ _ p.1 p.2 c.copy_body.ensures.panel (λ honest. short_in_copy _ _ c.args.seal.now _ (c.in_err-copy_body.ensures.made honest))
    c.in_err-copy_body.ensures.err

pub returns-in_err-flush_device-clause-copies : goal.returns-in_err-flush_device-clause-copies
returns-in_err-flush_device-clause-copies g c =
    let p = err_from_is_err_and c.from_residual-in_err-flush_device.result c.from_residual-in_err-flush_device.ensures.1 in
    copies_short _ _ _ p.1 p.2 (later_both _ _ _ c.copy_body.ensures.panel c.flush_device.ensures.panel)
    (λ honest. short_after_copy _ _ c.args.seal.now _ _ (c.in_ok-copy_body.ensures.made honest)
    (c.in_err-flush_device.ensures.history (c.copy_body.ensures.honest.0 honest)))
    (ends_at_target _ _ (g.B.Bank.panel c.flush_device.new.bank) _ c.in_err-flush_device.ensures.err)

pub returns-in_err-write_seal-clause-copies : goal.returns-in_err-write_seal-clause-copies
returns-in_err-write_seal-clause-copies g c =
    let p = err_from_is_err_and c.from_residual-in_err-write_seal.result c.from_residual-in_err-write_seal.ensures.1 in
    copies_short _ _ _ p.1 p.2 (later_both _ _ _ (later_both _ _ _ c.copy_body.ensures.panel c.flush_device.ensures.panel) c.write_seal.ensures.panel)
    (λ honest.
    let copied = c.copy_body.ensures.honest.0 honest in
    let safe = c.flush_device.ensures.honest.0 copied in
    copy_then_seal _ _ c.args.seal.now _ tt (g.B.Bank.panel c.flush_device.new.bank) (c.in_ok-copy_body.ensures.made honest)
    (c.in_ok-flush_device.ensures.history copied) c.in_ok-flush_device.ensures.up (g.met.B.Bank.true_to _ safe)
    (made_short (Flush c.args.to ∷ []) (c.in_err-write_seal.ensures.made safe)))
    (ends_at_target _ _ (g.B.Bank.panel c.write_seal.new.bank) _ c.in_err-write_seal.ensures.err)

pub returns-clause-copies : goal.returns-clause-copies
returns-clause-copies g c =
    copies_by _ (later_both _ _ _ (later_both _ _ _ (later_both _ _ _ c.copy_body.ensures.panel c.flush_device.ensures.panel) c.write_seal.ensures.panel)
    c.flush_device-2.ensures.panel)
    (λ honest.
    let copied = c.copy_body.ensures.honest.0 honest in
    let safe = c.flush_device.ensures.honest.0 copied in
    let sealed = c.write_seal.ensures.honest.0 safe in
    copy_then_seal _ _ c.args.seal.now _ tt (g.B.Bank.panel c.flush_device.new.bank) (c.in_ok-copy_body.ensures.made honest)
    (c.in_ok-flush_device.ensures.history copied) c.in_ok-flush_device.ensures.up (g.met.B.Bank.true_to _ safe)
    (made_both (c.in_ok-write_seal.ensures.made safe)
    (last_flush _ _ (g.B.Bank.panel c.flush_device-2.new.bank) (c.flush_device-2.ensures.history sealed) c.flush_device-2.ensures.up
    (g.met.B.Bank.true_to _ (c.flush_device-2.ensures.honest.0 sealed)))))
    (ends_by_flush _ _ (g.B.Bank.panel c.flush_device-2.new.bank) _ c.flush_device-2.ensures.err)
