use Rattle.std.proofs.Common.{rules, ℕ, inl, inr, Ok, subst, sym, arith}
use Rattle.std.proofs.lemmas.Bool.{cases_eq}
use Rattle.std.proofs.lemmas.Result.{err_from_is_err_and}
use Rattle.sector_model.proofs.Panels.{later_both}
use Rattle.recovery.specs.Clearing.{IsFlushed}
use Rattle.recovery.proofs.MakingClearing.{cleared_both, cleared_flush, flushed_now, flushed_still, stop_in}
use Rattle.recovery.proofs.making.clearing.flush_slots.Goals as goal

pub flush_device-requires : goal.flush_device-requires
flush_device-requires g c = omega (arith, c.requires, c.loop-slot-test.true, c.loop-slot.invariant.panel.devices)

pub returns-in_err-flush_device-clause-panel : goal.returns-in_err-flush_device-clause-panel
returns-in_err-flush_device-clause-panel g c = later_both _ _ _ c.loop-slot.invariant.panel c.flush_device.ensures.panel

pub returns-in_err-flush_device-clause-honest : goal.returns-in_err-flush_device-clause-honest
returns-in_err-flush_device-clause-honest g c = (
  λ honest. c.flush_device.ensures.honest.0 (c.loop-slot.invariant.honest honest),
  λ honest. c.loop-slot.invariant.still (c.flush_device.ensures.honest.1 honest),
)

pub returns-in_err-flush_device-clause-cleared : goal.returns-in_err-flush_device-clause-cleared
returns-in_err-flush_device-clause-cleared g c = λ _. rw (err_from_is_err_and c.from_residual.result c.from_residual.ensures.1).1 tt

pub returns-in_err-flush_device-clause-flushed : goal.returns-in_err-flush_device-clause-flushed
returns-in_err-flush_device-clause-flushed g c = λ _ _ _. rw (err_from_is_err_and c.from_residual.result c.from_residual.ensures.1).1 tt

pub returns-in_err-flush_device-clause-err : goal.returns-in_err-flush_device-clause-err
returns-in_err-flush_device-clause-err g c =
    let p = err_from_is_err_and c.from_residual.result c.from_residual.ensures.1 in
    rw (p.1, p.2) (stop_in c.args.slots c.loop-slot.slot (g.B.Bank.panel c.flush_device.new.bank) _ c.loop-slot-test.true c.in_err-flush_device.ensures.err)

pub loop-slot-preserved : goal.loop-slot-preserved
loop-slot-preserved g c =
    let old = g.B.Bank.history c.loop-slot.bank in
    let new = g.B.Bank.history c.flush_device.new.bank in
    let slot = c.loop-slot.slot in
    record {
      panel = later_both _ _ _ c.loop-slot.invariant.panel c.flush_device.ensures.panel;
      honest = λ honest. c.flush_device.ensures.honest.0 (c.loop-slot.invariant.honest honest);
      still = λ honest. c.loop-slot.invariant.still (c.flush_device.ensures.honest.1 honest);
      cleared = λ honest. cleared_both c.args.slots _ _ _ (c.loop-slot.invariant.cleared honest)
          (cleared_flush c.args.slots slot (Ok tt) old new (c.in_ok-flush_device.ensures.history (c.loop-slot.invariant.honest honest)));
      flushed = λ honest other below. elim (cases_eq other slot) [
        | inl same ↦ subst (λ (k : ℕ). IsFlushed new k) (sym same)
            (flushed_now slot (Ok tt) old new (c.in_ok-flush_device.ensures.history (c.loop-slot.invariant.honest honest)))
        | inr apart ↦ flushed_still slot other (Ok tt) old new (c.in_ok-flush_device.ensures.history (c.loop-slot.invariant.honest honest))
            (c.loop-slot.invariant.flushed honest other (omega (arith, below, apart)))
      ];
    }

pub returns-clause-panel : goal.returns-clause-panel
returns-clause-panel g c = c.loop-slot.invariant.panel

pub returns-clause-honest : goal.returns-clause-honest
returns-clause-honest g c = (c.loop-slot.invariant.honest, c.loop-slot.invariant.still)

pub returns-clause-cleared : goal.returns-clause-cleared
returns-clause-cleared g c = c.loop-slot.invariant.cleared

pub returns-clause-flushed : goal.returns-clause-flushed
returns-clause-flushed g c = λ honest slot below. c.loop-slot.invariant.flushed honest slot (omega (arith, below, c.loop-slot-test.false))

pub returns-clause-err : goal.returns-clause-err
returns-clause-err g c = tt

pub loop-slot-init : goal.loop-slot-init
loop-slot-init g c = search rules
