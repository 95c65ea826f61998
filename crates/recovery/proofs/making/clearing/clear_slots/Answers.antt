use Rattle.std.proofs.Common.{◌+◌, inl, inr, subst, sym, arith, ℕ}
use Rattle.std.proofs.lemmas.Bool.{cases_eq}
use Rattle.sector_model.proofs.Panels.{later_both, later_same}
use Rattle.recovery.specs.Clearing.{IsClearedSlot}
use Rattle.recovery.proofs.MakingClearing.{cleared_both, slot_stays, cleared_none}
use Rattle.std.proofs.lemmas.Result.{err_from_is_err_and}
use Rattle.recovery.proofs.making.clearing.clear_slots.Goals as goal

pub loop-slot-preserved : goal.loop-slot-preserved
loop-slot-preserved g c = record {
  panel = later_both _ _ _ c.loop-slot.invariant.panel c.clear_slot.ensures.panel;
  honest = λ honest. c.clear_slot.ensures.honest.0 (c.loop-slot.invariant.honest honest);
  still = λ honest. c.loop-slot.invariant.still (c.clear_slot.ensures.honest.1 honest);
  cleared = λ honest. cleared_both (c.args.geometry.now.members + 2) _ _ _ (c.loop-slot.invariant.cleared honest)
      (c.in_ok-clear_slot.ensures.cleared (c.loop-slot.invariant.honest honest));
  slots = λ honest slot below. elim (cases_eq slot c.loop-slot.slot) [
    | inl same ↦ subst (λ (k : ℕ). IsClearedSlot c.args.geometry.now (g.B.Bank.history c.clear_slot.new.bank) k) (sym same)
        (c.in_ok-clear_slot.ensures.slot (c.loop-slot.invariant.honest honest))
    | inr other ↦ slot_stays (c.args.geometry.now.members + 2) c.args.geometry.now _ _ slot
        (c.in_ok-clear_slot.ensures.cleared (c.loop-slot.invariant.honest honest))
        (c.loop-slot.invariant.slots honest slot (omega (arith, below, other)))
  ];
}

pub returns-clause-slots : goal.returns-clause-slots
returns-clause-slots g c = λ honest slot below. c.loop-slot.invariant.slots honest slot (omega (arith, below, c.loop-slot.auto.slot-end))

pub loop-slot-init : goal.loop-slot-init
loop-slot-init g c = record {
  panel = later_same _;
  honest = λ honest. honest;
  still = λ honest. honest;
  cleared = λ _. cleared_none (c.args.geometry.now.members + 2) _;
  slots = λ _ slot below. absurd (omega (arith, below));
}

pub clear_slot-requires-clause-room : goal.clear_slot-requires-clause-room
clear_slot-requires-clause-room g c = record {
  of_bank = omega (arith, c.requires.of_bank, c.loop-slot.invariant.panel.devices);
  fit = λ slot below. omega (arith, c.requires.fit slot below, c.loop-slot.invariant.panel.sectors slot);
}

pub clear_slot-requires-clause-of_set : goal.clear_slot-requires-clause-of_set
clear_slot-requires-clause-of_set g c = c.loop-slot-test.true

pub returns-in_err-clear_slot-clause-panel : goal.returns-in_err-clear_slot-clause-panel
returns-in_err-clear_slot-clause-panel g c = later_both _ _ _ c.loop-slot.invariant.panel c.clear_slot.ensures.panel

pub returns-in_err-clear_slot-clause-honest : goal.returns-in_err-clear_slot-clause-honest
returns-in_err-clear_slot-clause-honest g c = (
  λ honest. c.clear_slot.ensures.honest.0 (c.loop-slot.invariant.honest honest),
  λ honest. c.loop-slot.invariant.still (c.clear_slot.ensures.honest.1 honest),
)

pub returns-in_err-clear_slot-clause-cleared : goal.returns-in_err-clear_slot-clause-cleared
returns-in_err-clear_slot-clause-cleared g c = λ _. rw (err_from_is_err_and c.from_residual.result c.from_residual.ensures.1).1 tt

pub returns-in_err-clear_slot-clause-slots : goal.returns-in_err-clear_slot-clause-slots
returns-in_err-clear_slot-clause-slots g c = λ _ _ _. rw (err_from_is_err_and c.from_residual.result c.from_residual.ensures.1).1 tt

pub returns-in_err-clear_slot-clause-err : goal.returns-in_err-clear_slot-clause-err
returns-in_err-clear_slot-clause-err g c =
    let p = err_from_is_err_and c.from_residual.result c.from_residual.ensures.1 in
    rw (p.1, p.2) c.in_err-clear_slot.ensures.err

pub returns-clause-panel : goal.returns-clause-panel
returns-clause-panel g c = c.loop-slot.invariant.panel

pub returns-clause-honest : goal.returns-clause-honest
returns-clause-honest g c = (c.loop-slot.invariant.honest, c.loop-slot.invariant.still)

pub returns-clause-cleared : goal.returns-clause-cleared
returns-clause-cleared g c = c.loop-slot.invariant.cleared

pub returns-clause-err : goal.returns-clause-err
returns-clause-err g c = tt
