use Rattle.std.proofs.Common.{◌≡◌, ◌≤◌, ℕ, false, inl, inr, sym, ◌∙◌, arith}
use Rattle.superblock.specs.Counted.{least_sectors}
use Rattle.recovery.proofs.SurveyedOut.{below_one_more}
use Rattle.recovery.proofs.making.check_devices.Goals.{then-is_down-via-then-is_down, then-is_down-via-else-is_down+then-sectors-least_of}
use Rattle.recovery.proofs.making.check_devices.Goals as goal

pub returns-then-devices-slots-clause-cause : goal.returns-then-devices-slots-clause-cause
returns-then-devices-slots-clause-cause g c = omega (arith, c.devices.ensures.count, c.if-devices-slots.true)

pub loop-slot-init : goal.loop-slot-init
loop-slot-init g c = record {
  up = λ k below. absurd (omega (arith, below));
  fit = λ k below. absurd (omega (arith, below));
}

pub is_down-requires : goal.is_down-requires
is_down-requires g c = omega (arith, c.devices.ensures.count, c.if-devices-slots.false, c.loop-slot-test.true)

pub sectors-requires : goal.sectors-requires
sectors-requires g c = omega (arith, c.devices.ensures.count, c.if-devices-slots.false, c.loop-slot-test.true)

pub returns-then-is_down-clause-cause : goal.returns-then-is_down-clause-cause
returns-then-is_down-clause-cause g c = elim c.then-is_down.branch [
  | then-is_down-via-then-is_down w ↦ record {
    slot = c.loop-slot.slot;
    of_set = c.loop-slot-test.true;
    unusable = inl (sym c.is_down.ensures ∙ w.if-is_down.true);
  }
  | then-is_down-via-else-is_down+then-sectors-least_of w ↦ record {
    slot = c.loop-slot.slot;
    of_set = c.loop-slot-test.true;
    unusable = inr (omega (arith, w.sectors.ensures, w.least_of.ensures.least, w.if-sectors-least_of.true));
  }
]

pub loop-slot-preserved : goal.loop-slot-preserved
loop-slot-preserved g c = record {
  up = below_one_more (λ (k : ℕ). (g.B.Bank.panel c.args.bank.now).down k ≡ false) c.loop-slot.slot c.loop-slot.invariant.up
      (sym c.is_down.ensures ∙ c.if-is_down.false);
  fit = below_one_more (λ (k : ℕ). least_sectors c.args.geometry.now k ≤ (g.B.Bank.panel c.args.bank.now).sectors k) c.loop-slot.slot c.loop-slot.invariant.fit
      (omega (arith, c.sectors.ensures, c.least_of.ensures.least, c.if-sectors-least_of.false));
}

pub returns-clause-usable : goal.returns-clause-usable
returns-clause-usable g c = record {
  room = record {
    of_bank = omega (arith, c.devices.ensures.count, c.if-devices-slots.false);
    fit = λ slot below. c.loop-slot.invariant.fit slot (omega (arith, below, c.loop-slot-test.false));
  };
  up = λ slot below. c.loop-slot.invariant.up slot (omega (arith, below, c.loop-slot-test.false));
}

pub returns-clause-cause : goal.returns-clause-cause
returns-clause-cause g c = tt
