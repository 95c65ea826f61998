use Rattle.std.proofs.Common.{ℕ, Ok, arith, refl, replicate}
use Rattle.std.proofs.lemmas.List.{length-replicate}
use Rattle.std.proofs.lemmas.Result.{err_from_is_err_and}
use Rattle.recovery.specs.Making.{bank_view}
use Rattle.recovery.proofs.Surveyed.{left_over, surveyed_begun, surveyed_err, surveyed_none, surveyed_some, surveyed_step}
use Rattle.recovery.proofs.survey.survey_bank.Goals as goal

pub loop-slot-init : goal.loop-slot-init
loop-slot-init g c = record {
  honest = λ honest. honest;
  still = λ honest. honest;
  surveyed = surveyed_begun (g.B.Bank.honest c.args.bank.now) c.args.id.now (g.B.Bank.panel c.args.bank.now).devices
      (bank_view (g.B.Bank.panel c.args.bank.now) (g.B.Bank.history c.args.bank.now)) (replicate 10 0) (replicate 10 0)
      (length-replicate {A = ℕ} 10 0) (length-replicate {A = ℕ} 10 0);
}

pub newest_left-requires : goal.newest_left-requires
newest_left-requires g c = omega (arith, c.loop-slot-test.true, c.devices-slot-end.ensures.count, c.loop-slot.invariant.surveyed.later.devices)

pub returns-in_err-next-clause-honest : goal.returns-in_err-next-clause-honest
returns-in_err-next-clause-honest g c = (
  (λ honest. c.newest_left.ensures.honest.0 (c.loop-slot.invariant.honest honest)),
  (λ honest. c.loop-slot.invariant.still (c.newest_left.ensures.honest.1 honest)),
)

pub returns-in_err-next-clause-surveyed : goal.returns-in_err-next-clause-surveyed
returns-in_err-next-clause-surveyed g c =
    let p = err_from_is_err_and c.from_residual.result c.from_residual.ensures.1 in
    let devices = (g.B.Bank.panel c.args.bank.now).devices in
    let id = c.args.id.now in
    rw (p.1, p.2) (surveyed_err (g.B.Bank.honest c.args.bank.now) (g.B.Bank.honest c.loop-slot.bank) id devices c.loop-slot.slot
    (bank_view (g.B.Bank.panel c.args.bank.now) (g.B.Bank.history c.args.bank.now))
    (bank_view (g.B.Bank.panel c.loop-slot.bank) (g.B.Bank.history c.loop-slot.bank))
    (bank_view (g.B.Bank.panel c.newest_left.new.bank) (g.B.Bank.history c.newest_left.new.bank))
    c.loop-slot.best c.loop-slot.own c.loop-slot.generations _ c.loop-slot.invariant.honest c.loop-slot.invariant.surveyed
    (left_over (g.B.Bank.honest c.loop-slot.bank) id c.loop-slot.slot
    (bank_view (g.B.Bank.panel c.loop-slot.bank) (g.B.Bank.history c.loop-slot.bank))
    (bank_view (g.B.Bank.panel c.newest_left.new.bank) (g.B.Bank.history c.newest_left.new.bank)) _
    (g.B.Bank.panel c.loop-slot.bank).devices (g.B.Bank.panel c.args.bank.now).devices
    c.loop-slot.invariant.surveyed.later.devices c.in_err-next.ensures.found))

pub loop-slot-preserved : goal.loop-slot-preserved
loop-slot-preserved g c =
    let devices = (g.B.Bank.panel c.args.bank.now).devices in
    let id = c.args.id.now in
    record {
      honest = λ honest. c.newest_left.ensures.honest.0 (c.loop-slot.invariant.honest honest);
      still = λ honest. c.loop-slot.invariant.still (c.newest_left.ensures.honest.1 honest);
      surveyed = surveyed_step (g.B.Bank.honest c.args.bank.now) (g.B.Bank.honest c.loop-slot.bank) id devices c.loop-slot.slot
          (bank_view (g.B.Bank.panel c.args.bank.now) (g.B.Bank.history c.args.bank.now))
          (bank_view (g.B.Bank.panel c.loop-slot.bank) (g.B.Bank.history c.loop-slot.bank))
          (bank_view (g.B.Bank.panel c.newest_left.new.bank) (g.B.Bank.history c.newest_left.new.bank))
          c.loop-slot.best c.in_ok-next.next c.newer-best.result c.loop-slot.own c.loop-slot.generations
          c.own_in.result c.generation_in.result
          c.loop-slot.invariant.honest (omega (arith, c.loop-slot-test.true, c.devices-slot-end.ensures.most)) c.loop-slot.invariant.surveyed
          (left_over (g.B.Bank.honest c.loop-slot.bank) id c.loop-slot.slot
          (bank_view (g.B.Bank.panel c.loop-slot.bank) (g.B.Bank.history c.loop-slot.bank))
          (bank_view (g.B.Bank.panel c.newest_left.new.bank) (g.B.Bank.history c.newest_left.new.bank)) (Ok c.in_ok-next.next)
          (g.B.Bank.panel c.loop-slot.bank).devices (g.B.Bank.panel c.args.bank.now).devices
          c.loop-slot.invariant.surveyed.later.devices c.in_ok-next.ensures.found)
          c.newer-best.ensures c.own_in.ensures c.generation_in.ensures;
    }

pub returns-in-Some-clause-surveyed : goal.returns-in-Some-clause-surveyed
returns-in-Some-clause-surveyed g c =
    surveyed_some (g.B.Bank.honest c.args.bank.now) c.args.id.now c.loop-slot.slot
    (bank_view (g.B.Bank.panel c.args.bank.now) (g.B.Bank.history c.args.bank.now))
    (bank_view (g.B.Bank.panel c.loop-slot.bank) (g.B.Bank.history c.loop-slot.bank))
    c.loop-slot.best c.in-Some.best record { table = c.in-Some.best.table; own = c.loop-slot.own; generations = c.loop-slot.generations }
    (omega (arith, c.loop-slot-test.false, c.devices-slot-end.ensures.count)) c.loop-slot.invariant.surveyed c.in-Some.is refl

pub returns-in-None-clause-surveyed : goal.returns-in-None-clause-surveyed
returns-in-None-clause-surveyed g c =
    surveyed_none (g.B.Bank.honest c.args.bank.now) c.args.id.now c.loop-slot.slot
    (bank_view (g.B.Bank.panel c.args.bank.now) (g.B.Bank.history c.args.bank.now))
    (bank_view (g.B.Bank.panel c.loop-slot.bank) (g.B.Bank.history c.loop-slot.bank))
    c.loop-slot.best c.loop-slot.own c.loop-slot.generations
    (omega (arith, c.loop-slot-test.false, c.devices-slot-end.ensures.count)) c.loop-slot.invariant.surveyed c.in-None.is
