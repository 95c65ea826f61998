use Rattle.std.proofs.Common.{◌∙◌, ◌≤◌, ◌+◌, arith, sym, Ok}
use Rattle.std.proofs.lemmas.Result.{err_from_is_err_and}
use Rattle.recovery.specs.Making.{bank_view}
use Rattle.raidtool.proofs.OtherSets.{all_beyond, has_none, inspected_next, inspected_none, one_beyond, refused_beyond}
use Rattle.raidtool.proofs.make.other_set.other_set.Goals as goal

pub loop-slot-init : goal.loop-slot-init
loop-slot-init g c = record {
  honest = λ honest. honest;
  from = omega arith;
  inspected = inspected_none (g.B.Bank.honest c.args.bank.now) c.args.id.now c.args.first
      (bank_view (g.B.Bank.panel c.args.bank.now) (g.B.Bank.history c.args.bank.now));
}

pub returns-then-is_some-clause-inspections : goal.returns-then-is_some-clause-inspections
returns-then-is_some-clause-inspections g c =
    let old = bank_view (g.B.Bank.panel c.args.bank.now) (g.B.Bank.history c.args.bank.now) in
    let mid = bank_view (g.B.Bank.panel c.loop-slot.bank) (g.B.Bank.history c.loop-slot.bank) in
    let new = bank_view (g.B.Bank.panel c.newest_at.new.bank) (g.B.Bank.history c.newest_at.new.bank) in
    one_beyond (g.B.Bank.honest c.args.bank.now) (g.B.Bank.honest c.loop-slot.bank) c.loop-slot.invariant.honest c.args.id.now c.args.first c.loop-slot.slot
    old mid new
    (λ fair. g.met.B.Bank.true_to c.args.bank.now fair) (λ fair. g.met.B.Bank.true_to c.loop-slot.bank (c.loop-slot.invariant.honest fair))
    c.loop-slot.invariant.inspected
    c.in_ok-newest_at.field-0 (sym c.is_some.ensures ∙ c.if-is_some.true) c.in_ok-newest_at.ensures.found

pub returns-in_err-newest_at-clause-inspections : goal.returns-in_err-newest_at-clause-inspections
returns-in_err-newest_at-clause-inspections g c =
    let old = bank_view (g.B.Bank.panel c.args.bank.now) (g.B.Bank.history c.args.bank.now) in
    let mid = bank_view (g.B.Bank.panel c.loop-slot.bank) (g.B.Bank.history c.loop-slot.bank) in
    let new = bank_view (g.B.Bank.panel c.newest_at.new.bank) (g.B.Bank.history c.newest_at.new.bank) in
    let from = err_from_is_err_and c.from_residual.result c.from_residual.ensures.1 in
    rw (from.1, from.2) (refused_beyond (g.B.Bank.honest c.args.bank.now) (g.B.Bank.honest c.loop-slot.bank) c.loop-slot.invariant.honest c.args.id.now
    c.args.first c.loop-slot.slot old mid new
    (λ fair. g.met.B.Bank.true_to c.args.bank.now fair) (λ fair. g.met.B.Bank.true_to c.loop-slot.bank (c.loop-slot.invariant.honest fair))
    c.loop-slot.invariant.inspected _ c.in_err-newest_at.ensures.found)

pub returns-clause-inspections : goal.returns-clause-inspections
returns-clause-inspections g c =
    all_beyond (g.B.Bank.honest c.args.bank.now) c.args.id.now c.args.first c.loop-slot.slot
    (bank_view (g.B.Bank.panel c.args.bank.now) (g.B.Bank.history c.args.bank.now))
    (bank_view (g.B.Bank.panel c.loop-slot.bank) (g.B.Bank.history c.loop-slot.bank)) (omega arith) c.loop-slot.invariant.inspected

pub loop-slot-preserved : goal.loop-slot-preserved
loop-slot-preserved g c =
    let from : c.args.first ≤ c.loop-slot.slot + 1 = omega (arith, c.loop-slot.invariant.from) in
    let old = bank_view (g.B.Bank.panel c.args.bank.now) (g.B.Bank.history c.args.bank.now) in
    let mid = bank_view (g.B.Bank.panel c.loop-slot.bank) (g.B.Bank.history c.loop-slot.bank) in
    let new = bank_view (g.B.Bank.panel c.newest_at.new.bank) (g.B.Bank.history c.newest_at.new.bank) in
    let found = c.in_ok-newest_at.field-0 in
    record {
      honest = λ fair. c.in_ok-newest_at.ensures.honest.0 (c.loop-slot.invariant.honest fair);
      from = from;
      inspected = inspected_next (g.B.Bank.honest c.args.bank.now) (g.B.Bank.honest c.loop-slot.bank) c.loop-slot.invariant.honest c.args.id.now c.args.first
          c.loop-slot.slot old mid new
          (λ fair. g.met.B.Bank.true_to c.args.bank.now fair) (λ fair. g.met.B.Bank.true_to c.loop-slot.bank (c.loop-slot.invariant.honest fair))
          c.loop-slot.invariant.inspected
          (Ok found) (has_none found (sym c.is_some.ensures ∙ c.if-is_some.false)) c.in_ok-newest_at.ensures.found;
    }
