use Rattle.std.proofs.Common.{ℕ, Ok, Err, sym, ◌∙◌, ap, arith}
use Rattle.std.proofs.lemmas.Result.{err_from_is_err_and}
use Rattle.sector_model.specs.declared.sector.Stop.TheVariants.{Down}
use Rattle.array_io.proofs.Calls.DeviceSteps.{its_slots_later}
use Rattle.rebuild.proofs.JoinedLast.{published_as}
use Rattle.rebuild.proofs.Replaced.{replace_ended, replace_failed, replace_joined, replace_other_down, replace_own_down, replace_refused, replace_worn}
use Rattle.rebuild.proofs.replacing.replace.Goals as goal

pub returns-in_err-check_slot-clause-replaces : goal.returns-in_err-check_slot-clause-replaces
returns-in_err-check_slot-clause-replaces g c =
    let p = err_from_is_err_and c.from_residual.result c.from_residual.ensures.1 in
    rw (p.1, p.2) (replace_refused (g.B.Bank.honest c.args.array.now.bank) c.args.slot _ c.in_err-check_slot.field-0.0 c.in_err-check_slot.ensures.why)

pub invariant_of-array-in-Err-1 : goal.invariant_of-array-in-Err-1
invariant_of-array-in-Err-1 g c = record {
  its_slots = its_slots_later c.args.array.now.table (g.B.Bank.panel c.args.array.now.bank) (g.B.Bank.panel c.prepare.new.bank)
      (c.prepare.ensures.prepares 0).later c.args.array.now.its_slots;
}

pub returns-in-Err-Worn-clause-replaces : goal.returns-in-Err-Worn-clause-replaces
returns-in-Err-Worn-clause-replaces g c = replace_worn (g.B.Bank.honest c.args.array.now.bank) c.args.slot c.args.array.now.entry c.args.array.now.table
    (g.B.Bank.panel c.args.array.now.bank)
    (g.B.Bank.panel c.prepare.new.bank) (g.B.Bank.history c.args.array.now.bank) (g.B.Bank.history c.prepare.new.bank) c.prepare.result
    c.in_ok-check_slot.ensures.may
    (c.prepare.ensures.prepares c.args.array.now.entry) (c.in-Err-Worn.is ∙ ap Err c.in-Err-Worn.field-0-is)

pub returns-in-Err-Down-clause-replaces : goal.returns-in-Err-Down-clause-replaces
returns-in-Err-Down-clause-replaces g c = replace_own_down (g.B.Bank.honest c.args.array.now.bank) c.args.slot c.args.array.now.entry c.args.array.now.table
    (g.B.Bank.panel c.args.array.now.bank)
    (g.B.Bank.panel c.prepare.new.bank) (g.B.Bank.history c.args.array.now.bank) (g.B.Bank.history c.prepare.new.bank) c.prepare.result
    c.in_ok-check_slot.ensures.may
    (c.prepare.ensures.prepares c.args.array.now.entry)
    (c.in-Err-Down.is ∙ ap Err (c.in-Err-Down.field-0-is ∙ ap (λ (d : ℕ). Down d) (sym c.in-Err-Down.device-is ∙ c.if-device-slot.true)))

pub returns-in-Err-Down-2-clause-replaces : goal.returns-in-Err-Down-2-clause-replaces
returns-in-Err-Down-2-clause-replaces g c = replace_other_down (g.B.Bank.honest c.args.array.now.bank) c.args.slot c.args.array.now.entry c.args.array.now.table
    (g.B.Bank.panel c.args.array.now.bank)
    (g.B.Bank.panel c.prepare.new.bank) (g.B.Bank.history c.args.array.now.bank) (g.B.Bank.history c.prepare.new.bank) c.prepare.result
    c.in_ok-check_slot.ensures.may
    (c.prepare.ensures.prepares c.args.array.now.entry) c.in-Err-Down.device
    (c.in-Err-Down.is ∙ ap Err c.in-Err-Down.field-0-is) (λ same. c.if-device-slot.false (c.in-Err-Down.device-is ∙ same))

pub publish_last-requires-clause-its_slots : goal.publish_last-requires-clause-its_slots
publish_last-requires-clause-its_slots g c =
    its_slots_later c.args.array.now.table (g.B.Bank.panel c.args.array.now.bank) (g.B.Bank.panel c.prepare.new.bank) (c.prepare.ensures.prepares 0).later
    c.args.array.now.its_slots

pub publish_last-requires-clause-up : goal.publish_last-requires-clause-up
publish_last-requires-clause-up g c = (c.prepare.ensures.prepares 0).up c.in-Ok.is

pub publish_last-requires-clause-fits : goal.publish_last-requires-clause-fits
publish_last-requires-clause-fits g c = omega (arith, c.in_ok-check_slot.ensures.may.fits, (c.prepare.ensures.prepares 0).later.sectors c.args.slot)

pub invariant_of-array-2 : goal.invariant_of-array-2
invariant_of-array-2 g c = record {
  its_slots = (c.publish_last.ensures.publishes 0).goes_on.its_slots
      (its_slots_later c.args.array.now.table (g.B.Bank.panel c.args.array.now.bank) (g.B.Bank.panel c.prepare.new.bank) (c.prepare.ensures.prepares 0).later
      c.args.array.now.its_slots);
}

pub returns-in_err-publish_last-clause-replaces : goal.returns-in_err-publish_last-clause-replaces
returns-in_err-publish_last-clause-replaces g c =
    let p = err_from_is_err_and c.from_residual-in_err-publish_last.result c.from_residual-in_err-publish_last.ensures.1 in
    rw (p.1, p.2) (replace_ended (g.B.Bank.honest c.args.array.now.bank) c.args.slot c.args.array.now.entry c.args.array.now.table
    (g.B.Bank.panel c.args.array.now.bank)
    (g.B.Bank.panel c.prepare.new.bank) (g.B.Bank.history c.args.array.now.bank) (g.B.Bank.history c.prepare.new.bank) c.prepare.result
    c.in_ok-check_slot.ensures.may
    (c.prepare.ensures.prepares c.args.array.now.entry) c.in-Ok.is c.joined-next.result c.publish_last.new.table c.joined-next.ensures
    (g.B.Bank.panel c.publish_last.new.bank) (g.B.Bank.history c.publish_last.new.bank)
    c.publish_last.result (published_as c.prepare.ensures.honest.0 (c.publish_last.ensures.publishes c.args.array.now.entry)) c.in_err-publish_last.field-0.0
    c.in_err-publish_last.was)

pub returns-then-branch-clause-replaces : goal.returns-then-branch-clause-replaces
returns-then-branch-clause-replaces g c = replace_joined (g.B.Bank.honest c.args.array.now.bank) c.args.slot c.args.array.now.entry c.args.array.now.table
    (g.B.Bank.panel c.args.array.now.bank)
    (g.B.Bank.panel c.prepare.new.bank) (g.B.Bank.history c.args.array.now.bank) (g.B.Bank.history c.prepare.new.bank) c.prepare.result
    c.in_ok-check_slot.ensures.may
    (c.prepare.ensures.prepares c.args.array.now.entry) c.in-Ok.is c.joined-next.result c.publish_last.new.table c.joined-next.ensures
    (g.B.Bank.panel c.publish_last.new.bank) (g.B.Bank.history c.publish_last.new.bank)
    c.publish_last.result (published_as c.prepare.ensures.honest.0 (c.publish_last.ensures.publishes c.args.array.now.entry))
    (c.in_ok-publish_last.was ∙ ap Ok c.if-branch.true)

pub returns-else-branch-clause-replaces : goal.returns-else-branch-clause-replaces
returns-else-branch-clause-replaces g c = replace_failed (g.B.Bank.honest c.args.array.now.bank) c.args.slot c.args.array.now.entry c.args.array.now.table
    (g.B.Bank.panel c.args.array.now.bank)
    (g.B.Bank.panel c.prepare.new.bank) (g.B.Bank.history c.args.array.now.bank) (g.B.Bank.history c.prepare.new.bank) c.prepare.result
    c.in_ok-check_slot.ensures.may
    (c.prepare.ensures.prepares c.args.array.now.entry) c.in-Ok.is c.joined-next.result c.publish_last.new.table c.joined-next.ensures
    (g.B.Bank.panel c.publish_last.new.bank) (g.B.Bank.history c.publish_last.new.bank)
    c.publish_last.result (published_as c.prepare.ensures.honest.0 (c.publish_last.ensures.publishes c.args.array.now.entry))
    (c.in_ok-publish_last.was ∙ ap Ok c.if-branch.false)
