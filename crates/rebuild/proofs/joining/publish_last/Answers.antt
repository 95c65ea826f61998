use Rattle.std.proofs.Common.{ℕ, Err, ◌∙◌, ap}
use Rattle.std.proofs.lemmas.Result.{err_from_is_err_and}
use Rattle.sector_model.specs.declared.sector.Stop.TheVariants.{Down}
use Rattle.array_io.proofs.Images.Codecs.{spellings}
use Rattle.array_io.proofs.Reading.ReadValue.{marks_as}
use Rattle.rebuild.proofs.JoinedLast.{joined_all, joined_and_failed, joined_and_refused, joined_two, joined_worn}
use Rattle.rebuild.proofs.joining.publish_last.Goals as goal

pub returns-in_err-mark_slot-in-Err-Down-clause-publishes : goal.returns-in_err-mark_slot-in-Err-Down-clause-publishes
returns-in_err-mark_slot-in-Err-Down-clause-publishes g c number =
    let p = err_from_is_err_and c.from_residual.result c.from_residual.ensures.1 in
    rw (p.1, p.2)
    (joined_and_refused spellings (g.B.Bank.honest c.args.bank.now) number c.args.table.now c.args.next.now c.args.slot (g.B.Bank.panel c.args.bank.now)
    (g.B.Bank.panel c.publish.new.bank)
    (g.B.Bank.history c.args.bank.now) (g.B.Bank.history c.publish.new.bank) c.publish.result
    (record {
      step = c.requires.step;
      out = c.requires.out;
      there = c.requires.there;
      its_slots = c.requires.its_slots;
      up = c.requires.up;
      fits =
          c.requires.fits;
    })
    c.publish.ensures.publishes (g.met.B.Bank.true_to c.args.bank.now) (λ fair. g.met.B.Bank.true_to c.publish.new.bank (c.publish.ensures.honest.0 fair))
    c.mark_slot.new.table (g.B.Bank.panel c.mark_slot.new.bank) (g.B.Bank.history c.mark_slot.new.bank) c.mark_slot.result
    (c.in-Err-Down.is ∙ ap Err (c.in-Err-Down.field-0-is ∙ ap (λ (d : ℕ). Down d) c.if-device-slot.true))
    (marks_as c.args.slot (g.B.Bank.panel c.publish.new.bank) (g.B.Bank.panel c.mark_slot.new.bank) c.args.next.now c.mark_slot.new.table
    (g.B.Bank.history c.publish.new.bank)
    (g.B.Bank.history c.mark_slot.new.bank) c.mark_slot.result c.publish.ensures.honest.0 c.mark_slot.ensures.marks)
    (λ fair. g.met.B.Bank.true_to c.mark_slot.new.bank (c.mark_slot.ensures.honest.0 (c.publish.ensures.honest.0 fair)))
    c.in_err-mark_slot-in-Err-Down.field-0.0 c.in_err-mark_slot-in-Err-Down.was)

pub returns-in-Ok-clause-publishes : goal.returns-in-Ok-clause-publishes
returns-in-Ok-clause-publishes g c number =
    joined_all spellings (g.B.Bank.honest c.args.bank.now) number c.args.table.now c.args.next.now c.args.slot (g.B.Bank.panel c.args.bank.now)
    (g.B.Bank.panel c.publish.new.bank)
    (g.B.Bank.history c.args.bank.now) (g.B.Bank.history c.publish.new.bank) c.publish.result
    (record {
      step = c.requires.step;
      out = c.requires.out;
      there = c.requires.there;
      its_slots = c.requires.its_slots;
      up = c.requires.up;
      fits =
          c.requires.fits;
    })
    c.publish.ensures.publishes (g.met.B.Bank.true_to c.args.bank.now) (λ fair. g.met.B.Bank.true_to c.publish.new.bank (c.publish.ensures.honest.0 fair))
    c.in-Ok.is

pub returns-in-Err-Worn-clause-publishes : goal.returns-in-Err-Worn-clause-publishes
returns-in-Err-Worn-clause-publishes g c number =
    joined_worn spellings (g.B.Bank.honest c.args.bank.now) number c.args.table.now c.args.next.now c.args.slot (g.B.Bank.panel c.args.bank.now)
    (g.B.Bank.panel c.publish.new.bank)
    (g.B.Bank.history c.args.bank.now) (g.B.Bank.history c.publish.new.bank) c.publish.result
    (record {
      step = c.requires.step;
      out = c.requires.out;
      there = c.requires.there;
      its_slots = c.requires.its_slots;
      up = c.requires.up;
      fits =
          c.requires.fits;
    })
    c.publish.ensures.publishes (g.met.B.Bank.true_to c.args.bank.now) (λ fair. g.met.B.Bank.true_to c.publish.new.bank (c.publish.ensures.honest.0 fair))
    (c.in-Err-Worn.is ∙ ap Err c.in-Err-Worn.field-0-is)

pub returns-in_ok-mark_slot-in-Err-Down-clause-honest : goal.returns-in_ok-mark_slot-in-Err-Down-clause-honest
returns-in_ok-mark_slot-in-Err-Down-clause-honest g c =
    (λ fair. c.mark_slot.ensures.honest.0 (c.publish.ensures.honest.0 fair), λ fair. c.publish.ensures.honest.1 (c.mark_slot.ensures.honest.1 fair))

pub returns-in_ok-mark_slot-in-Err-Down-clause-publishes : goal.returns-in_ok-mark_slot-in-Err-Down-clause-publishes
returns-in_ok-mark_slot-in-Err-Down-clause-publishes g c number =
    joined_and_failed spellings (g.B.Bank.honest c.args.bank.now) number c.args.table.now c.args.next.now c.args.slot (g.B.Bank.panel c.args.bank.now)
    (g.B.Bank.panel c.publish.new.bank)
    (g.B.Bank.history c.args.bank.now) (g.B.Bank.history c.publish.new.bank) c.publish.result
    (record {
      step = c.requires.step;
      out = c.requires.out;
      there = c.requires.there;
      its_slots = c.requires.its_slots;
      up = c.requires.up;
      fits =
          c.requires.fits;
    })
    c.publish.ensures.publishes (g.met.B.Bank.true_to c.args.bank.now) (λ fair. g.met.B.Bank.true_to c.publish.new.bank (c.publish.ensures.honest.0 fair))
    c.mark_slot.new.table (g.B.Bank.panel c.mark_slot.new.bank) (g.B.Bank.history c.mark_slot.new.bank) c.mark_slot.result
    (c.in-Err-Down.is ∙ ap Err (c.in-Err-Down.field-0-is ∙ ap (λ (d : ℕ). Down d) c.if-device-slot.true))
    (marks_as c.args.slot (g.B.Bank.panel c.publish.new.bank) (g.B.Bank.panel c.mark_slot.new.bank) c.args.next.now c.mark_slot.new.table
    (g.B.Bank.history c.publish.new.bank)
    (g.B.Bank.history c.mark_slot.new.bank) c.mark_slot.result c.publish.ensures.honest.0 c.mark_slot.ensures.marks)
    (λ fair. g.met.B.Bank.true_to c.mark_slot.new.bank (c.mark_slot.ensures.honest.0 (c.publish.ensures.honest.0 fair))) c.in_ok-mark_slot-in-Err-Down.was

pub returns-in-Err-Down-2-clause-publishes : goal.returns-in-Err-Down-2-clause-publishes
returns-in-Err-Down-2-clause-publishes g c number =
    joined_two spellings (g.B.Bank.honest c.args.bank.now) number c.args.table.now c.args.next.now c.args.slot (g.B.Bank.panel c.args.bank.now)
    (g.B.Bank.panel c.publish.new.bank)
    (g.B.Bank.history c.args.bank.now) (g.B.Bank.history c.publish.new.bank) c.publish.result
    (record {
      step = c.requires.step;
      out = c.requires.out;
      there = c.requires.there;
      its_slots = c.requires.its_slots;
      up = c.requires.up;
      fits =
          c.requires.fits;
    })
    c.publish.ensures.publishes (g.met.B.Bank.true_to c.args.bank.now) (λ fair. g.met.B.Bank.true_to c.publish.new.bank (c.publish.ensures.honest.0 fair))
    c.in-Err-Down.device (c.in-Err-Down.is ∙ ap Err c.in-Err-Down.field-0-is) c.if-device-slot.false
