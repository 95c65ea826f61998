use Rattle.std.proofs.Common.{rules, ◌≡◌, None, Ok, Err, refl, ap}
use Rattle.std.proofs.lemmas.Result.{err_from_is_err_and}
use Rattle.array_io.proofs.Images.Codecs.{spellings}
use Rattle.recovery.specs.Making.{bank_view}
use Rattle.recovery.proofs.AssembledEnds.{assembled_whole, brought_worn, marks_failed, marks_one, can_bring}
use Rattle.recovery.proofs.AssembledLaw.{assembled_none, assembled_two, assembled_worn, has_surveyed}
use Rattle.recovery.proofs.AssembledMarked.{assembled_without, not_assembled}
use Rattle.array_io.proofs.Calls.DeviceSteps.{its_slots_later}
use Rattle.array_io.proofs.Marks.MarkMissing.{but_one}
use Rattle.recovery.proofs.Surveyed.{surveyed_then}
use Rattle.recovery.proofs.assembling.put_in_order.Goals as goal

pub returns-in_err-survey-clause-puts : goal.returns-in_err-survey-clause-puts
returns-in_err-survey-clause-puts g c =
    let p = err_from_is_err_and c.from_residual.result c.from_residual.ensures.1 in
    rw (p.1, p.2) (assembled_worn spellings (g.B.Bank.honest c.args.bank.now) c.args.id.now
    (bank_view (g.B.Bank.panel c.args.bank.now) (g.B.Bank.history c.args.bank.now))
    (bank_view (g.B.Bank.panel c.survey_bank.new.bank) (g.B.Bank.history c.survey_bank.new.bank)) _ _ c.in_err-survey.ensures.surveyed refl)

pub returns-in_default-clause-puts : goal.returns-in_default-clause-puts
returns-in_default-clause-puts g c =
    let none : c.in_ok-survey.field-0 ≡ None = search rules in
    assembled_none spellings (g.B.Bank.honest c.args.bank.now) c.args.id.now (bank_view (g.B.Bank.panel c.args.bank.now) (g.B.Bank.history c.args.bank.now))
    (bank_view (g.B.Bank.panel c.survey_bank.new.bank) (g.B.Bank.history c.survey_bank.new.bank)) (Ok c.in_ok-survey.field-0) c.in_ok-survey.ensures.surveyed
    (ap Ok none)

pub mark_slot-requires-clause-of_set : goal.mark_slot-requires-clause-of_set
mark_slot-requires-clause-of_set g c = (c.in-Err-Down.ensures.brings.brings.named c.in-Err-Down.slot (ap Err c.in-Err-Down.field-0-is)).of_set

pub returns-in-Ok-clause-puts : goal.returns-in-Ok-clause-puts
returns-in-Ok-clause-puts g c =
    let has = (has_surveyed (g.B.Bank.honest c.args.bank.now) c.args.id.now (bank_view (g.B.Bank.panel c.args.bank.now) (g.B.Bank.history c.args.bank.now))
    (bank_view (g.B.Bank.panel c.survey_bank.new.bank) (g.B.Bank.history c.survey_bank.new.bank)) (Ok c.in_ok-survey.field-0) c.in-Some.survey
    c.in_ok-survey.ensures.surveyed (ap Ok c.in-Some.is)) in
    assembled_whole spellings (g.B.Bank.honest c.args.bank.now) (g.B.Bank.honest c.survey_bank.new.bank) (λ honest. c.survey_bank.ensures.honest.0 honest)
    c.args.id.now (bank_view (g.B.Bank.panel c.args.bank.now) (g.B.Bank.history c.args.bank.now))
    (bank_view (g.B.Bank.panel c.survey_bank.new.bank) (g.B.Bank.history c.survey_bank.new.bank)) c.in-Some.survey.table has c.in-Nobody.ensures
    (g.B.Bank.panel c.bring_up.new.bank) (g.B.Bank.history c.bring_up.new.bank) (Ok c.in-Ok.field-0) c.in-Ok.ensures.brings
    (λ honest. g.met.B.Bank.true_to _ (c.bring_up.ensures.honest.0 (c.survey_bank.ensures.honest.0 honest))) refl

pub returns-in-Err-Worn-clause-puts : goal.returns-in-Err-Worn-clause-puts
returns-in-Err-Worn-clause-puts g c =
    let has = (has_surveyed (g.B.Bank.honest c.args.bank.now) c.args.id.now (bank_view (g.B.Bank.panel c.args.bank.now) (g.B.Bank.history c.args.bank.now))
    (bank_view (g.B.Bank.panel c.survey_bank.new.bank) (g.B.Bank.history c.survey_bank.new.bank)) (Ok c.in_ok-survey.field-0) c.in-Some.survey
    c.in_ok-survey.ensures.surveyed (ap Ok c.in-Some.is)) in
    brought_worn spellings (g.B.Bank.honest c.args.bank.now) (g.B.Bank.honest c.survey_bank.new.bank) (λ honest. c.survey_bank.ensures.honest.0 honest)
    c.args.id.now (bank_view (g.B.Bank.panel c.args.bank.now) (g.B.Bank.history c.args.bank.now))
    (bank_view (g.B.Bank.panel c.survey_bank.new.bank) (g.B.Bank.history c.survey_bank.new.bank)) c.in-Some.survey.table has c.in-Nobody.ensures
    (g.B.Bank.panel c.bring_up.new.bank) (g.B.Bank.history c.bring_up.new.bank) (Err c.in-Err-Worn.field-0) c.in-Err-Worn.ensures.brings
    (λ honest. g.met.B.Bank.true_to _ (c.bring_up.ensures.honest.0 (c.survey_bank.ensures.honest.0 honest))) (ap Err c.in-Err-Worn.field-0-is)

pub returns-in-Ok-mark_slot-clause-puts : goal.returns-in-Ok-mark_slot-clause-puts
returns-in-Ok-mark_slot-clause-puts g c =
    let has = (has_surveyed (g.B.Bank.honest c.args.bank.now) c.args.id.now (bank_view (g.B.Bank.panel c.args.bank.now) (g.B.Bank.history c.args.bank.now))
    (bank_view (g.B.Bank.panel c.survey_bank.new.bank) (g.B.Bank.history c.survey_bank.new.bank)) (Ok c.in_ok-survey.field-0) c.in-Some.survey
    c.in_ok-survey.ensures.surveyed (ap Ok c.in-Some.is)) in
    let failure = marks_failed spellings (g.B.Bank.honest c.args.bank.now) (g.B.Bank.honest c.survey_bank.new.bank)
    (λ honest. c.survey_bank.ensures.honest.0 honest) c.args.id.now (bank_view (g.B.Bank.panel c.args.bank.now) (g.B.Bank.history c.args.bank.now))
    (bank_view (g.B.Bank.panel c.survey_bank.new.bank) (g.B.Bank.history c.survey_bank.new.bank)) c.in-Some.survey.table has c.in-Nobody.ensures
    (g.B.Bank.panel c.bring_up.new.bank) (g.B.Bank.history c.bring_up.new.bank) (Err c.in-Err-Down.field-0) c.in-Err-Down.ensures.brings
    (λ honest. g.met.B.Bank.true_to _ (c.bring_up.ensures.honest.0 (c.survey_bank.ensures.honest.0 honest))) c.in-Err-Down.slot
    (ap Err c.in-Err-Down.field-0-is) in
    assembled_without spellings (g.B.Bank.honest c.args.bank.now) (g.B.Bank.honest c.bring_up.new.bank)
    (λ honest. c.bring_up.ensures.honest.0 (c.survey_bank.ensures.honest.0 honest)) c.args.id.now
    (bank_view (g.B.Bank.panel c.args.bank.now) (g.B.Bank.history c.args.bank.now))
    (bank_view (g.B.Bank.panel c.survey_bank.new.bank) (g.B.Bank.history c.survey_bank.new.bank))
    (bank_view (g.B.Bank.panel c.bring_up.new.bank) (g.B.Bank.history c.bring_up.new.bank)) c.in-Some.survey.table c.in-Err-Down.slot failure
    (g.B.Bank.panel c.mark_slot.new.bank) c.mark_slot.new.table (g.B.Bank.history c.mark_slot.new.bank) (Ok c.in-Ok-mark_slot.field-0)
    c.in-Ok-mark_slot.ensures.marks (λ honest. g.met.B.Bank.true_to _
    (c.mark_slot.ensures.honest.0 (c.bring_up.ensures.honest.0 (c.survey_bank.ensures.honest.0 honest)))) refl

pub returns-in-Ok-mark_slot-clause-its_slots : goal.returns-in-Ok-mark_slot-clause-its_slots
returns-in-Ok-mark_slot-clause-its_slots g c = (returns-in-Ok-mark_slot-clause-puts g c).assembles.its_slots _ refl

pub returns-in-Err-clause-puts : goal.returns-in-Err-clause-puts
returns-in-Err-clause-puts g c =
    let has = (has_surveyed (g.B.Bank.honest c.args.bank.now) c.args.id.now (bank_view (g.B.Bank.panel c.args.bank.now) (g.B.Bank.history c.args.bank.now))
    (bank_view (g.B.Bank.panel c.survey_bank.new.bank) (g.B.Bank.history c.survey_bank.new.bank)) (Ok c.in_ok-survey.field-0) c.in-Some.survey
    c.in_ok-survey.ensures.surveyed (ap Ok c.in-Some.is)) in
    let failure = marks_failed spellings (g.B.Bank.honest c.args.bank.now) (g.B.Bank.honest c.survey_bank.new.bank)
    (λ honest. c.survey_bank.ensures.honest.0 honest) c.args.id.now (bank_view (g.B.Bank.panel c.args.bank.now) (g.B.Bank.history c.args.bank.now))
    (bank_view (g.B.Bank.panel c.survey_bank.new.bank) (g.B.Bank.history c.survey_bank.new.bank)) c.in-Some.survey.table has c.in-Nobody.ensures
    (g.B.Bank.panel c.bring_up.new.bank) (g.B.Bank.history c.bring_up.new.bank) (Err c.in-Err-Down.field-0) c.in-Err-Down.ensures.brings
    (λ honest. g.met.B.Bank.true_to _ (c.bring_up.ensures.honest.0 (c.survey_bank.ensures.honest.0 honest))) c.in-Err-Down.slot
    (ap Err c.in-Err-Down.field-0-is) in
    not_assembled spellings (g.B.Bank.honest c.args.bank.now) (g.B.Bank.honest c.bring_up.new.bank)
    (λ honest. c.bring_up.ensures.honest.0 (c.survey_bank.ensures.honest.0 honest)) c.args.id.now
    (bank_view (g.B.Bank.panel c.args.bank.now) (g.B.Bank.history c.args.bank.now))
    (bank_view (g.B.Bank.panel c.survey_bank.new.bank) (g.B.Bank.history c.survey_bank.new.bank))
    (bank_view (g.B.Bank.panel c.bring_up.new.bank) (g.B.Bank.history c.bring_up.new.bank)) c.in-Some.survey.table c.in-Err-Down.slot failure
    (g.B.Bank.panel c.mark_slot.new.bank) c.mark_slot.new.table (g.B.Bank.history c.mark_slot.new.bank) (Err c.in-Err.refusal) c.in-Err.refusal
    c.in-Err.ensures.marks (λ honest. g.met.B.Bank.true_to _
    (c.mark_slot.ensures.honest.0 (c.bring_up.ensures.honest.0 (c.survey_bank.ensures.honest.0 honest)))) refl

pub returns-in-Ok-mark_slot-2-clause-puts : goal.returns-in-Ok-mark_slot-2-clause-puts
returns-in-Ok-mark_slot-2-clause-puts g c =
    let has = (has_surveyed (g.B.Bank.honest c.args.bank.now) c.args.id.now (bank_view (g.B.Bank.panel c.args.bank.now) (g.B.Bank.history c.args.bank.now))
    (bank_view (g.B.Bank.panel c.survey_bank.new.bank) (g.B.Bank.history c.survey_bank.new.bank)) (Ok c.in_ok-survey.field-0) c.in-Some.survey
    c.in_ok-survey.ensures.surveyed (ap Ok c.in-Some.is)) in
    let later = marks_one spellings (g.B.Bank.honest c.args.bank.now) (g.B.Bank.honest c.survey_bank.new.bank) (λ honest. c.survey_bank.ensures.honest.0 honest)
    c.args.id.now (bank_view (g.B.Bank.panel c.args.bank.now) (g.B.Bank.history c.args.bank.now))
    (bank_view (g.B.Bank.panel c.survey_bank.new.bank) (g.B.Bank.history c.survey_bank.new.bank)) c.in-Some.survey.table c.in-One.slot has
    c.in-One.ensures in
    assembled_without spellings (g.B.Bank.honest c.args.bank.now) (g.B.Bank.honest c.survey_bank.new.bank) (λ honest. c.survey_bank.ensures.honest.0 honest)
    c.args.id.now (bank_view (g.B.Bank.panel c.args.bank.now) (g.B.Bank.history c.args.bank.now))
    (bank_view (g.B.Bank.panel c.survey_bank.new.bank) (g.B.Bank.history c.survey_bank.new.bank))
    (bank_view (g.B.Bank.panel c.survey_bank.new.bank) (g.B.Bank.history c.survey_bank.new.bank)) c.in-Some.survey.table c.in-One.slot later
    (g.B.Bank.panel c.mark_slot-in-One.new.bank) c.mark_slot-in-One.new.table (g.B.Bank.history c.mark_slot-in-One.new.bank) (Ok c.in-Ok-mark_slot-2.field-0)
    c.in-Ok-mark_slot-2.ensures.marks (λ honest. g.met.B.Bank.true_to _ (c.mark_slot-in-One.ensures.honest.0 (c.survey_bank.ensures.honest.0 honest))) refl

pub returns-in-Ok-mark_slot-2-clause-its_slots : goal.returns-in-Ok-mark_slot-2-clause-its_slots
returns-in-Ok-mark_slot-2-clause-its_slots g c = (returns-in-Ok-mark_slot-2-clause-puts g c).assembles.its_slots _ refl

pub returns-in-Err-mark_slot-clause-puts : goal.returns-in-Err-mark_slot-clause-puts
returns-in-Err-mark_slot-clause-puts g c =
    let has = (has_surveyed (g.B.Bank.honest c.args.bank.now) c.args.id.now (bank_view (g.B.Bank.panel c.args.bank.now) (g.B.Bank.history c.args.bank.now))
    (bank_view (g.B.Bank.panel c.survey_bank.new.bank) (g.B.Bank.history c.survey_bank.new.bank)) (Ok c.in_ok-survey.field-0) c.in-Some.survey
    c.in_ok-survey.ensures.surveyed (ap Ok c.in-Some.is)) in
    let later = marks_one spellings (g.B.Bank.honest c.args.bank.now) (g.B.Bank.honest c.survey_bank.new.bank) (λ honest. c.survey_bank.ensures.honest.0 honest)
    c.args.id.now (bank_view (g.B.Bank.panel c.args.bank.now) (g.B.Bank.history c.args.bank.now))
    (bank_view (g.B.Bank.panel c.survey_bank.new.bank) (g.B.Bank.history c.survey_bank.new.bank)) c.in-Some.survey.table c.in-One.slot has
    c.in-One.ensures in
    not_assembled spellings (g.B.Bank.honest c.args.bank.now) (g.B.Bank.honest c.survey_bank.new.bank) (λ honest. c.survey_bank.ensures.honest.0 honest)
    c.args.id.now (bank_view (g.B.Bank.panel c.args.bank.now) (g.B.Bank.history c.args.bank.now))
    (bank_view (g.B.Bank.panel c.survey_bank.new.bank) (g.B.Bank.history c.survey_bank.new.bank))
    (bank_view (g.B.Bank.panel c.survey_bank.new.bank) (g.B.Bank.history c.survey_bank.new.bank)) c.in-Some.survey.table c.in-One.slot later
    (g.B.Bank.panel c.mark_slot-in-One.new.bank) c.mark_slot-in-One.new.table (g.B.Bank.history c.mark_slot-in-One.new.bank) (Err c.in-Err-mark_slot.refusal)
    c.in-Err-mark_slot.refusal
    c.in-Err-mark_slot.ensures.marks (λ honest. g.met.B.Bank.true_to _ (c.mark_slot-in-One.ensures.honest.0 (c.survey_bank.ensures.honest.0 honest))) refl

pub returns-in-Two-clause-puts : goal.returns-in-Two-clause-puts
returns-in-Two-clause-puts g c =
    let has = (has_surveyed (g.B.Bank.honest c.args.bank.now) c.args.id.now (bank_view (g.B.Bank.panel c.args.bank.now) (g.B.Bank.history c.args.bank.now))
    (bank_view (g.B.Bank.panel c.survey_bank.new.bank) (g.B.Bank.history c.survey_bank.new.bank)) (Ok c.in_ok-survey.field-0) c.in-Some.survey
    c.in_ok-survey.ensures.surveyed (ap Ok c.in-Some.is)) in
    assembled_two spellings (g.B.Bank.honest c.args.bank.now) (g.B.Bank.honest c.survey_bank.new.bank) (λ honest. c.survey_bank.ensures.honest.0 honest)
    c.args.id.now (bank_view (g.B.Bank.panel c.args.bank.now) (g.B.Bank.history c.args.bank.now))
    (bank_view (g.B.Bank.panel c.survey_bank.new.bank) (g.B.Bank.history c.survey_bank.new.bank)) c.in-Some.survey.table c.in-Two.field-0 c.in-Two.field-1
    has c.in-Two.ensures

pub returns-in_err-survey-clause-honest : goal.returns-in_err-survey-clause-honest
returns-in_err-survey-clause-honest g c = c.survey_bank.ensures.honest

pub returns-in_default-clause-honest : goal.returns-in_default-clause-honest
returns-in_default-clause-honest g c = c.survey_bank.ensures.honest

pub returns-in-Two-clause-honest : goal.returns-in-Two-clause-honest
returns-in-Two-clause-honest g c = c.survey_bank.ensures.honest

pub returns-in-Ok-clause-honest : goal.returns-in-Ok-clause-honest
returns-in-Ok-clause-honest g c = (
  λ honest. c.bring_up.ensures.honest.0 (c.survey_bank.ensures.honest.0 honest),
  λ honest. c.survey_bank.ensures.honest.1 (c.bring_up.ensures.honest.1 honest),
)

pub returns-in-Err-Worn-clause-honest : goal.returns-in-Err-Worn-clause-honest
returns-in-Err-Worn-clause-honest g c = (
  λ honest. c.bring_up.ensures.honest.0 (c.survey_bank.ensures.honest.0 honest),
  λ honest. c.survey_bank.ensures.honest.1 (c.bring_up.ensures.honest.1 honest),
)

pub returns-in-Ok-mark_slot-clause-honest : goal.returns-in-Ok-mark_slot-clause-honest
returns-in-Ok-mark_slot-clause-honest g c = (
  λ honest. c.mark_slot.ensures.honest.0 (c.bring_up.ensures.honest.0 (c.survey_bank.ensures.honest.0 honest)),
  λ honest. c.survey_bank.ensures.honest.1 (c.bring_up.ensures.honest.1 (c.mark_slot.ensures.honest.1 honest)),
)

pub returns-in-Err-clause-honest : goal.returns-in-Err-clause-honest
returns-in-Err-clause-honest g c = (
  λ honest. c.mark_slot.ensures.honest.0 (c.bring_up.ensures.honest.0 (c.survey_bank.ensures.honest.0 honest)),
  λ honest. c.survey_bank.ensures.honest.1 (c.bring_up.ensures.honest.1 (c.mark_slot.ensures.honest.1 honest)),
)

pub returns-in-Ok-mark_slot-2-clause-honest : goal.returns-in-Ok-mark_slot-2-clause-honest
returns-in-Ok-mark_slot-2-clause-honest g c = (
  λ honest. c.mark_slot-in-One.ensures.honest.0 (c.survey_bank.ensures.honest.0 honest),
  λ honest. c.survey_bank.ensures.honest.1 (c.mark_slot-in-One.ensures.honest.1 honest),
)

pub returns-in-Err-mark_slot-clause-honest : goal.returns-in-Err-mark_slot-clause-honest
returns-in-Err-mark_slot-clause-honest g c = (
  λ honest. c.mark_slot-in-One.ensures.honest.0 (c.survey_bank.ensures.honest.0 honest),
  λ honest. c.survey_bank.ensures.honest.1 (c.mark_slot-in-One.ensures.honest.1 honest),
)

pub returns-in-Ok-clause-its_slots : goal.returns-in-Ok-clause-its_slots
returns-in-Ok-clause-its_slots g c = (returns-in-Ok-clause-puts g c).assembles.its_slots _ refl

pub returns-in_err-survey-clause-its_slots : goal.returns-in_err-survey-clause-its_slots
returns-in_err-survey-clause-its_slots g c = rw (err_from_is_err_and c.from_residual.result c.from_residual.ensures.1).1 tt

pub returns-in_default-clause-its_slots : goal.returns-in_default-clause-its_slots
returns-in_default-clause-its_slots g c = tt

pub returns-in-Err-Worn-clause-its_slots : goal.returns-in-Err-Worn-clause-its_slots
returns-in-Err-Worn-clause-its_slots g c = tt

pub returns-in-Err-clause-its_slots : goal.returns-in-Err-clause-its_slots
returns-in-Err-clause-its_slots g c = tt

pub returns-in-Err-mark_slot-clause-its_slots : goal.returns-in-Err-mark_slot-clause-its_slots
returns-in-Err-mark_slot-clause-its_slots g c = tt

pub returns-in-Two-clause-its_slots : goal.returns-in-Two-clause-its_slots
returns-in-Two-clause-its_slots g c = tt

pub missing_slots-requires : goal.missing_slots-requires
missing_slots-requires g c = record {
  surveyed = surveyed_then _ _ _ _ _ _ _ c.survey_bank.ensures.honest.1 c.in_ok-survey.ensures.surveyed (ap Ok c.in-Some.is);
}

pub bring_up-requires : goal.bring_up-requires
bring_up-requires g c =
    can_bring (g.B.Bank.honest c.survey_bank.new.bank) (bank_view (g.B.Bank.panel c.survey_bank.new.bank) (g.B.Bank.history c.survey_bank.new.bank))
    c.in-Some.survey.table
    (c.in_ok-survey.ensures.surveyed.has_slots c.in-Some.survey (ap Ok c.in-Some.is)) c.in-Nobody.ensures

pub mark_slot-requires-clause-others : goal.mark_slot-requires-clause-others
mark_slot-requires-clause-others g c =
    but_one c.in-Err-Down.slot c.in-Some.survey.table (g.B.Bank.panel c.bring_up.new.bank)
    (its_slots_later c.in-Some.survey.table (g.B.Bank.panel c.survey_bank.new.bank) (g.B.Bank.panel c.bring_up.new.bank) c.bring_up.ensures.brings.brings.later
    record {
      of_bank = c.in_ok-survey.ensures.surveyed.has_slots c.in-Some.survey (ap Ok c.in-Some.is);
      fit = λ slot of_set there _. (c.in-Nobody.ensures slot of_set there).long_enough;
    })

pub mark_slot-requires-in-One-clause-of_set : goal.mark_slot-requires-in-One-clause-of_set
mark_slot-requires-in-One-clause-of_set g c = c.in-One.ensures.0.of_set

pub mark_slot-requires-in-One-clause-others : goal.mark_slot-requires-in-One-clause-others
mark_slot-requires-in-One-clause-others g c = record {
  of_bank = c.in_ok-survey.ensures.surveyed.has_slots c.in-Some.survey (ap Ok c.in-Some.is);
  fit = λ other of_set apart _ _. (c.in-One.ensures.1 other of_set apart).1.long_enough;
}
