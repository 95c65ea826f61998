use Rattle.std.proofs.Common.{inl, inr, ℕ, ◌<◌, Err, refl, sym, subst}
use Rattle.std.proofs.lemmas.Result.{err_from_is_err_and}
use Rattle.sector_model.specs.declared.sector.Stop.{Stop}
use Rattle.degraded.specs.LiveView.{slots_of}
use Rattle.degraded.specs.ReadMember.{ReadsMember}
use Rattle.array_io.proofs.Calls.DeviceSteps.{its_slots_later}
use Rattle.array_io.proofs.Reading.LiveRows.{can_read}
use Rattle.array_io.proofs.Marks.MarkMissing.{but_one, its_slots_stay}
use Rattle.array_io.proofs.Reading.ReadValue.{failure_marked, failed_counted, marks_as, read_worn, value_read}
use Rattle.array_io.proofs.array.read.value_or_fail_slot.Goals as goal

pub mark_slot-requires-clause-of_set : goal.mark_slot-requires-clause-of_set
mark_slot-requires-clause-of_set g c =
    let is = subst (λ (s : Stop). ReadsMember (g.B.Bank.honest c.args.bank.now) (slots_of c.live_of.result) c.args.member c.args.row
    (g.B.Bank.panel c.args.bank.now) (g.B.Bank.panel c.read_member.new.bank)
    (g.B.Bank.history c.args.bank.now) (g.B.Bank.history c.read_member.new.bank) c.read_member.new.to (Err s)) c.in-Err-Down.field-0-is
    c.in-Err-Down.ensures.reads in
    (failed_counted (g.B.Bank.honest c.args.bank.now) c.args.table.now (slots_of c.live_of.result) c.args.member c.args.row (g.B.Bank.panel c.args.bank.now)
    (g.B.Bank.panel c.read_member.new.bank)
    (g.B.Bank.history c.args.bank.now) (g.B.Bank.history c.read_member.new.bank) c.read_member.new.to c.live_of.ensures.members c.live_of.ensures.reads
    c.in-Err-Down.device is).of_set

pub mark_slot-requires-clause-others : goal.mark_slot-requires-clause-others
mark_slot-requires-clause-others g c = but_one c.in-Err-Down.device c.args.table.now (g.B.Bank.panel c.read_member.new.bank)
    (its_slots_later c.args.table.now (g.B.Bank.panel c.args.bank.now) (g.B.Bank.panel c.read_member.new.bank) c.in-Err-Down.ensures.reads.later
    c.requires.its_slots)

pub returns-in_err-mark_slot-in-Err-Down-clause-its_slots : goal.returns-in_err-mark_slot-in-Err-Down-clause-its_slots
returns-in_err-mark_slot-in-Err-Down-clause-its_slots g c =
    let is = subst (λ (s : Stop). ReadsMember (g.B.Bank.honest c.args.bank.now) (slots_of c.live_of.result) c.args.member c.args.row
    (g.B.Bank.panel c.args.bank.now) (g.B.Bank.panel c.read_member.new.bank)
    (g.B.Bank.history c.args.bank.now) (g.B.Bank.history c.read_member.new.bank) c.read_member.new.to (Err s)) c.in-Err-Down.field-0-is
    c.in-Err-Down.ensures.reads in
    its_slots_stay (g.B.Bank.honest c.read_member.new.bank) c.in-Err-Down.device (g.B.Bank.panel c.read_member.new.bank) (g.B.Bank.panel c.mark_slot.new.bank)
    c.args.table.now c.mark_slot.new.table
    (g.B.Bank.history c.read_member.new.bank) (g.B.Bank.history c.mark_slot.new.bank) c.mark_slot.result
    ((failed_counted (g.B.Bank.honest c.args.bank.now) c.args.table.now (slots_of c.live_of.result) c.args.member c.args.row (g.B.Bank.panel c.args.bank.now)
    (g.B.Bank.panel c.read_member.new.bank)
    (g.B.Bank.history c.args.bank.now) (g.B.Bank.history c.read_member.new.bank) c.read_member.new.to c.live_of.ensures.members c.live_of.ensures.reads
    c.in-Err-Down.device is).of_set)
    (its_slots_later c.args.table.now (g.B.Bank.panel c.args.bank.now) (g.B.Bank.panel c.read_member.new.bank) c.in-Err-Down.ensures.reads.later
    c.requires.its_slots) c.mark_slot.ensures.marks

pub returns-in_err-mark_slot-in-Err-Down-clause-reads : goal.returns-in_err-mark_slot-in-Err-Down-clause-reads
returns-in_err-mark_slot-in-Err-Down-clause-reads g c =
    let p = err_from_is_err_and c.from_residual.result c.from_residual.ensures.1 in
    let is = subst (λ (s : Stop). ReadsMember (g.B.Bank.honest c.args.bank.now) (slots_of c.live_of.result) c.args.member c.args.row
    (g.B.Bank.panel c.args.bank.now) (g.B.Bank.panel c.read_member.new.bank)
    (g.B.Bank.history c.args.bank.now) (g.B.Bank.history c.read_member.new.bank) c.read_member.new.to (Err s)) c.in-Err-Down.field-0-is
    c.in-Err-Down.ensures.reads in
    rw (p.1, p.2) (inr (inr (inl (
      _,
      refl,
      failure_marked (g.B.Bank.honest c.args.bank.now) c.args.table.now (slots_of c.live_of.result) c.args.member c.args.row (g.B.Bank.panel c.args.bank.now)
          (g.B.Bank.panel c.read_member.new.bank)
          (g.B.Bank.history c.args.bank.now) (g.B.Bank.history c.read_member.new.bank) c.read_member.new.to c.live_of.ensures.members c.live_of.ensures.reads
          c.in-Err-Down.device is
          c.mark_slot.new.table (g.B.Bank.panel c.mark_slot.new.bank) (g.B.Bank.history c.mark_slot.new.bank) _
          (λ fair. g.met.B.Bank.true_to _ (c.read_member.ensures.honest.0 fair))
          (marks_as c.in-Err-Down.device (g.B.Bank.panel c.read_member.new.bank) (g.B.Bank.panel c.mark_slot.new.bank) c.args.table.now c.mark_slot.new.table
          (g.B.Bank.history c.read_member.new.bank) (g.B.Bank.history c.mark_slot.new.bank) _ (λ fair. c.read_member.ensures.honest.0 fair)
          c.in_err-mark_slot-in-Err-Down.ensures.marks),
    ))))

pub returns-in-Ok-clause-reads : goal.returns-in-Ok-clause-reads
returns-in-Ok-clause-reads g c = inl (
  refl,
  refl,
  value_read (g.B.Bank.honest c.args.bank.now) c.args.table.now (slots_of c.live_of.result) c.args.member c.args.row (g.B.Bank.panel c.args.bank.now)
      (g.B.Bank.panel c.read_member.new.bank)
      (g.B.Bank.history c.args.bank.now) (g.B.Bank.history c.read_member.new.bank) c.read_member.new.to c.live_of.ensures.members c.live_of.ensures.reads
      c.requires.member c.in-Ok.ensures.reads,
)

pub returns-in-Err-Worn-clause-reads : goal.returns-in-Err-Worn-clause-reads
returns-in-Err-Worn-clause-reads g c =
    let is = subst (λ (s : Stop). ReadsMember (g.B.Bank.honest c.args.bank.now) (slots_of c.live_of.result) c.args.member c.args.row
    (g.B.Bank.panel c.args.bank.now) (g.B.Bank.panel c.read_member.new.bank)
    (g.B.Bank.history c.args.bank.now) (g.B.Bank.history c.read_member.new.bank) c.read_member.new.to (Err s)) c.in-Err-Worn.field-0-is
    c.in-Err-Worn.ensures.reads in
    inr (inr (inr (
      refl,
      refl,
      read_worn (g.B.Bank.honest c.args.bank.now) c.args.table.now (slots_of c.live_of.result) c.args.member c.args.row (g.B.Bank.panel c.args.bank.now)
          (g.B.Bank.panel c.read_member.new.bank)
          (g.B.Bank.history c.args.bank.now) (g.B.Bank.history c.read_member.new.bank) c.read_member.new.to c.live_of.ensures.members c.live_of.ensures.reads
          is,
    )))

pub returns-in_ok-mark_slot-in-Err-Down-clause-its_slots : goal.returns-in_ok-mark_slot-in-Err-Down-clause-its_slots
returns-in_ok-mark_slot-in-Err-Down-clause-its_slots g c =
    let is = subst (λ (s : Stop). ReadsMember (g.B.Bank.honest c.args.bank.now) (slots_of c.live_of.result) c.args.member c.args.row
    (g.B.Bank.panel c.args.bank.now) (g.B.Bank.panel c.read_member.new.bank)
    (g.B.Bank.history c.args.bank.now) (g.B.Bank.history c.read_member.new.bank) c.read_member.new.to (Err s)) c.in-Err-Down.field-0-is
    c.in-Err-Down.ensures.reads in
    its_slots_stay (g.B.Bank.honest c.read_member.new.bank) c.in-Err-Down.device (g.B.Bank.panel c.read_member.new.bank) (g.B.Bank.panel c.mark_slot.new.bank)
    c.args.table.now c.mark_slot.new.table
    (g.B.Bank.history c.read_member.new.bank) (g.B.Bank.history c.mark_slot.new.bank) c.mark_slot.result
    ((failed_counted (g.B.Bank.honest c.args.bank.now) c.args.table.now (slots_of c.live_of.result) c.args.member c.args.row (g.B.Bank.panel c.args.bank.now)
    (g.B.Bank.panel c.read_member.new.bank)
    (g.B.Bank.history c.args.bank.now) (g.B.Bank.history c.read_member.new.bank) c.read_member.new.to c.live_of.ensures.members c.live_of.ensures.reads
    c.in-Err-Down.device is).of_set)
    (its_slots_later c.args.table.now (g.B.Bank.panel c.args.bank.now) (g.B.Bank.panel c.read_member.new.bank) c.in-Err-Down.ensures.reads.later
    c.requires.its_slots) c.mark_slot.ensures.marks

pub returns-in_ok-mark_slot-in-Err-Down-clause-reads : goal.returns-in_ok-mark_slot-in-Err-Down-clause-reads
returns-in_ok-mark_slot-in-Err-Down-clause-reads g c =
    let is = subst (λ (s : Stop). ReadsMember (g.B.Bank.honest c.args.bank.now) (slots_of c.live_of.result) c.args.member c.args.row
    (g.B.Bank.panel c.args.bank.now) (g.B.Bank.panel c.read_member.new.bank)
    (g.B.Bank.history c.args.bank.now) (g.B.Bank.history c.read_member.new.bank) c.read_member.new.to (Err s)) c.in-Err-Down.field-0-is
    c.in-Err-Down.ensures.reads in
    inr (inl (
      refl,
      failure_marked (g.B.Bank.honest c.args.bank.now) c.args.table.now (slots_of c.live_of.result) c.args.member c.args.row (g.B.Bank.panel c.args.bank.now)
          (g.B.Bank.panel c.read_member.new.bank)
          (g.B.Bank.history c.args.bank.now) (g.B.Bank.history c.read_member.new.bank) c.read_member.new.to c.live_of.ensures.members c.live_of.ensures.reads
          c.in-Err-Down.device is
          c.mark_slot.new.table (g.B.Bank.panel c.mark_slot.new.bank) (g.B.Bank.history c.mark_slot.new.bank) _
          (λ fair. g.met.B.Bank.true_to _ (c.read_member.ensures.honest.0 fair))
          (marks_as c.in-Err-Down.device (g.B.Bank.panel c.read_member.new.bank) (g.B.Bank.panel c.mark_slot.new.bank) c.args.table.now c.mark_slot.new.table
          (g.B.Bank.history c.read_member.new.bank) (g.B.Bank.history c.mark_slot.new.bank) _ (λ fair. c.read_member.ensures.honest.0 fair)
          c.in_ok-mark_slot-in-Err-Down.ensures.marks),
    ))

pub read_member-requires-clause-member : goal.read_member-requires-clause-member
read_member-requires-clause-member g c = subst (λ (n : ℕ). c.args.member < n) (sym c.live_of.ensures.members) c.requires.member

pub read_member-requires-clause-can : goal.read_member-requires-clause-can
read_member-requires-clause-can g c = can_read c.args.table.now (slots_of c.live_of.result) c.args.row (g.B.Bank.panel c.args.bank.now) c.requires.its_slots
    c.live_of.ensures.members c.live_of.ensures.there c.live_of.ensures.one_out c.requires.row

pub returns-in_err-mark_slot-in-Err-Down-clause-honest : goal.returns-in_err-mark_slot-in-Err-Down-clause-honest
returns-in_err-mark_slot-in-Err-Down-clause-honest g c = (
  λ fair. c.mark_slot.ensures.honest.0 (c.read_member.ensures.honest.0 fair),
  λ fair. c.read_member.ensures.honest.1 (c.mark_slot.ensures.honest.1 fair),
)

pub returns-in-Ok-clause-honest : goal.returns-in-Ok-clause-honest
returns-in-Ok-clause-honest g c = c.read_member.ensures.honest

pub returns-in-Ok-clause-its_slots : goal.returns-in-Ok-clause-its_slots
returns-in-Ok-clause-its_slots g c = its_slots_later c.args.table.now (g.B.Bank.panel c.args.bank.now) (g.B.Bank.panel c.read_member.new.bank)
    c.in-Ok.ensures.reads.later c.requires.its_slots

pub returns-in-Err-Worn-clause-honest : goal.returns-in-Err-Worn-clause-honest
returns-in-Err-Worn-clause-honest g c = c.read_member.ensures.honest

pub returns-in-Err-Worn-clause-its_slots : goal.returns-in-Err-Worn-clause-its_slots
returns-in-Err-Worn-clause-its_slots g c = its_slots_later c.args.table.now (g.B.Bank.panel c.args.bank.now) (g.B.Bank.panel c.read_member.new.bank)
    c.in-Err-Worn.ensures.reads.later c.requires.its_slots

pub returns-in_ok-mark_slot-in-Err-Down-clause-honest : goal.returns-in_ok-mark_slot-in-Err-Down-clause-honest
returns-in_ok-mark_slot-in-Err-Down-clause-honest g c = (
  λ fair. c.mark_slot.ensures.honest.0 (c.read_member.ensures.honest.0 fair),
  λ fair. c.read_member.ensures.honest.1 (c.mark_slot.ensures.honest.1 fair),
)
