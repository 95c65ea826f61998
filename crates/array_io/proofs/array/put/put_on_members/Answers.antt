use Rattle.std.proofs.Common.{◌≡◌, Err, Ok, ◌+◌, ℕ, List, refl, ◌∙◌, ap, subst, arith}
use Rattle.std.proofs.lemmas.Result.{err_from_is_err_and}
use Rattle.sector_model.specs.History.{Bytes}
use Rattle.layout_map.specs.declared.geometry.Geometry.{Geometry}
use Rattle.stripe_journal.specs.Entries.{body_of}
use Rattle.array_io.specs.declared.array.put.Part.TheVariants as part
use Rattle.array_io.specs.Believed.OpenArray.{array_on}
use Rattle.array_io.specs.Steps.Putting.{HoldsAll, IfSingleFailure, IsPut, IsPutBefore}
use Rattle.array_io.specs.Steps.PuttingSteps.{StepsPart}
use Rattle.array_io.proofs.Calls.CallSteps.{steps_more}
use Rattle.array_io.proofs.Commits.PutAtRest.{all_put}
use Rattle.array_io.proofs.Commits.PuttingSteps.{brings_both, brings_refused, brings_same}
use Rattle.array_io.proofs.Images.Codecs.{spellings}
use Rattle.array_io.proofs.Marks.MarkingRests.{whole_readable}
use Rattle.array_io.proofs.array.put.put_on_members.Goals as goal

pub loop-member-init : goal.loop-member-init
loop-member-init g c = record {
  most = omega arith;
  honest = λ fair. fair;
  still = λ fair. fair;
  its_slots = c.requires.its_slots;
  geometry = refl;
  steps = λ number. brings_same (g.B.Bank.honest c.args.bank.now) (IsPutBefore 0 c.args.seal.now (body_of c.args.table.now.geometry.members c.args.entry.now))
      (IsPutBefore 0 c.args.seal.now (body_of c.args.table.now.geometry.members c.args.entry.now)) number c.args.table.now (g.B.Bank.panel c.args.bank.now)
      (g.B.Bank.history c.args.bank.now)
      (λ from loss is. (is.writes, is));
}

pub returns-in_err-part_or_fail_slot-clause-steps : goal.returns-in_err-part_or_fail_slot-clause-steps
returns-in_err-part_or_fail_slot-clause-steps g c =
    let p = err_from_is_err_and c.from_residual.result c.from_residual.ensures.1 in
    rw (p.1, p.2) (λ number. brings_refused (g.B.Bank.honest c.args.bank.now)
    (IsPutBefore 0 c.args.seal.now (body_of c.args.table.now.geometry.members c.args.entry.now))
    (IsPutBefore (c.loop-member.member + 1) c.args.seal.now (body_of c.args.table.now.geometry.members c.args.entry.now)) (IsPut c.args.seal.now.number)
    (array_on g.B.Bank c.args.bank.now c.args.table.now number) (array_on g.B.Bank c.part_or_fail_slot.new.bank c.part_or_fail_slot.new.table number)
    c.in_err-part_or_fail_slot.field-0.0
    (brings_both (g.B.Bank.honest c.args.bank.now) (g.B.Bank.honest c.loop-member.bank) (λ fair. c.loop-member.invariant.honest fair)
    (IsPutBefore 0 c.args.seal.now (body_of c.args.table.now.geometry.members c.args.entry.now))
    (IsPutBefore c.loop-member.member c.args.seal.now (body_of c.args.table.now.geometry.members c.args.entry.now))
    (IsPutBefore (c.loop-member.member + 1) c.args.seal.now (body_of c.args.table.now.geometry.members c.args.entry.now))
    (array_on g.B.Bank c.args.bank.now c.args.table.now number) (array_on g.B.Bank c.loop-member.bank c.loop-member.table number)
    (array_on g.B.Bank c.part_or_fail_slot.new.bank c.part_or_fail_slot.new.table number) (Err c.in_err-part_or_fail_slot.field-0.0)
    (c.loop-member.invariant.steps number)
    (subst (λ (b : List Bytes). StepsPart (g.B.Bank.honest c.loop-member.bank) part.Rows c.args.seal.now b c.loop-member.member
    (array_on g.B.Bank c.loop-member.bank c.loop-member.table number) (array_on g.B.Bank c.part_or_fail_slot.new.bank c.part_or_fail_slot.new.table number)
    (Err c.in_err-part_or_fail_slot.field-0.0))
    (ap (λ (s : Geometry). body_of s.members c.args.entry.now) c.loop-member.invariant.geometry) (c.in_err-part_or_fail_slot.ensures.step number))))

pub loop-member-preserved : goal.loop-member-preserved
loop-member-preserved g c = record {
  most = omega (arith, c.loop-member-test.true);
  honest = λ fair. c.part_or_fail_slot.ensures.honest.0 (c.loop-member.invariant.honest fair);
  still = λ fair. c.loop-member.invariant.still (c.part_or_fail_slot.ensures.honest.1 fair);
  its_slots = c.part_or_fail_slot.ensures.its_slots;
  geometry = c.part_or_fail_slot.ensures.geometry ∙ c.loop-member.invariant.geometry;
  steps = λ number.
      (brings_both (g.B.Bank.honest c.args.bank.now) (g.B.Bank.honest c.loop-member.bank) (λ fair. c.loop-member.invariant.honest fair)
      (IsPutBefore 0 c.args.seal.now (body_of c.args.table.now.geometry.members c.args.entry.now))
      (IsPutBefore c.loop-member.member c.args.seal.now (body_of c.args.table.now.geometry.members c.args.entry.now))
      (IsPutBefore (c.loop-member.member + 1) c.args.seal.now (body_of c.args.table.now.geometry.members c.args.entry.now))
      (array_on g.B.Bank c.args.bank.now c.args.table.now number) (array_on g.B.Bank c.loop-member.bank c.loop-member.table number)
      (array_on g.B.Bank c.part_or_fail_slot.new.bank c.part_or_fail_slot.new.table number) (Ok tt) (c.loop-member.invariant.steps number)
      (subst (λ (b : List Bytes). StepsPart (g.B.Bank.honest c.loop-member.bank) part.Rows c.args.seal.now b c.loop-member.member
      (array_on g.B.Bank c.loop-member.bank c.loop-member.table number) (array_on g.B.Bank c.part_or_fail_slot.new.bank c.part_or_fail_slot.new.table number)
      (Ok tt))
      (ap (λ (s : Geometry). body_of s.members c.args.entry.now) c.loop-member.invariant.geometry) (c.in_ok-part_or_fail_slot.ensures.step number)));
}

pub returns-clause-steps : goal.returns-clause-steps
returns-clause-steps g c = λ number.
    let same : c.loop-member.table.geometry.members ≡ c.args.table.now.geometry.members = ap (λ (s : Geometry). s.members) c.loop-member.invariant.geometry in
    let all : c.loop-member.member ≡ c.loop-member.table.geometry.members = omega (arith, same, c.loop-member.invariant.most, c.loop-member-test.false) in
    steps_more (g.B.Bank.honest c.args.bank.now) HoldsAll
    (IfSingleFailure (IsPutBefore 0 c.args.seal.now (body_of c.args.table.now.geometry.members c.args.entry.now)))
    (IfSingleFailure (IsPutBefore 0 c.args.seal.now (body_of c.args.table.now.geometry.members c.args.entry.now)))
    (IfSingleFailure (IsPutBefore c.loop-member.member c.args.seal.now (body_of c.args.table.now.geometry.members c.args.entry.now)))
    (IfSingleFailure (IsPut c.args.seal.now.number)) (array_on g.B.Bank c.args.bank.now c.args.table.now number)
    (array_on g.B.Bank c.loop-member.bank c.loop-member.table number) (Ok tt)
    (λ from at. at)
    (λ fair ok from at put loss. all_put spellings c.args.seal.now (body_of c.args.table.now.geometry.members c.args.entry.now) from c.loop-member.table
    (g.B.Bank.history c.loop-member.bank)
    (subst (λ (n : ℕ). IsPutBefore n c.args.seal.now (body_of c.args.table.now.geometry.members c.args.entry.now) from c.loop-member.table
    (g.B.Bank.history c.loop-member.bank)) all (put loss)) loss
    (whole_readable (g.B.Bank.panel c.loop-member.bank) (g.B.Bank.history c.loop-member.bank) (g.met.B.Bank.true_to _ (c.loop-member.invariant.honest fair))))
    (c.loop-member.invariant.steps number)
