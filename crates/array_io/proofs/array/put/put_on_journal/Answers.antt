use Rattle.std.proofs.Common.{List, ap, subst}
use Rattle.std.proofs.lemmas.Result.{err_from_is_err_and}
use Rattle.sector_model.specs.History.{Bytes}
use Rattle.layout_map.specs.declared.geometry.Geometry.{Geometry}
use Rattle.stripe_journal.specs.Entries.{body_of}
use Rattle.array_io.specs.Believed.OpenArray.{array_on}
use Rattle.array_io.specs.declared.array.put.Part.TheVariants as part
use Rattle.array_io.specs.Steps.Putting.{HasBody, IsComing, reached}
use Rattle.array_io.specs.Steps.PuttingSteps.{StepsPart, sealed_on}
use Rattle.array_io.proofs.Commits.PuttingStates.{reached_here}
use Rattle.array_io.proofs.Commits.PuttingSteps.{brings_both, brings_refused}
use Rattle.array_io.proofs.array.put.put_on_journal.Goals as goal

pub returns-in_err-part_or_fail_slot-clause-steps : goal.returns-in_err-part_or_fail_slot-clause-steps
returns-in_err-part_or_fail_slot-clause-steps g c =
    let p = err_from_is_err_and c.from_residual.result c.from_residual.ensures.1 in
    let body = body_of c.args.table.now.geometry.members c.args.entry.now in
    rw (p.1, p.2) (λ number origin journals awaited. brings_refused (g.B.Bank.honest c.args.bank.now) (IsComing origin c.args.seal.now body journals)
    (IsComing origin c.args.seal.now body (reached journals c.args.journal HasBody))
    (IsComing origin c.args.seal.now body (sealed_on journals c.args.journal)) (array_on g.B.Bank c.args.bank.now c.args.table.now number)
    (array_on g.B.Bank c.part_or_fail_slot.new.bank c.part_or_fail_slot.new.table number) c.in_err-part_or_fail_slot.field-0.0
    (c.in_err-part_or_fail_slot.ensures.step number origin journals awaited))

pub returns-clause-steps : goal.returns-clause-steps
returns-clause-steps g c = λ number origin journals awaited.
    let body = body_of c.args.table.now.geometry.members c.args.entry.now in
    let bodied = reached journals c.args.journal HasBody in
    brings_both (g.B.Bank.honest c.args.bank.now) (g.B.Bank.honest c.part_or_fail_slot.new.bank) (λ fair. c.part_or_fail_slot.ensures.honest.0 fair)
    (IsComing origin c.args.seal.now body journals)
    (IsComing origin c.args.seal.now body bodied) (IsComing origin c.args.seal.now body (sealed_on journals c.args.journal))
    (array_on g.B.Bank c.args.bank.now c.args.table.now number) (array_on g.B.Bank c.part_or_fail_slot.new.bank c.part_or_fail_slot.new.table number)
    (array_on g.B.Bank c.part_or_fail_slot-2.new.bank c.part_or_fail_slot-2.new.table number) c.part_or_fail_slot-2.result
    (c.in_ok-part_or_fail_slot.ensures.step number origin journals awaited)
    (subst (λ (b : List Bytes). StepsPart (g.B.Bank.honest c.part_or_fail_slot.new.bank) part.Seal c.args.seal.now b c.args.journal
    (array_on g.B.Bank c.part_or_fail_slot.new.bank c.part_or_fail_slot.new.table number)
    (array_on g.B.Bank c.part_or_fail_slot-2.new.bank c.part_or_fail_slot-2.new.table number) c.part_or_fail_slot-2.result)
    (ap (λ (s : Geometry). body_of s.members c.args.entry.now) c.part_or_fail_slot.ensures.geometry) (c.part_or_fail_slot-2.ensures.step number) origin bodied
    (reached_here journals c.args.journal HasBody))
