use Rattle.std.proofs.Common.{Err, Ok, ◌+◌, ℕ, List, refl, ◌∙◌, ap, subst}
use Rattle.std.proofs.lemmas.Result.{err_from_is_err_and}
use Rattle.sector_model.specs.History.{Bytes, History}
use Rattle.superblock.specs.declared.table.Table.{Table}
use Rattle.layout_map.specs.declared.geometry.Geometry.{Geometry}
use Rattle.stripe_journal.specs.Entries.{body_of}
use Rattle.array_io.specs.declared.array.put.Part.TheVariants as part
use Rattle.array_io.specs.Believed.OpenArray.{array_on}
use Rattle.array_io.specs.Steps.Putting.{Awaited, HasBody, HasSeal, IsComing, Progress, PutsFrom, reached}
use Rattle.array_io.specs.Steps.PuttingSteps.{StepsPart, both_bodies, both_sealed}
use Rattle.array_io.proofs.Commits.PuttingSteps.{brings_both, brings_refused, first_bodied, second_awaited, second_bodied}
use Rattle.array_io.proofs.array.put.put_on_journals.Goals as goal

pub returns-in_err-part_or_fail_slot-clause-steps : goal.returns-in_err-part_or_fail_slot-clause-steps
returns-in_err-part_or_fail_slot-clause-steps g c =
    let p = err_from_is_err_and c.from_residual.result c.from_residual.ensures.1 in
    let first = c.args.table.now.geometry.members in
    rw (p.1, p.2) (λ number origin.
    let coming : (ℕ → Progress) → PutsFrom → Table → History → Type 0 = IsComing origin c.args.seal.now (body_of first c.args.entry.now) in
    brings_refused (g.B.Bank.honest c.args.bank.now) (coming (λ k. Awaited)) (coming (reached (λ k. Awaited) first HasBody)) (coming (both_sealed first))
    (array_on g.B.Bank c.args.bank.now c.args.table.now number) (array_on g.B.Bank c.part_or_fail_slot.new.bank c.part_or_fail_slot.new.table number)
    c.in_err-part_or_fail_slot.field-0.0
    (c.in_err-part_or_fail_slot.ensures.step number origin (λ k. Awaited) refl))

pub returns-in_err-part_or_fail_slot-2-clause-steps : goal.returns-in_err-part_or_fail_slot-2-clause-steps
returns-in_err-part_or_fail_slot-2-clause-steps g c =
    let p = err_from_is_err_and c.from_residual-in_err-part_or_fail_slot-2.result c.from_residual-in_err-part_or_fail_slot-2.ensures.1 in
    let first = c.args.table.now.geometry.members in
    rw (p.1, p.2) (λ number origin.
    let coming : (ℕ → Progress) → PutsFrom → Table → History → Type 0 = IsComing origin c.args.seal.now (body_of first c.args.entry.now) in
    brings_refused (g.B.Bank.honest c.args.bank.now) (coming (λ k. Awaited)) (coming (both_bodies first)) (coming (both_sealed first))
    (array_on g.B.Bank c.args.bank.now c.args.table.now number) (array_on g.B.Bank c.part_or_fail_slot-2.new.bank c.part_or_fail_slot-2.new.table number)
    c.in_err-part_or_fail_slot-2.field-0.0
    (brings_both (g.B.Bank.honest c.args.bank.now) (g.B.Bank.honest c.part_or_fail_slot.new.bank) (λ fair. (c.part_or_fail_slot.ensures.honest.0 fair))
    (coming (λ k. Awaited)) (coming (reached (λ k. Awaited) first HasBody)) (coming (both_bodies first))
    (array_on g.B.Bank c.args.bank.now c.args.table.now number) (array_on g.B.Bank c.part_or_fail_slot.new.bank c.part_or_fail_slot.new.table number)
    (array_on g.B.Bank c.part_or_fail_slot-2.new.bank c.part_or_fail_slot-2.new.table number) (Err c.in_err-part_or_fail_slot-2.field-0.0)
    (c.in_ok-part_or_fail_slot.ensures.step number origin (λ k. Awaited) refl)
    (subst (λ (b : List Bytes). StepsPart (g.B.Bank.honest c.part_or_fail_slot.new.bank) part.Body c.args.seal.now b (first + 1)
    (array_on g.B.Bank c.part_or_fail_slot.new.bank c.part_or_fail_slot.new.table number)
    (array_on g.B.Bank c.part_or_fail_slot-2.new.bank c.part_or_fail_slot-2.new.table number) (Err c.in_err-part_or_fail_slot-2.field-0.0))
    (ap (λ (s : Geometry). body_of s.members c.args.entry.now) (c.part_or_fail_slot.ensures.geometry)) (c.in_err-part_or_fail_slot-2.ensures.step number) origin
    (reached (λ k. Awaited) first HasBody) (second_awaited first))))

pub returns-in_err-part_or_fail_slot-3-clause-steps : goal.returns-in_err-part_or_fail_slot-3-clause-steps
returns-in_err-part_or_fail_slot-3-clause-steps g c =
    let p = err_from_is_err_and c.from_residual-in_err-part_or_fail_slot-3.result c.from_residual-in_err-part_or_fail_slot-3.ensures.1 in
    let first = c.args.table.now.geometry.members in
    rw (p.1, p.2) (λ number origin.
    let coming : (ℕ → Progress) → PutsFrom → Table → History → Type 0 = IsComing origin c.args.seal.now (body_of first c.args.entry.now) in
    brings_refused (g.B.Bank.honest c.args.bank.now) (coming (λ k. Awaited)) (coming (reached (both_bodies first) first HasSeal)) (coming (both_sealed first))
    (array_on g.B.Bank c.args.bank.now c.args.table.now number) (array_on g.B.Bank c.part_or_fail_slot-3.new.bank c.part_or_fail_slot-3.new.table number)
    c.in_err-part_or_fail_slot-3.field-0.0
    (brings_both (g.B.Bank.honest c.args.bank.now) (g.B.Bank.honest c.part_or_fail_slot-2.new.bank)
    (λ fair. (c.part_or_fail_slot-2.ensures.honest.0 (c.part_or_fail_slot.ensures.honest.0 fair))) (coming (λ k. Awaited)) (coming (both_bodies first))
    (coming (reached (both_bodies first) first HasSeal)) (array_on g.B.Bank c.args.bank.now c.args.table.now number)
    (array_on g.B.Bank c.part_or_fail_slot-2.new.bank c.part_or_fail_slot-2.new.table number)
    (array_on g.B.Bank c.part_or_fail_slot-3.new.bank c.part_or_fail_slot-3.new.table number) (Err c.in_err-part_or_fail_slot-3.field-0.0)
    (brings_both (g.B.Bank.honest c.args.bank.now) (g.B.Bank.honest c.part_or_fail_slot.new.bank) (λ fair. (c.part_or_fail_slot.ensures.honest.0 fair))
    (coming (λ k. Awaited)) (coming (reached (λ k. Awaited) first HasBody)) (coming (both_bodies first))
    (array_on g.B.Bank c.args.bank.now c.args.table.now number) (array_on g.B.Bank c.part_or_fail_slot.new.bank c.part_or_fail_slot.new.table number)
    (array_on g.B.Bank c.part_or_fail_slot-2.new.bank c.part_or_fail_slot-2.new.table number) (Ok tt)
    (c.in_ok-part_or_fail_slot.ensures.step number origin (λ k. Awaited) refl)
    (subst (λ (b : List Bytes). StepsPart (g.B.Bank.honest c.part_or_fail_slot.new.bank) part.Body c.args.seal.now b (first + 1)
    (array_on g.B.Bank c.part_or_fail_slot.new.bank c.part_or_fail_slot.new.table number)
    (array_on g.B.Bank c.part_or_fail_slot-2.new.bank c.part_or_fail_slot-2.new.table number) (Ok tt))
    (ap (λ (s : Geometry). body_of s.members c.args.entry.now) (c.part_or_fail_slot.ensures.geometry)) (c.in_ok-part_or_fail_slot-2.ensures.step number) origin
    (reached (λ k. Awaited) first HasBody) (second_awaited first)))
    (subst (λ (b : List Bytes). StepsPart (g.B.Bank.honest c.part_or_fail_slot-2.new.bank) part.Seal c.args.seal.now b first
    (array_on g.B.Bank c.part_or_fail_slot-2.new.bank c.part_or_fail_slot-2.new.table number)
    (array_on g.B.Bank c.part_or_fail_slot-3.new.bank c.part_or_fail_slot-3.new.table number) (Err c.in_err-part_or_fail_slot-3.field-0.0))
    (ap (λ (s : Geometry). body_of s.members c.args.entry.now) (c.part_or_fail_slot-2.ensures.geometry ∙ c.part_or_fail_slot.ensures.geometry))
    (c.in_err-part_or_fail_slot-3.ensures.step number) origin (both_bodies first) (first_bodied first))))

pub returns-clause-steps : goal.returns-clause-steps
returns-clause-steps g c = λ number origin.
    let first = c.args.table.now.geometry.members in
    let coming : (ℕ → Progress) → PutsFrom → Table → History → Type 0 = IsComing origin c.args.seal.now (body_of first c.args.entry.now) in
    (brings_both (g.B.Bank.honest c.args.bank.now) (g.B.Bank.honest c.part_or_fail_slot-3.new.bank)
    (λ fair. (c.part_or_fail_slot-3.ensures.honest.0 (c.part_or_fail_slot-2.ensures.honest.0 (c.part_or_fail_slot.ensures.honest.0 fair))))
    (coming (λ k. Awaited)) (coming (reached (both_bodies first) first HasSeal)) (coming (both_sealed first))
    (array_on g.B.Bank c.args.bank.now c.args.table.now number) (array_on g.B.Bank c.part_or_fail_slot-3.new.bank c.part_or_fail_slot-3.new.table number)
    (array_on g.B.Bank c.part_or_fail_slot-4.new.bank c.part_or_fail_slot-4.new.table number) c.part_or_fail_slot-4.result
    (brings_both (g.B.Bank.honest c.args.bank.now) (g.B.Bank.honest c.part_or_fail_slot-2.new.bank)
    (λ fair. (c.part_or_fail_slot-2.ensures.honest.0 (c.part_or_fail_slot.ensures.honest.0 fair))) (coming (λ k. Awaited)) (coming (both_bodies first))
    (coming (reached (both_bodies first) first HasSeal)) (array_on g.B.Bank c.args.bank.now c.args.table.now number)
    (array_on g.B.Bank c.part_or_fail_slot-2.new.bank c.part_or_fail_slot-2.new.table number)
    (array_on g.B.Bank c.part_or_fail_slot-3.new.bank c.part_or_fail_slot-3.new.table number) (Ok tt)
    (brings_both (g.B.Bank.honest c.args.bank.now) (g.B.Bank.honest c.part_or_fail_slot.new.bank) (λ fair. (c.part_or_fail_slot.ensures.honest.0 fair))
    (coming (λ k. Awaited)) (coming (reached (λ k. Awaited) first HasBody)) (coming (both_bodies first))
    (array_on g.B.Bank c.args.bank.now c.args.table.now number) (array_on g.B.Bank c.part_or_fail_slot.new.bank c.part_or_fail_slot.new.table number)
    (array_on g.B.Bank c.part_or_fail_slot-2.new.bank c.part_or_fail_slot-2.new.table number) (Ok tt)
    (c.in_ok-part_or_fail_slot.ensures.step number origin (λ k. Awaited) refl)
    (subst (λ (b : List Bytes). StepsPart (g.B.Bank.honest c.part_or_fail_slot.new.bank) part.Body c.args.seal.now b (first + 1)
    (array_on g.B.Bank c.part_or_fail_slot.new.bank c.part_or_fail_slot.new.table number)
    (array_on g.B.Bank c.part_or_fail_slot-2.new.bank c.part_or_fail_slot-2.new.table number) (Ok tt))
    (ap (λ (s : Geometry). body_of s.members c.args.entry.now) (c.part_or_fail_slot.ensures.geometry)) (c.in_ok-part_or_fail_slot-2.ensures.step number) origin
    (reached (λ k. Awaited) first HasBody) (second_awaited first)))
    (subst (λ (b : List Bytes). StepsPart (g.B.Bank.honest c.part_or_fail_slot-2.new.bank) part.Seal c.args.seal.now b first
    (array_on g.B.Bank c.part_or_fail_slot-2.new.bank c.part_or_fail_slot-2.new.table number)
    (array_on g.B.Bank c.part_or_fail_slot-3.new.bank c.part_or_fail_slot-3.new.table number) (Ok tt))
    (ap (λ (s : Geometry). body_of s.members c.args.entry.now) (c.part_or_fail_slot-2.ensures.geometry ∙ c.part_or_fail_slot.ensures.geometry))
    (c.in_ok-part_or_fail_slot-3.ensures.step number) origin (both_bodies first) (first_bodied first)))
    (subst (λ (b : List Bytes). StepsPart (g.B.Bank.honest c.part_or_fail_slot-3.new.bank) part.Seal c.args.seal.now b (first + 1)
    (array_on g.B.Bank c.part_or_fail_slot-3.new.bank c.part_or_fail_slot-3.new.table number)
    (array_on g.B.Bank c.part_or_fail_slot-4.new.bank c.part_or_fail_slot-4.new.table number) c.part_or_fail_slot-4.result)
    (ap (λ (s : Geometry). body_of s.members c.args.entry.now) (c.part_or_fail_slot-3.ensures.geometry ∙ c.part_or_fail_slot-2.ensures.geometry
    ∙ c.part_or_fail_slot.ensures.geometry)) (c.part_or_fail_slot-4.ensures.step number) origin (reached (both_bodies first) first HasSeal)
    (second_bodied first)))
