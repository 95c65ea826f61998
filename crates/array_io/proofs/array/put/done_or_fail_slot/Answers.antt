use Rattle.std.proofs.Common.{rules, ◌≡◌, inl, inr, ℕ, Err, refl, sym, ◌∙◌, ap, subst}
use Rattle.std.specs.Prelude.{Result}
use Rattle.sector_model.specs.declared.refusal.Refusal.TheVariants.{Worn}
use Rattle.sector_model.specs.declared.sector.Stop.{Stop}
use Rattle.sector_model.specs.declared.sector.Stop.TheVariants as stop
use Rattle.sector_model.specs.Bank.{Panel}
use Rattle.sector_model.specs.History.{History}
use Rattle.superblock.specs.declared.table.Table.{Table}
use Rattle.array_io.specs.Believed.ArrayCalls.{Answer}
use Rattle.array_io.specs.Steps.MarkingOn.{MarksOn}
use Rattle.array_io.specs.Steps.PuttingSteps.{EndsOrFailsSlot}
use Rattle.array_io.proofs.Marks.MarkMissing.{but_one, its_slots_stay}
use Rattle.array_io.proofs.array.put.done_or_fail_slot.Goals as goal

geometry_stays : (honest : Type 0) (slot : ℕ) (old_panel new_panel : Panel) (old_table new_table : Table) (old new : History) (answer : Answer)
    → MarksOn honest slot old_panel new_panel old_table new_table old new answer → new_table.geometry ≡ old_table.geometry
geometry_stays honest slot old_panel new_panel old_table new_table old new answer (inl left) = ap (λ (t : Table). t.geometry) left.same_table
geometry_stays honest slot old_panel new_panel old_table new_table old new answer (inr is) = is.marked.same_geometry

pub mark_slot-requires-clause-of_set : goal.mark_slot-requires-clause-of_set
mark_slot-requires-clause-of_set g c = c.requires.of_set

pub mark_slot-requires-clause-others : goal.mark_slot-requires-clause-others
mark_slot-requires-clause-others g c = but_one c.args.slot c.args.table.now (g.B.Bank.panel c.args.bank.now) c.requires.its_slots

pub returns-in-Ok-clause-honest : goal.returns-in-Ok-clause-honest
returns-in-Ok-clause-honest g c = (λ fair. fair, λ fair. fair)

pub returns-in-Ok-clause-its_slots : goal.returns-in-Ok-clause-its_slots
returns-in-Ok-clause-its_slots g c = c.requires.its_slots

pub returns-in-Ok-clause-geometry : goal.returns-in-Ok-clause-geometry
returns-in-Ok-clause-geometry g c = refl

pub returns-in-Ok-clause-ends : goal.returns-in-Ok-clause-ends
returns-in-Ok-clause-ends g c = rw c.in-Ok.is (refl, record { same_panel = refl; same_table = refl; same_history = refl })

pub returns-in-Err-Worn-clause-honest : goal.returns-in-Err-Worn-clause-honest
returns-in-Err-Worn-clause-honest g c = (λ fair. fair, λ fair. fair)

pub returns-in-Err-Worn-clause-its_slots : goal.returns-in-Err-Worn-clause-its_slots
returns-in-Err-Worn-clause-its_slots g c = c.requires.its_slots

pub returns-in-Err-Worn-clause-geometry : goal.returns-in-Err-Worn-clause-geometry
returns-in-Err-Worn-clause-geometry g c = refl

pub returns-in-Err-Worn-clause-ends : goal.returns-in-Err-Worn-clause-ends
returns-in-Err-Worn-clause-ends g c =
    let stop : c.in-Err-Worn.field-0 ≡ stop.Worn = rw c.in-Err-Worn.is at c.in-Err-Worn.field-0-is in
    subst (λ (d : Result (Unit {0}) Stop). EndsOrFailsSlot (g.B.Bank.honest c.args.bank.now) c.args.slot (g.B.Bank.panel c.args.bank.now)
    (g.B.Bank.panel c.args.bank.now) c.args.table.now c.args.table.now
    (g.B.Bank.history c.args.bank.now) (g.B.Bank.history c.args.bank.now) d (Err Worn)) (sym (c.in-Err-Worn.is ∙ ap Err stop))
    (refl, record { same_panel = refl; same_table = refl; same_history = refl })

pub returns-in-Err-Down-clause-honest : goal.returns-in-Err-Down-clause-honest
returns-in-Err-Down-clause-honest g c = c.mark_slot.ensures.honest

pub returns-in-Err-Down-clause-its_slots : goal.returns-in-Err-Down-clause-its_slots
returns-in-Err-Down-clause-its_slots g c =
    its_slots_stay (g.B.Bank.honest c.args.bank.now) c.args.slot (g.B.Bank.panel c.args.bank.now) (g.B.Bank.panel c.mark_slot.new.bank) c.args.table.now
    c.mark_slot.new.table
    (g.B.Bank.history c.args.bank.now) (g.B.Bank.history c.mark_slot.new.bank) c.mark_slot.result c.requires.of_set c.requires.its_slots
    c.mark_slot.ensures.marks

pub returns-in-Err-Down-clause-geometry : goal.returns-in-Err-Down-clause-geometry
returns-in-Err-Down-clause-geometry g c =
    geometry_stays (g.B.Bank.honest c.args.bank.now) c.args.slot (g.B.Bank.panel c.args.bank.now) (g.B.Bank.panel c.mark_slot.new.bank) c.args.table.now
    c.mark_slot.new.table
    (g.B.Bank.history c.args.bank.now) (g.B.Bank.history c.mark_slot.new.bank) c.mark_slot.result c.mark_slot.ensures.marks

pub returns-in-Err-Down-clause-ends : goal.returns-in-Err-Down-clause-ends
returns-in-Err-Down-clause-ends g c =
    let stop : c.in-Err-Down.field-0 ≡ stop.Down c.in-Err-Down.field-0-0 = rw c.in-Err-Down.is at c.in-Err-Down.field-0-is in
    rw (c.in-Err-Down.is, stop) (search rules)
