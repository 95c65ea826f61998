use Rattle.std.proofs.Common.{◌≡◌, ◌≢◌, ◌∙◌, Bool, true, false, Result, Ok, Err, ap, refl, sym, subst}
use Rattle.sector_model.specs.declared.refusal.Refusal.{Refusal}
use Rattle.sector_model.specs.declared.sector.Stop.{Stop}
use Rattle.sector_model.specs.declared.sector.Stop.TheVariants.{Down}
use Rattle.rebuild.specs.RowSteps.{EndsOrFails}
use Rattle.rebuild.proofs.rows.done_or_fail_slot.Goals as goal

not_done : (result : Result Bool Refusal) → result ≡ Ok false → result ≢ Ok true
not_done result is same = cc

pub returns-in_ok-mark_slot-in-Err-Down-clause-ends : goal.returns-in_ok-mark_slot-in-Err-Down-clause-ends
returns-in_ok-mark_slot-in-Err-Down-clause-ends g c =
    let stop : c.in-Err-Down.field-0 ≡ Down c.in-Err-Down.field-0-0 = rw c.in-Err-Down.is at c.in-Err-Down.field-0-is in
    subst (λ (done : Result (Unit {0}) Stop). EndsOrFails (g.B.Bank.honest c.args.bank.now) c.args.member (g.B.Bank.panel c.args.bank.now)
    (g.B.Bank.panel c.mark_slot.new.bank) c.args.table.now c.mark_slot.new.table (g.B.Bank.history c.args.bank.now)
    (g.B.Bank.history c.mark_slot.new.bank) done (Ok false))
    (sym (c.in-Err-Down.is ∙ ap Err stop)) (not_done (Ok false) refl, c.in_ok-mark_slot-in-Err-Down.ensures.marks)
