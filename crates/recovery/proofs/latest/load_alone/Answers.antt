use Rattle.std.proofs.Common.{Ok, true, ap, ◌∙◌}
use Rattle.std.proofs.lemmas.Result.{err_from_is_err_and}
use Rattle.stripe_journal.specs.Entries.{body_of}
use Rattle.array_io.specs.Believed.OpenArray.{array_on}
use Rattle.recovery.specs.Replaying.{IsFound, IsLatestOn, IsLoaded}
use Rattle.recovery.proofs.BringingTo.{brings_refused, brings_value}
use Rattle.recovery.proofs.latest.load_alone.Goals as goal

pub returns-in_err-load_or_fail_slot-clause-loads : goal.returns-in_err-load_or_fail_slot-clause-loads
returns-in_err-load_or_fail_slot-clause-loads g c =
    let p = err_from_is_err_and c.from_residual.result c.from_residual.ensures.1 in
    let body = body_of c.args.table.now.geometry.members c.load_or_fail_slot.new.entry in
    rw (p.1, p.2) (λ number.
    brings_refused (g.B.Bank.honest c.args.bank.now) (IsLatestOn c.args.latest) (IsLoaded c.args.latest body)
    (array_on g.B.Bank c.args.bank.now c.args.table.now number) (array_on g.B.Bank c.load_or_fail_slot.new.bank c.load_or_fail_slot.new.table number)
    c.load_or_fail_slot.result (c.load_or_fail_slot.ensures.loads number)
    (IsFound body) c.in_err-load_or_fail_slot.field-0.0 c.in_err-load_or_fail_slot.was)

pub returns-then-branch-clause-loads : goal.returns-then-branch-clause-loads
returns-then-branch-clause-loads g c = λ number.
    brings_value (g.B.Bank.honest c.args.bank.now) (IsLatestOn c.args.latest)
    (IsLoaded c.args.latest (body_of c.args.table.now.geometry.members c.load_or_fail_slot.new.entry))
    (array_on g.B.Bank c.args.bank.now c.args.table.now number) (array_on g.B.Bank c.load_or_fail_slot.new.bank c.load_or_fail_slot.new.table number)
    c.load_or_fail_slot.result (c.load_or_fail_slot.ensures.loads number)
    true (c.in_ok-load_or_fail_slot.was ∙ ap Ok c.if-branch.true)

pub returns-else-branch-clause-loads : goal.returns-else-branch-clause-loads
returns-else-branch-clause-loads g c =
    let others = (c.load_or_fail_slot.ensures.marked (c.in_ok-load_or_fail_slot.was ∙ ap Ok c.if-branch.false)).1 in
    absurd (c.requires.alone.out.out (others c.requires.alone.other c.requires.alone.out.of_set c.requires.alone.apart))
