use Rattle.std.proofs.Common.{Ok, false, true, ap, ◌∙◌}
use Rattle.std.proofs.lemmas.Result.{err_from_is_err_and}
use Rattle.stripe_journal.specs.Entries.{body_of}
use Rattle.array_io.specs.Believed.OpenArray.{array_on}
use Rattle.array_io.proofs.Images.Codecs.{spellings}
use Rattle.recovery.specs.Replaying.{IsFound, IsLatestOn, IsLoaded}
use Rattle.recovery.proofs.BringingTo.{brings_refused, brings_value}
use Rattle.recovery.proofs.EntryLoaded.{load_beside, none_beside}
use Rattle.recovery.proofs.LatestFound.{beside_alone, beside_of_set}
use Rattle.recovery.proofs.latest.load_latest.Goals as goal

pub returns-in_err-load_or_fail_slot-clause-loads : goal.returns-in_err-load_or_fail_slot-clause-loads
returns-in_err-load_or_fail_slot-clause-loads g c =
    let p = err_from_is_err_and c.from_residual.result c.from_residual.ensures.1 in
    let body = body_of c.args.table.now.geometry.members c.load_or_fail_slot.new.entry in
    rw (p.1, p.2) (λ number.
    brings_refused (g.B.Bank.honest c.args.bank.now) (IsLatestOn c.args.latest) (IsLoaded c.args.latest body)
    (array_on g.B.Bank c.args.bank.now c.args.table.now number) (array_on g.B.Bank c.load_or_fail_slot.new.bank c.load_or_fail_slot.new.table number)
    c.load_or_fail_slot.result (c.load_or_fail_slot.ensures.loads number)
    (IsFound body) c.in_err-load_or_fail_slot.field-0.0 c.in_err-load_or_fail_slot.was)

pub returns-then-branch-clause-loads : goal.returns-then-branch-clause-loads
returns-then-branch-clause-loads g c = λ number.
    brings_value (g.B.Bank.honest c.args.bank.now) (IsLatestOn c.args.latest)
    (IsLoaded c.args.latest (body_of c.args.table.now.geometry.members c.load_or_fail_slot.new.entry))
    (array_on g.B.Bank c.args.bank.now c.args.table.now number) (array_on g.B.Bank c.load_or_fail_slot.new.bank c.load_or_fail_slot.new.table number)
    c.load_or_fail_slot.result (c.load_or_fail_slot.ensures.loads number)
    true (c.in_ok-load_or_fail_slot.was ∙ ap Ok c.if-branch.true)

pub load_alone-requires-clause-latest : goal.load_alone-requires-clause-latest
load_alone-requires-clause-latest g c =
    beside_of_set c.args.table.now c.load_or_fail_slot.new.table c.args.latest c.in-Some.latest c.requires.latest
    (c.load_or_fail_slot.ensures.marked (c.in_ok-load_or_fail_slot.was ∙ ap Ok c.if-branch.false)).0 c.in-Some.ensures

pub load_alone-requires-clause-alone : goal.load_alone-requires-clause-alone
load_alone-requires-clause-alone g c =
    beside_alone c.args.table.now c.load_or_fail_slot.new.table c.args.latest c.in-Some.latest c.requires.latest
    (c.load_or_fail_slot.ensures.marked (c.in_ok-load_or_fail_slot.was ∙ ap Ok c.if-branch.false)).0 c.in-Some.ensures

pub returns-in-Some-clause-loads : goal.returns-in-Some-clause-loads
returns-in-Some-clause-loads g c = λ number.
    let failed = c.in_ok-load_or_fail_slot.was ∙ ap Ok c.if-branch.false in
    let honest = g.B.Bank.honest c.args.bank.now in
    let old = array_on g.B.Bank c.args.bank.now c.args.table.now number in
    let mid = array_on g.B.Bank c.load_or_fail_slot.new.bank c.load_or_fail_slot.new.table number in
    load_beside honest c.args.latest old mid c.requires.latest (c.load_or_fail_slot.ensures.marked failed).0
    (brings_value honest (IsLatestOn c.args.latest) (IsLoaded c.args.latest (body_of c.args.table.now.geometry.members c.load_or_fail_slot.new.entry)) old mid
    c.load_or_fail_slot.result
    (c.load_or_fail_slot.ensures.loads number) false failed)
    (g.B.Bank.honest c.load_or_fail_slot.new.bank) (λ fair. c.load_or_fail_slot.ensures.honest.0 fair)
    (array_on g.B.Bank c.load_alone.new.bank c.load_alone.new.table number) c.in-Some.latest c.load_alone.new.entry
    c.load_alone.result c.in-Some.ensures (c.load_alone.ensures.loads number)

pub returns-in-None-clause-loads : goal.returns-in-None-clause-loads
returns-in-None-clause-loads g c = λ number.
    let failed = c.in_ok-load_or_fail_slot.was ∙ ap Ok c.if-branch.false in
    let honest = g.B.Bank.honest c.args.bank.now in
    let old = array_on g.B.Bank c.args.bank.now c.args.table.now number in
    let mid = array_on g.B.Bank c.load_or_fail_slot.new.bank c.load_or_fail_slot.new.table number in
    let body = body_of c.args.table.now.geometry.members c.load_or_fail_slot.new.entry in
    none_beside honest c.args.latest old mid c.requires.latest (c.load_or_fail_slot.ensures.marked failed).0
    (brings_value honest (IsLatestOn c.args.latest) (IsLoaded c.args.latest body) old mid c.load_or_fail_slot.result (c.load_or_fail_slot.ensures.loads number)
    false failed)
    spellings c.in-None.ensures body
