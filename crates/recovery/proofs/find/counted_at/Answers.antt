use Rattle.std.proofs.Common.{ℕ, Ok, Option, refl, ◌∙◌, ap, subst}
use Rattle.std.proofs.lemmas.Result.{err_from_is_err_and}
use Rattle.sector_model.specs.History.{Bytes}
use Rattle.recovery.specs.Finding.{Finds, FoundAt, ReadsPlace}
use Rattle.recovery.specs.Making.{bank_view}
use Rattle.recovery.proofs.Finding.{finds_err, finds_nothing, finds_read}
use Rattle.recovery.proofs.find.counted_at.Goals as goal

pub returns-in_err-sector-clause-found : goal.returns-in_err-sector-clause-found
returns-in_err-sector-clause-found g c =
    let p = err_from_is_err_and c.from_residual.result c.from_residual.ensures.1 in
    let cause = c.in_err-sector.ensures.reads.cause _ refl in
    rw (p.1, p.2) (finds_err (g.B.Bank.honest c.args.bank.now) c.args.id.now (g.B.Bank.panel c.args.bank.now).devices _
    (bank_view (g.B.Bank.panel c.args.bank.now) (g.B.Bank.history c.args.bank.now))
    (bank_view (g.B.Bank.panel c.read_place.new.bank) (g.B.Bank.history c.read_place.new.bank))
    _ c.in_err-sector.ensures.reads.later c.in_err-sector.ensures.reads.reads cause.0 cause.1)

pub returns-in-Some-clause-found : goal.returns-in-Some-clause-found
returns-in-Some-clause-found g c =
    let view = bank_view (g.B.Bank.panel c.args.bank.now) (g.B.Bank.history c.args.bank.now) in
    let after = bank_view (g.B.Bank.panel c.read_place.new.bank) (g.B.Bank.history c.read_place.new.bank) in
    let reads = c.in_ok-sector.ensures.reads in
    let stands = reads.stands c.in-Some.sector (ap Ok c.in-Some.is) in
    subst (λ (d : ℕ). Finds (g.B.Bank.honest c.args.bank.now) c.args.id.now d (FoundAt c.args.id.now d c.args.slot c.args.place)
    view after (Ok c.counted.result))
    (c.devices.ensures.count ∙ reads.later.devices)
    (finds_read (g.B.Bank.honest c.args.bank.now) c.args.id.now c.devices.result c.args.slot c.args.place view after
    c.in-Some.sector c.counted.result
    (λ honest. g.met.B.Bank.true_to c.args.bank.now honest) reads.later reads.reads stands.0 stands.1
    c.counted.ensures.some c.counted.ensures.none)

pub returns-in-None-clause-found : goal.returns-in-None-clause-found
returns-in-None-clause-found g c =
    let view = bank_view (g.B.Bank.panel c.args.bank.now) (g.B.Bank.history c.args.bank.now) in
    let after = bank_view (g.B.Bank.panel c.read_place.new.bank) (g.B.Bank.history c.read_place.new.bank) in
    finds_nothing (g.B.Bank.honest c.args.bank.now) c.args.id.now (g.B.Bank.panel c.args.bank.now).devices c.args.slot c.args.place view after
    (subst (λ (found : Option Bytes). ReadsPlace (g.B.Bank.honest c.args.bank.now) c.args.slot c.args.place view after (Ok found))
    c.in-None.is c.in_ok-sector.ensures.reads)
