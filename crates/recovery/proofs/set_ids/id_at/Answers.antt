use Rattle.std.proofs.Common.{ℕ, Ok, Option, ◌∙◌, subst}
use Rattle.sector_model.specs.History.{Bytes}
use Rattle.recovery.specs.Finding.{ReadsPlace}
use Rattle.recovery.specs.Making.{bank_view}
use Rattle.recovery.specs.SetIds.{ReadsId}
use Rattle.recovery.proofs.SetIdsFound.{id_nothing, id_read}
use Rattle.recovery.proofs.set_ids.id_at.Goals as goal

pub returns-in-Some-clause-reads : goal.returns-in-Some-clause-reads
returns-in-Some-clause-reads g c =
    let view = bank_view (g.B.Bank.panel c.args.bank.now) (g.B.Bank.history c.args.bank.now) in
    let after = bank_view (g.B.Bank.panel c.read_place.new.bank) (g.B.Bank.history c.read_place.new.bank) in
    subst (λ (d : ℕ). ReadsId (g.B.Bank.honest c.args.bank.now) d c.args.slot c.args.place view after (Ok c.id_in.result))
    (c.devices.ensures.count ∙ c.in_ok-sector.ensures.reads.later.devices)
    (id_read (g.B.Bank.honest c.args.bank.now) c.devices.result c.args.slot c.args.place view after c.in-Some.sector c.id_in.result
    (λ honest. g.met.B.Bank.true_to c.args.bank.now honest)
    (subst (λ (found : Option Bytes). ReadsPlace (g.B.Bank.honest c.args.bank.now) c.args.slot c.args.place view after (Ok found))
    c.in-Some.is c.in_ok-sector.ensures.reads)
    c.id_in.ensures)

pub returns-in-None-clause-reads : goal.returns-in-None-clause-reads
returns-in-None-clause-reads g c =
    let view = bank_view (g.B.Bank.panel c.args.bank.now) (g.B.Bank.history c.args.bank.now) in
    let after = bank_view (g.B.Bank.panel c.read_place.new.bank) (g.B.Bank.history c.read_place.new.bank) in
    id_nothing (g.B.Bank.honest c.args.bank.now) (g.B.Bank.panel c.args.bank.now).devices c.args.slot c.args.place view after
    (subst (λ (found : Option Bytes). ReadsPlace (g.B.Bank.honest c.args.bank.now) c.args.slot c.args.place view after (Ok found))
    c.in-None.is c.in_ok-sector.ensures.reads)
