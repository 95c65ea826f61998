-- A list is that of the volumes, or there is no memory for it.
use Rattle.std.proofs.lemmas.Result.{err_from_is_err_and}
use Rattle.volume_table.proofs.ListedVolumes.{list_applies, list_is_refused}
use Rattle.volume_table.specs.VolumeStep.{Names, OnVolumes}
use Rattle.volume_table.proofs.EndedStore.{stays_ended}
use Rattle.volume_table.specs.OpenStore.{store_view}
use Rattle.volume_table.proofs.store.Store.list.Goals as goal

pub returns-in_err-volumes_of-clause-lists : goal.returns-in_err-volumes_of-clause-lists
returns-in_err-volumes_of-clause-lists g c =
    let its = c.args.self.now in
    let store = store_view its in
    let p = err_from_is_err_and c.from_residual.result c.from_residual.ensures.1 in
    rw (p.1, p.2) (list_is_refused (g.B.Bank.honest its.array.bank) store c.in_default.is)

pub returns-clause-lists : goal.returns-clause-lists
returns-clause-lists g c =
    let its = c.args.self.now in
    let store = store_view its in
    list_applies (g.B.Bank.honest its.array.bank) store c.in_ok-volumes_of.field-0.items c.in_default.is (λ fair. g.met.B.Bank.true_to _ fair)
    c.in_ok-volumes_of.ensures

pub returns-in-Some-clause-honest : goal.returns-in-Some-clause-honest
returns-in-Some-clause-honest g c = (λ fair. fair, λ fair. fair)

pub returns-in-Some-clause-lists : goal.returns-in-Some-clause-lists
returns-in-Some-clause-lists g c =
    let its = c.args.self.now in
    stays_ended (g.B.Bank.honest its.array.bank) (OnVolumes Names)
    (store_view its) c.in-Some.refusal c.in-Some.is

pub returns-in_err-volumes_of-clause-honest : goal.returns-in_err-volumes_of-clause-honest
returns-in_err-volumes_of-clause-honest g c = (λ fair. fair, λ fair. fair)

pub returns-clause-honest : goal.returns-clause-honest
returns-clause-honest g c = (λ fair. fair, λ fair. fair)
