use Rattle.volume_table.specs.OpenStore.{store_view}
use Rattle.volume_table.proofs.AdmittedRanges.{admits_by, admits_none}
use Rattle.volume_table.proofs.store.Store.admit.Goals as goal

pub returns : goal.returns
returns g c =
    admits_by (store_view c.args.self.now) c.args.name.now c.args.at c.args.count c.admit_zeroing.result c.in_default.is c.admit_zeroing.ensures.found
    c.admit_zeroing.ensures.listed c.admit_zeroing.ensures.decides

pub returns-in-Some : goal.returns-in-Some
returns-in-Some g c = admits_none (store_view c.args.self.now) c.args.name.now c.args.at c.args.count c.in-Some.refusal c.in-Some.is
