use Rattle.std.proofs.Common.{◌≡◌, None, refl}
use Rattle.extents.specs.SetExtents.{extents_in}
use Rattle.volume_table.specs.Stands.{StoreView}
use Rattle.volume_table.proofs.StatusTold.{status_told}
use Rattle.volume_table.proofs.EndedStore.{tells_ended}
use Rattle.volume_table.specs.OpenStore.{store_view}
use Rattle.volume_table.proofs.store.Store.status.Goals as goal

pub returns : goal.returns
unfolding extents_in
returns g c =
    let was = c.args.self.now in
    let goes : was.ended ≡ None = c.in_default.is in
    let store : StoreView = store_view was in
    status_told store was.map c.rows.result c.extent_blocks.result c.extents.result c.free_count.result c.used.result was.table.version goes was.kept
    c.rows.ensures c.extent_blocks.ensures c.extents.ensures c.free_count.ensures c.used.ensures refl

pub returns-in-Some : goal.returns-in-Some
returns-in-Some g c =
    let its = c.args.self.now in
    tells_ended (store_view its) c.in-Some.refusal c.in-Some.is
