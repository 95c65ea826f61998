-- What tests keep in a batch.
use Rattle.sector_model.specs.declared.bank.Bank.{Ghosts}
use Rattle.batch.specs.declared.batch.Batch.{Batch}
use Rattle.batch.specs.Batches.{waiting}
use Rattle.extents.specs.SetExtents.{extents_in}
use Rattle.volume_table.specs.declared.store.Store.{Store}
use Rattle.volume_table.specs.Staging.{HoldSome}

-- the sectors that wait hold writes to the volumes of a store
abbrev pub Waits : {B : Type 0} {shown : Ghosts B} → Store B shown → Batch → Type 0
Waits store batch = HoldSome (extents_in store.array.table.geometry) store.table (waiting batch)
