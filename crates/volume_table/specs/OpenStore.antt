-- What a contract sees of an open store.
use Rattle.sector_model.specs.declared.bank.Bank.{Ghosts}
use Rattle.array_io.specs.Believed.OpenArray.{array_view}
use Rattle.volume_table.specs.declared.store.Store.{Store}
use Rattle.volume_table.specs.Stands.{StoreView, store_of}

-- a store, as its calls see it
abbrev pub store_view : {B : Type 0} {shown : Ghosts B} → Store B shown → StoreView
store_view store = store_of (array_view store.array) store.table store.ended
