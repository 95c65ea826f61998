-- What a contract sees of an open array.
use Rattle.std.specs.Prelude.{ℕ}
use Rattle.sector_model.specs.declared.bank.Bank.{Ghosts}
use Rattle.superblock.specs.declared.table.Table.{Table}
use Rattle.array_io.specs.declared.array.Array.{Array}
use Rattle.array_io.specs.Believed.Views.{ArrayView, view_of}

-- its devices do what the run says
abbrev pub IsHonest : {B : Type 0} {shown : Ghosts B} → Array B shown → Type 0
IsHonest {shown = shown} array = shown.honest array.bank

-- the array on a bank, by what the bank shows, with this table and this number of the last entry
abbrev pub array_on : {B : Type 0} (shown : Ghosts B) → B → Table → ℕ → ArrayView
array_on shown bank table number = view_of (shown.panel bank) (shown.history bank) table number

-- an array, as its calls see it
abbrev pub array_view : {B : Type 0} {shown : Ghosts B} → Array B shown → ArrayView
array_view {shown = shown} array = array_on shown array.bank array.table array.entry
