-- The sectors so far were read, and the list stayed.
use Rattle.std.proofs.Common.{◌≡◌, ◌+◌, ◌<◌, ℕ, List, [], length, get_or, Option, Ok}
use Rattle.sector_model.specs.History.{Bytes}
use Rattle.superblock.specs.Cases.{Lost}
use Rattle.array_io.specs.Believed.Views.{RestsOn}
use Rattle.array_io.specs.Believed.ReadWhole.{NoDeviceFailed}
use Rattle.array_io.specs.Believed.OpenArray.{array_view}
use Rattle.volume_table.specs.ListChanges.{ChangesList, IsSame}
use Rattle.volume_table.proofs.OpenedStore.{HaveReadWhole}
use Rattle.volume_table.proofs.store.opening.read_from.Given as goal

abbrev pub invariant-loop-number : goal.invariant-loop-number
invariant-loop-number g l = record {
  honest : g.B.Bank.honest l.initial.array.bank → g.B.Bank.honest l.array.bank;
  still : g.B.Bank.honest l.array.bank → g.B.Bank.honest l.initial.array.bank;
  long : length l.sectors ≡ length l.initial.sectors;
  changes : ChangesList (g.B.Bank.honest l.initial.array.bank) 0 IsSame IsSame
      (array_view l.initial.array)
      (array_view l.array) (Ok tt);
  gives : g.B.Bank.honest l.initial.array.bank → (lost : Option Lost) (V : List Bytes)
      → RestsOn (array_view l.initial.array) lost V
      → (k : ℕ) → k < l.number → get_or l.sectors k [] ≡ get_or V (l.first + k) [];
  told : g.B.Bank.honest l.initial.array.bank → NoDeviceFailed (g.B.Bank.panel l.initial.array.bank) (g.B.Bank.panel l.array.bank)
      → HaveReadWhole l.first l.number
      (array_view l.initial.array)
      (array_view l.array) l.sectors;
}
