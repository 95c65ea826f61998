use Rattle.std.proofs.Common.{List, Option, Ok}
use Rattle.sector_model.specs.History.{Bytes}
use Rattle.superblock.specs.Cases.{Lost}
use Rattle.array_io.specs.Believed.Views.{RestsOn}
use Rattle.array_io.specs.Believed.OpenArray.{array_view}
use Rattle.volume_table.specs.ListChanges.{ChangesList, IsSame}
use Rattle.extents.specs.SetExtents.{extents_in}
use Rattle.volume_table.proofs.ReadBlocks.{AreReadBelow}
use Rattle.volume_table.proofs.store.reading.read_blocks.Given as goal

abbrev pub invariant-loop-i : goal.invariant-loop-i
invariant-loop-i g l = record {
  honest : g.B.Bank.honest l.initial.array.bank → g.B.Bank.honest l.array.bank;
  still : g.B.Bank.honest l.array.bank → g.B.Bank.honest l.initial.array.bank;
  changes : ChangesList (g.B.Bank.honest l.initial.array.bank) 0 IsSame IsSame
      (array_view l.initial.array)
      (array_view l.array) (Ok tt);
  gives : g.B.Bank.honest l.initial.array.bank → (lost : Option Lost) (V : List Bytes)
      → RestsOn (array_view l.initial.array) lost V
      → AreReadBelow (extents_in l.initial.array.table.geometry) l.map l.volume l.at l.i l.to V;
}
