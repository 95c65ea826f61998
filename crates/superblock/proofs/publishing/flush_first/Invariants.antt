use Rattle.std.proofs.Common.{Bool, map}
use Rattle.sector_model.specs.Bank.{IsLater}
use Rattle.sector_model.specs.Calls.{Flush, Made}
use Rattle.sector_model.specs.History.{History}
use Rattle.superblock.specs.NextTables.{slots_of}
use Rattle.superblock.specs.Publishing.{first_slots}
use Rattle.superblock.proofs.PublishCode.{is_first, slots_from}
use Rattle.superblock.proofs.publishing.flush_first.Given as goal

abbrev pub invariant-loop-slot : goal.invariant-loop-slot
invariant-loop-slot g l = record {
  panel : IsLater (g.B.Bank.panel l.initial.bank) (g.B.Bank.panel l.bank);
  honest : g.B.Bank.honest l.initial.bank → g.B.Bank.honest l.bank;
  still : g.B.Bank.honest l.bank → g.B.Bank.honest l.initial.bank;
  made : g.B.Bank.honest l.initial.bank → (answered : Bool) (new : History)
      → Made (map (λ slot. Flush slot) (slots_from (is_first l.new l.last) l.slot (slots_of l.new))) answered (g.B.Bank.history l.bank) new
      → Made (map (λ slot. Flush slot) (first_slots l.new l.last)) answered (g.B.Bank.history l.initial.bank) new;
}
