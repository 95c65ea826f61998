use Rattle.std.proofs.Common.{◌≢◌, ℕ, ◌<◌, Bool, map}
use Rattle.sector_model.specs.Bank.{IsLater}
use Rattle.sector_model.specs.Calls.{Made, Write}
use Rattle.sector_model.specs.History.{Bytes, History}
use Rattle.superblock.specs.declared.state.State.TheVariants.{Missing}
use Rattle.superblock.specs.NextTables.{slots_of}
use Rattle.superblock.specs.Publishing.{StandsAt, first_slots, place_of}
use Rattle.superblock.specs.Tables.{state_at}
use Rattle.superblock.proofs.PublishCode.{is_first, slots_from}
use Rattle.superblock.proofs.publishing.write_first.Given as goal

abbrev pub invariant-loop-slot : goal.invariant-loop-slot
invariant-loop-slot g l = record {
  panel : IsLater (g.B.Bank.panel l.initial.bank) (g.B.Bank.panel l.bank);
  honest : g.B.Bank.honest l.initial.bank → g.B.Bank.honest l.bank;
  still : g.B.Bank.honest l.bank → g.B.Bank.honest l.initial.bank;
  made : (sectors : ℕ → Bytes) → g.B.Bank.honest l.initial.bank
      → ((slot : ℕ) → slot < slots_of l.new → state_at l.new.states slot ≢ Missing → StandsAt l.new slot (sectors slot))
      → (answered : Bool) (new : History)
      → Made (map (λ slot. Write slot (place_of l.new) (sectors slot)) (slots_from (is_first l.new l.last) l.slot (slots_of l.new))) answered
      (g.B.Bank.history l.bank) new
      → Made (map (λ slot. Write slot (place_of l.new) (sectors slot)) (first_slots l.new l.last)) answered (g.B.Bank.history l.initial.bank) new;
}
