use Rattle.std.proofs.Common.{◌≡◌, ◌≤◌, ℕ, Ok}
use Rattle.stripe_journal.specs.Entries.{body_of}
use Rattle.array_io.specs.Believed.OpenArray.{array_on}
use Rattle.array_io.specs.Believed.Views.{HasItsSlots}
use Rattle.array_io.specs.Steps.Putting.{IsPutBefore}
use Rattle.array_io.specs.Steps.PuttingSteps.{Brings}
use Rattle.array_io.proofs.array.put.put_on_members.Given as goal

abbrev pub invariant-loop-member : goal.invariant-loop-member
invariant-loop-member g l = record {
  most : l.member ≤ l.initial.table.geometry.members;
  honest : g.B.Bank.honest l.initial.bank → g.B.Bank.honest l.bank;
  still : g.B.Bank.honest l.bank → g.B.Bank.honest l.initial.bank;
  its_slots : HasItsSlots l.table (g.B.Bank.panel l.bank);
  geometry : l.table.geometry ≡ l.initial.table.geometry;
  steps : (number : ℕ) → Brings (g.B.Bank.honest l.initial.bank) (IsPutBefore 0 l.seal (body_of l.initial.table.geometry.members l.entry))
      (IsPutBefore l.member l.seal (body_of l.initial.table.geometry.members l.entry)) (array_on g.B.Bank l.initial.bank l.initial.table number)
      (array_on g.B.Bank l.bank l.table number) (Ok tt);
}
