use Rattle.std.proofs.Common.{◌≡◌, ℕ, ◌+◌, ◌-◌, ◌≤◌, length, take}
use Rattle.server.specs.Answers.{ReadsParts}
use Rattle.volume_table.specs.OpenStore.{store_view}
use Rattle.server.proofs.answering.reading.read_parts.Given as goal

abbrev pub invariant-parts : goal.invariant-parts
invariant-parts g l = record {
  within : l.done ≤ length l.to;
  long : length l.to ≡ length l.initial.to;
  honest : g.B.Bank.honest l.initial.store.array.bank → g.B.Bank.honest l.store.array.bank;
  still : g.B.Bank.honest l.store.array.bank → g.B.Bank.honest l.initial.store.array.bank;
  reads : ReadsParts (g.B.Bank.honest l.initial.store.array.bank) l.fn.name l.fn.at (l.fn.at + l.done) (take l.done l.to)
      (store_view l.initial.store) (store_view l.store);
}

abbrev pub decreases-parts : goal.decreases-parts
decreases-parts g l = length l.to - l.done
