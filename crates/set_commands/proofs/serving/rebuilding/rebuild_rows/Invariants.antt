use Rattle.std.proofs.Common.{ℕ, ◌≡◌, ◌+◌, ◌≤◌, max}
use Rattle.set_commands.specs.Steps.{Steps}
use Rattle.volume_table.specs.OpenStore.{store_view}
use Rattle.set_commands.proofs.serving.rebuilding.rebuild_rows.Given as goal

abbrev pub invariant-loop : goal.invariant-loop
invariant-loop g l = record {
  before : ℕ;
  counted : l.counter ≡ before + 1;
  within : before + 1 ≤ max l.most 1;
  honest : g.B.Bank.honest l.initial.store.array.bank → g.B.Bank.honest l.store.array.bank;
  still : g.B.Bank.honest l.store.array.bank → g.B.Bank.honest l.initial.store.array.bank;
  made : Steps (g.B.Bank.honest l.initial.store.array.bank) before
      (store_view l.initial.store)
      (store_view l.store);
}
