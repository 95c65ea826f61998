use Rattle.std.proofs.Common.{◌+◌, ◌≡◌, ◌≤◌, vec_capacity}
use Rattle.set_commands.specs.Run.{HasCome, streams}
use Rattle.set_commands.proofs.script.run_script.Given as goal
use Rattle.report.specs.declared.lines.TheConstants.{LONGEST_LINE}
use Rattle.volume_table.specs.OpenStore.{store_view}

abbrev pub invariant-loop : goal.invariant-loop
invariant-loop g l = record {
  capacity : LONGEST_LINE + 1 ≤ vec_capacity l.line;
  counted : l.answered ≡ l.counter;
  honest : g.B.Bank.honest l.initial.store.array.bank → g.B.Bank.honest l.store.array.bank;
  still : g.B.Bank.honest l.store.array.bank → g.B.Bank.honest l.initial.store.array.bank;
  come : HasCome (g.B.Bank.honest l.initial.store.array.bank)
      (store_view l.initial.store)
      (store_view l.store)
      (streams (g.R.Read.remaining l.initial.reader) (g.W.Write.contents l.initial.writer))
      (streams (g.R.Read.remaining l.reader) (g.W.Write.contents l.writer));
}
