-- All lines so far were served, and nothing waits.
use Rattle.std.proofs.Common.{None, [], length, vec_capacity, ◌+◌, ◌≡◌, ◌≤◌}
use Rattle.batch.specs.Batches.{waiting}
use Rattle.report.specs.declared.lines.TheConstants.{LONGEST_LINE}
use Rattle.scrub.specs.Reports.{report_of}
use Rattle.set_commands.specs.Run.{Streams, streams}
use Rattle.volume_table.specs.OpenStore.{store_view}
use Rattle.volume_table.specs.Stands.{StoreView}
use Rattle.server.specs.Ends.{NoneWaits}
use Rattle.server.specs.declared.counts.TheConstants.{MOST_WRITTEN_AT_ONCE}
use Rattle.server.proofs.serving.serve_lines.Given as goal

abbrev pub invariant-loop : goal.invariant-loop
invariant-loop g l = record {
  honest : g.B.Bank.honest l.fn.store.array.bank → g.B.Bank.honest l.store.array.bank;
  still : g.B.Bank.honest l.store.array.bank → g.B.Bank.honest l.fn.store.array.bank;
  going : l.store.ended ≡ None;
  of_set : l.held.batch.geometry ≡ l.store.array.table.geometry;
  waits : waiting l.held.batch ≡ [];
  replies : l.held.replies.items ≡ [];
  capacity : LONGEST_LINE + 1 ≤ vec_capacity l.line;
  buffer : length l.blocks ≡ MOST_WRITTEN_AT_ONCE;
  serves : (first : g.row.B.Denot) (start : StoreView) (was : Streams) → (g.B.Bank.honest first → g.B.Bank.honest l.fn.store.array.bank)
      → NoneWaits (g.B.Bank.honest first) start was [] 0 [] (store_view l.fn.store)
      (streams (g.R.Read.remaining l.fn.reader) (g.W.Write.contents l.fn.writer)) (report_of l.fn.held.scrubbed)
      → NoneWaits (g.B.Bank.honest first) start was [] 0 [] (store_view l.store)
      (streams (g.R.Read.remaining l.reader) (g.W.Write.contents l.writer)) (report_of l.held.scrubbed);
}
