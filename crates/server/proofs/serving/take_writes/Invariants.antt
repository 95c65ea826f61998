-- The writes so far were taken.
use Rattle.std.proofs.Common.{None, [], length, vec_capacity, ◌+◌, ◌-◌, ◌≡◌, ◌≤◌}
use Rattle.arrayvec.specs.ArrayVec.{array_vec_len}
use Rattle.batch.specs.Batches.{waiting}
use Rattle.report.specs.declared.lines.TheConstants.{LONGEST_LINE}
use Rattle.scrub.specs.Reports.{report_of}
use Rattle.set_commands.specs.Run.{Streams, streams}
use Rattle.volume_table.specs.OpenStore.{store_view}
use Rattle.volume_table.specs.Stands.{StoreView}
use Rattle.server.specs.Ends.{HasCome, Waits, replies_of, state_of}
use Rattle.server.specs.declared.counts.TheConstants.{MOST_LINES_TOGETHER, MOST_WRITTEN_AT_ONCE}
use Rattle.server.proofs.serving.take_writes.Given as goal

abbrev pub invariant-loop : goal.invariant-loop
invariant-loop g l = record {
  honest : g.B.Bank.honest l.fn.store.array.bank → g.B.Bank.honest l.store.array.bank;
  still : g.B.Bank.honest l.store.array.bank → g.B.Bank.honest l.fn.store.array.bank;
  going : l.store.ended ≡ None;
  of_set : l.held.batch.geometry ≡ l.store.array.table.geometry;
  holds : Waits (store_view l.store) (waiting l.held.batch);
  capacity : LONGEST_LINE + 1 ≤ vec_capacity l.line;
  buffer : length l.blocks ≡ length l.fn.blocks;
  room : array_vec_len l.held.replies + l.count ≤ MOST_LINES_TOGETHER + l.counter;
  scrubbed : l.held.scrubbed ≡ l.fn.held.scrubbed;
  comes : (first : g.row.B.Denot) (start : StoreView) (was : Streams) → (g.B.Bank.honest first → g.B.Bank.honest l.fn.store.array.bank)
      → HasCome (g.B.Bank.honest first) start was [] l.count [] (state_of (store_view l.fn.store)
      (streams (g.R.Read.remaining l.fn.reader) (g.W.Write.contents l.fn.writer)) (waiting l.fn.held.batch) (replies_of l.fn.held.replies.items)
      (report_of l.fn.held.scrubbed))
      → HasCome (g.B.Bank.honest first) start was [] (l.count - l.counter) [] (state_of (store_view l.store)
      (streams (g.R.Read.remaining l.reader) (g.W.Write.contents l.writer)) (waiting l.held.batch) (replies_of l.held.replies.items)
      (report_of l.held.scrubbed));
}
