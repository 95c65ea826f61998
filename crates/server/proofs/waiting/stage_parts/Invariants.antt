-- The parts so far wait, or are committed.
use Rattle.std.proofs.Common.{None, [], length, take, ◌+◌, ◌-◌, ◌≡◌, ◌≤◌, List, ℕ, Option}
use Rattle.arrayvec.specs.ArrayVec.{array_vec_len}
use Rattle.batch.specs.Batches.{waiting}
use Rattle.scrub.specs.Reports.{report_of}
use Rattle.set_commands.specs.Run.{Streams, streams}
use Rattle.volume_table.specs.Admission.{HasBlocksAt}
use Rattle.volume_table.specs.OpenStore.{store_view}
use Rattle.volume_table.specs.Stands.{StoreView}
use Rattle.server.specs.Ends.{HasCome, StagesSome, Waits, replies_of, state_of}
use Rattle.server.proofs.waiting.stage_parts.Given as goal

abbrev pub invariant-loop-staged : goal.invariant-loop-staged
invariant-loop-staged g l = record {
  honest : g.B.Bank.honest l.fn.store.array.bank → g.B.Bank.honest l.store.array.bank;
  still : g.B.Bank.honest l.store.array.bank → g.B.Bank.honest l.fn.store.array.bank;
  going : l.store.ended ≡ None;
  of_set : l.held.batch.geometry ≡ l.store.array.table.geometry;
  holds : Waits (store_view l.store) (waiting l.held.batch);
  table : l.store.table ≡ l.fn.store.table;
  scrubbed : l.held.scrubbed ≡ l.fn.held.scrubbed;
  geometry : l.held.batch.geometry ≡ l.fn.held.batch.geometry;
  same_set : l.store.array.table.geometry ≡ l.fn.store.array.table.geometry;
  room : array_vec_len l.held.replies ≤ array_vec_len l.fn.held.replies;
  within : l.staged ≤ length l.blocks;
  comes : (first : g.row.B.Denot) (start : StoreView) (was : Streams) (left : ℕ) (ahead : List ℕ) (remaining : Option (List ℕ)) (name : List ℕ)
      → (g.B.Bank.honest first → g.B.Bank.honest l.fn.store.array.bank)
      → ∥ HasBlocksAt l.fn.store.table.records name l.volume l.at (length l.blocks) ∥₁
      → HasCome (g.B.Bank.honest first) start was [] left ahead (state_of (store_view l.fn.store)
      (streams remaining (g.W.Write.contents l.fn.writer)) (waiting l.fn.held.batch) (replies_of l.fn.held.replies.items) (report_of l.fn.held.scrubbed))
      → StagesSome (g.B.Bank.honest first) start was left ahead name l.at l.staged (take l.staged l.blocks) (state_of (store_view l.store)
      (streams remaining (g.W.Write.contents l.writer)) (waiting l.held.batch) (replies_of l.held.replies.items) (report_of l.held.scrubbed));
}

abbrev pub decreases-loop-staged : goal.decreases-loop-staged
decreases-loop-staged g l = length l.blocks - l.staged
