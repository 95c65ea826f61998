-- The events so far are done and acknowledged, the store is open, and there is room for the acks of those that are left.
use Rattle.std.proofs.Common.{◌≡◌, ◌+◌, ◌≤◌, None, length, map, take, vec_capacity, vec_len}
use Rattle.volume_table.specs.Events.{event_of}
use Rattle.volume_table.specs.StoreFunctions.{DoesAll}
use Rattle.volume_table.specs.OpenStore.{store_view}
use Rattle.volume_table.proofs.store.Store.run.Given as goal

abbrev pub invariant-loop-event : goal.invariant-loop-event
invariant-loop-event g l = record {
  honest : g.B.Bank.honest l.fn.self.array.bank → g.B.Bank.honest l.self.array.bank;
  still : g.B.Bank.honest l.self.array.bank → g.B.Bank.honest l.fn.self.array.bank;
  going : l.self.ended ≡ None;
  room : vec_len l.acks + length l.events ≤ vec_capacity l.acks + l.event-index;
  done : DoesAll (g.B.Bank.honest l.fn.self.array.bank) (map event_of (take l.event-index l.events))
      (store_view l.fn.self)
      (store_view l.self)
      l.fn.acks.items l.acks.items;
}
