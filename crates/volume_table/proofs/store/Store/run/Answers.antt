-- Event by event, the store is left as a chain of them leaves it, and the acks are those of the chain.
use Rattle.std.proofs.Common.{[], ◌∷◌, Err, refl, ◌+◌, ◌<◌, ◌≤◌, length, map, take, drop, get_or, ap, arith, sym, ◌∙◌}
use Rattle.std.proofs.lemmas.List.{length-append, map_more, take_all}
use Rattle.std.proofs.lemmas.Result.{err_from_is_err_and}
use Rattle.volume_table.specs.declared.event.Event.{Event}
use Rattle.volume_table.specs.declared.event.Event.TheVariants.{Create}
use Rattle.volume_table.specs.Events.{event_of}
use Rattle.volume_table.proofs.RunChains.{done_none, done_one_more, ended_not_memory, parts_at, run_ends}
use Rattle.std.proofs.lemmas.Option.{none-some}
use Rattle.volume_table.proofs.EndedStore.{run_stays_ended, done_not_refused}
use Rattle.volume_table.specs.OpenStore.{store_view}
use Rattle.sector_model.specs.declared.refusal.Refusal.TheVariants.{Memory}
use Rattle.volume_table.proofs.store.Store.run.Goals as goal

pub loop-event-init : goal.loop-event-init
loop-event-init g c =
    let its = c.args.self.now in
    record {
      honest = λ fair. fair;
      still = λ fair. fair;
      going = c.in_default.is;
      room = omega (arith, c.in_ok-reserve.ensures.ok);
      done = done_none (g.B.Bank.honest its.array.bank)
          (store_view its)
          c.args.acks.now.items c.reserve.new.self.items c.reserve.ensures.items;
    }

-- what stands at a place after the events
abbrev blank : Event
blank = Create (record { ref_ptr = (0, 0); now = [] }) 0

pub loop-event-preserved : goal.loop-event-preserved
loop-event-preserved g c =
    let its = c.args.self.now in
    let there = c.loop-event.self in
    let left = c.acknowledge.new.self in
    let i = c.loop-event.event-index in
    let events = c.args.events.now in
    let one = c.in_ok-acknowledge.ensures.acknowledges in
    let within : i < length events = omega arith in
    record {
      honest = λ fair. c.acknowledge.ensures.honest.0 (c.loop-event.invariant.honest fair);
      still = λ fair. c.loop-event.invariant.still (c.acknowledge.ensures.honest.1 fair);
      going = (one.applies.going c.loop-event.invariant.going).goes one.goes_on;
      room = omega (
        arith,
        c.loop-event.invariant.room,
        c.acknowledge.ensures.capacity,
        ap length one.acknowledged,
        length-append c.loop-event.acks.items ((g.B.Bank.panel left.array.bank).calls ∷ []),
        c.acknowledge.new.acks.ok.0,
        c.loop-event.acks.ok.0,
      );
      done = rw (map_more event_of events i blank within)
          (done_one_more (g.B.Bank.honest its.array.bank) (g.B.Bank.honest there.array.bank) (map event_of (take i events))
          (event_of (get_or events i blank))
          (store_view its)
          (store_view there)
          (store_view left)
          c.args.acks.now.items c.loop-event.acks.items c.acknowledge.new.acks.items c.loop-event.invariant.honest c.loop-event.invariant.done one);
    }

pub returns-in_err-acknowledge-clause-runs : goal.returns-in_err-acknowledge-clause-runs
returns-in_err-acknowledge-clause-runs g c =
    let its = c.args.self.now in
    let there = c.loop-event.self in
    let left = c.acknowledge.new.self in
    let i = c.loop-event.event-index in
    let events = c.args.events.now in
    let within : i < length events = omega arith in
    let p = err_from_is_err_and c.from_residual-in_err-acknowledge.result c.from_residual-in_err-acknowledge.ensures.1 in
    rw (p.1, p.2) record {
      ended = λ refusal is. absurd (none-some refusal (sym c.in_default.is ∙ is));
      going = λ goes. run_ends (g.B.Bank.honest its.array.bank) (g.B.Bank.honest there.array.bank) (map event_of events) (map event_of (take i events))
          (map event_of (drop (i + 1) events))
          (event_of (get_or events i blank))
          (store_view its)
          (store_view there)
          (store_view left)
          c.args.acks.now.items c.loop-event.acks.items c.acknowledge.new.acks.items c.in_err-acknowledge.field-0.0 c.loop-event.invariant.honest
          (parts_at event_of events i blank within)
          c.loop-event.invariant.done c.in_err-acknowledge.ensures.acknowledges;
    }

pub returns-clause-runs : goal.returns-clause-runs
returns-clause-runs g c =
    let all : length c.args.events.now ≤ c.loop-event.event-index = omega arith in
    record { ended = λ refusal is. absurd (none-some refusal (sym c.in_default.is ∙ is)); going = λ goes. rw take_all at c.loop-event.invariant.done }

-- A run that had room is not refused for want of memory.
pub returns-in_err-reserve-clause-memory : goal.returns-in_err-reserve-clause-memory
returns-in_err-reserve-clause-memory g c = λ goes room is. omega (arith, room, c.in_err-reserve.ensures.full)

pub returns-in_err-acknowledge-clause-memory : goal.returns-in_err-acknowledge-clause-memory
returns-in_err-acknowledge-clause-memory g c =
    let p = err_from_is_err_and c.from_residual-in_err-acknowledge.result c.from_residual-in_err-acknowledge.ensures.1 in
    rw (p.1, p.2) (λ goes room is. ended_not_memory c.in_err-acknowledge.field-0.0 c.in_err-acknowledge.ensures.acknowledges.ends
    (Err c.in_err-acknowledge.field-0.0) refl is)

pub returns-in-Some-clause-honest : goal.returns-in-Some-clause-honest
returns-in-Some-clause-honest g c = (λ fair. fair, λ fair. fair)

pub returns-in-Some-clause-runs : goal.returns-in-Some-clause-runs
returns-in-Some-clause-runs g c =
    let its = c.args.self.now in
    run_stays_ended (g.B.Bank.honest its.array.bank) (map event_of c.args.events.now)
    (store_view its) c.args.acks.now.items c.in-Some.refusal c.in-Some.is

pub returns-in-Some-clause-memory : goal.returns-in-Some-clause-memory
returns-in-Some-clause-memory g c = λ goes. absurd (none-some c.in-Some.refusal (sym goes ∙ c.in-Some.is))

pub returns-in_err-reserve-clause-honest : goal.returns-in_err-reserve-clause-honest
returns-in_err-reserve-clause-honest g c = (λ fair. fair, λ fair. fair)

pub returns-in_err-reserve-clause-runs : goal.returns-in_err-reserve-clause-runs
returns-in_err-reserve-clause-runs g c =
    let p = err_from_is_err_and c.from_residual.result c.from_residual.ensures.1 in
    rw (p.1, p.2) record {
      ended = λ refusal is. absurd (none-some refusal (sym c.in_default.is ∙ is));
      going = λ goes. record { same = refl; none_acknowledged = c.reserve.ensures.items };
    }

pub acknowledge-requires-clause-going : goal.acknowledge-requires-clause-going
acknowledge-requires-clause-going g c = c.loop-event.invariant.going

pub acknowledge-requires-clause-room : goal.acknowledge-requires-clause-room
acknowledge-requires-clause-room g c = omega (arith, c.loop-event.invariant.room)

pub returns-in_err-acknowledge-clause-honest : goal.returns-in_err-acknowledge-clause-honest
returns-in_err-acknowledge-clause-honest g c =
    (λ fair. c.acknowledge.ensures.honest.0 (c.loop-event.invariant.honest fair), λ fair. c.loop-event.invariant.still (c.acknowledge.ensures.honest.1 fair))

pub returns-clause-honest : goal.returns-clause-honest
returns-clause-honest g c = (c.loop-event.invariant.honest, c.loop-event.invariant.still)

pub returns-clause-memory : goal.returns-clause-memory
returns-clause-memory g c = λ goes room is. absurd (done_not_refused Memory is)
