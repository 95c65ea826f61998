-- An event is done by its call; its ack is after those that were there, unless it ended the store.
use Rattle.std.proofs.Common.{refl}
use Rattle.volume_table.specs.Events.{event_of, reply_of}
use Rattle.volume_table.proofs.EndedStore.{not_ended, was_ended}
use Rattle.volume_table.specs.OpenStore.{store_view}
use Rattle.volume_table.proofs.store.Store.acknowledge.Goals as goal

pub returns-in-Some-clause-honest : goal.returns-in-Some-clause-honest
returns-in-Some-clause-honest g c = c.apply.ensures.honest

pub returns-in-Some-clause-acknowledges : goal.returns-in-Some-clause-acknowledges
returns-in-Some-clause-acknowledges g c =
    let before = c.args.self.now in
    let after = c.apply.new.self in
    was_ended (g.B.Bank.honest before.array.bank) (event_of c.args.event.now)
    (store_view before)
    (store_view after)
    c.args.acks.now.items c.in-Some.refusal (reply_of c.apply.result) c.apply.ensures.applies c.requires.going c.in-Some.is

pub returns-in-Some-clause-capacity : goal.returns-in-Some-clause-capacity
returns-in-Some-clause-capacity g c = refl

pub push_reserved-requires : goal.push_reserved-requires
push_reserved-requires g c = c.requires.room

pub returns-clause-honest : goal.returns-clause-honest
returns-clause-honest g c = c.apply.ensures.honest

pub returns-clause-acknowledges : goal.returns-clause-acknowledges
returns-clause-acknowledges g c =
    let before = c.args.self.now in
    let after = c.apply.new.self in
    record {
      reply = reply_of c.apply.result;
      applies = c.apply.ensures.applies;
      goes_on = not_ended (g.B.Bank.honest before.array.bank) (event_of c.args.event.now)
          (store_view before)
          (store_view after)
          (reply_of c.apply.result) c.apply.ensures.applies c.requires.going c.in_default.is;
      acknowledged = cc;
    }

pub returns-clause-capacity : goal.returns-clause-capacity
returns-clause-capacity g c = c.push_reserved.ensures.capacity
