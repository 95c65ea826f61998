use Rattle.std.proofs.Common.{refl, ◌≡◌, ◌<◌, ◌+◌, [], ◌∷◌, ◌++◌, vec_len, vec_capacity, List, sym, subst, ◌∙◌, ap, arith}
use Rattle.std.proofs.lemmas.Grind.{common_steps}
use Rattle.sector_model.specs.declared.memory.Entry.{Entry}
use Rattle.sector_model.specs.declared.event.Event.TheVariants.{Flushed}
use Rattle.sector_model.specs.Memory.{IsInOrder, IsReplayed, slots_of, run_of}
use Rattle.sector_model.proofs.Replay.{replayed_flush, run-entry, order_entry}
use Rattle.sector_model.proofs.memory.MemBank.settle.Goals as goal

pub invariant_of-self-clause-space : goal.invariant_of-self-clause-space
invariant_of-self-clause-space c =
    let m = c.args.self.now in
    omega (arith, m.space, c.requires.room, c.push.ensures.len, c.push.ensures.upper_bound, c.push.ensures.capacity)

pub invariant_of-self-clause-replayed : goal.invariant_of-self-clause-replayed
invariant_of-self-clause-replayed c =
    let m = c.args.self.now in
    let room : vec_len m.log < vec_capacity m.log = omega (arith, c.requires.room, m.space) in
    let pushed : c.push.new.self.items ≡ m.log.items ++ record { call = m.calls; event = Flushed c.args.dev } ∷ [] =
    grind (arith, common_steps, c.push.ensures.succeeds room) in
    subst (λ (log : List Entry). IsReplayed m.start.items log (m.calls + 1) m.disks.items m.down.items) (sym pushed)
    (replayed_flush m.start.items m.log.items m.calls m.disks.items m.down.items c.args.dev m.replayed)

pub returns-clause-run : goal.returns-clause-run
returns-clause-run c =
    let m = c.args.self.now in
    let room : vec_len m.log < vec_capacity m.log = omega (arith, c.requires.room, m.space) in
    let pushed : c.push.new.self.items ≡ m.log.items ++ record { call = m.calls; event = Flushed c.args.dev } ∷ [] =
    grind (arith, common_steps, c.push.ensures.succeeds room) in
    ap (λ (log : List Entry). run_of (slots_of m.start.items) log (m.calls + 1)) pushed
    ∙ run-entry (slots_of m.start.items) m.log.items m.calls (Flushed c.args.dev) m.replayed.early

pub invariant_of-self-clause-in_order : goal.invariant_of-self-clause-in_order
invariant_of-self-clause-in_order c =
    let m = c.args.self.now in
    let room : vec_len m.log < vec_capacity m.log = omega (arith, c.requires.room, m.space) in
    let pushed : c.push.new.self.items ≡ m.log.items ++ record { call = m.calls; event = Flushed c.args.dev } ∷ [] =
    grind (arith, common_steps, c.push.ensures.succeeds room) in
    subst IsInOrder (sym pushed) (order_entry m.calls m.log.items (Flushed c.args.dev) m.in_order m.replayed.early)

pub returns-clause-calls : goal.returns-clause-calls
returns-clause-calls c = refl

pub returns-clause-down : goal.returns-clause-down
returns-clause-down c = refl

pub returns-clause-disks : goal.returns-clause-disks
returns-clause-disks c = refl

pub returns-clause-plan : goal.returns-clause-plan
returns-clause-plan c = refl

pub invariant_of-self-clause-least : goal.invariant_of-self-clause-least
invariant_of-self-clause-least c = c.args.self.now.least

pub invariant_of-self-clause-most : goal.invariant_of-self-clause-most
invariant_of-self-clause-most c = c.args.self.now.most

pub invariant_of-self-clause-whole : goal.invariant_of-self-clause-whole
invariant_of-self-clause-whole c = c.args.self.now.whole

pub invariant_of-self-clause-slots : goal.invariant_of-self-clause-slots
invariant_of-self-clause-slots c = c.args.self.now.slots
