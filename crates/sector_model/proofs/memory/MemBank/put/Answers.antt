use Rattle.std.proofs.Common.{refl, ◌≡◌, ◌<◌, ◌+◌, [], ◌∷◌, ◌++◌, vec_len, vec_capacity, slice_set, length, List, sym, subst, ◌∙◌, ap, arith}
use Rattle.std.specs.Vec.{with_item}
use Rattle.std.proofs.lemmas.Grind.{common_steps}
use Rattle.sector_model.specs.declared.memory.Entry.{Entry}
use Rattle.sector_model.specs.declared.event.Event.TheVariants.{Wrote}
use Rattle.sector_model.specs.History.{Bytes}
use Rattle.sector_model.specs.Memory.{IsInOrder, slots_of, run_of}
use Rattle.sector_model.proofs.Copies.{contents_at}
use Rattle.sector_model.proofs.Replay.{replayed_write, sizes-write, run-entry, order_entry}
use Rattle.sector_model.proofs.memory.MemBank.put.Goals as goal

pub index_mut-requires-2 : goal.index_mut-requires-2
index_mut-requires-2 c =
    let m = c.args.self.now in
    let device : c.args.dev < vec_len m.down = c.requires.slot in
    let here = contents_at m.disks.items c.args.dev c.index_mut.result.now (omega (arith, m.disks.ok.0, m.whole, device)) c.index_mut.ensures.value in
    omega (arith, ap length here, c.requires.within)

pub invariant_of-self-clause-space : goal.invariant_of-self-clause-space
invariant_of-self-clause-space c =
    let m = c.args.self.now in
    omega (arith, m.space, c.requires.room, c.push.ensures.len, c.push.ensures.upper_bound, c.push.ensures.capacity)

pub invariant_of-self-clause-replayed : goal.invariant_of-self-clause-replayed
invariant_of-self-clause-replayed c =
    let m = c.args.self.now in
    let device : c.args.dev < vec_len m.down = c.requires.slot in
    let within : c.args.dev < vec_len m.disks = omega (arith, device, m.whole) in
    let room : vec_len m.log < vec_capacity m.log = omega (arith, c.requires.room, m.space) in
    let pushed : c.push.new.self.items ≡ m.log.items ++ record { call = m.calls; event = Wrote c.args.dev c.args.at c.args.value.now } ∷ [] =
    grind (arith, common_steps, c.push.ensures.succeeds room) in
    let here = contents_at m.disks.items c.args.dev c.index_mut.result.now (omega (arith, m.disks.ok.0, within)) c.index_mut.ensures.value in
    rw pushed
    (replayed_write m.start.items m.log.items m.calls m.disks.items m.down.items c.args.dev c.args.at c.args.value.now
    (with_item c.index_mut.result.now c.args.at c.args.value.now) m.replayed (omega (arith, m.disks.ok.0, within))
    (ap (λ (l : List Bytes). slice_set l c.args.at c.args.value.now) (sym here)) c.told-value)

pub returns-clause-run : goal.returns-clause-run
returns-clause-run c =
    let m = c.args.self.now in
    let room : vec_len m.log < vec_capacity m.log = omega (arith, c.requires.room, m.space) in
    let pushed : c.push.new.self.items ≡ m.log.items ++ record { call = m.calls; event = Wrote c.args.dev c.args.at c.args.value.now } ∷ [] =
    grind (arith, common_steps, c.push.ensures.succeeds room) in
    ap (λ (log : List Entry). run_of (slots_of m.start.items) log (m.calls + 1)) pushed
    ∙ run-entry (slots_of m.start.items) m.log.items m.calls (Wrote c.args.dev c.args.at c.args.value.now) m.replayed.early

pub returns-clause-sizes : goal.returns-clause-sizes
returns-clause-sizes c =
    let m = c.args.self.now in
    let device : c.args.dev < vec_len m.down = c.requires.slot in
    let within : c.args.dev < vec_len m.disks = omega (arith, device, m.whole) in
    let here = contents_at m.disks.items c.args.dev c.index_mut.result.now (omega (arith, m.disks.ok.0, within)) c.index_mut.ensures.value in
    sizes-write m.disks.items c.args.dev c.args.at c.args.value.now (with_item c.index_mut.result.now c.args.at c.args.value.now)
    (omega (arith, m.disks.ok.0, within)) (ap (λ (l : List Bytes). slice_set l c.args.at c.args.value.now) (sym here))

pub invariant_of-self-clause-in_order : goal.invariant_of-self-clause-in_order
invariant_of-self-clause-in_order c =
    let m = c.args.self.now in
    let room : vec_len m.log < vec_capacity m.log = omega (arith, c.requires.room, m.space) in
    let pushed : c.push.new.self.items ≡ m.log.items ++ record { call = m.calls; event = Wrote c.args.dev c.args.at c.args.value.now } ∷ [] =
    grind (arith, common_steps, c.push.ensures.succeeds room) in
    subst IsInOrder (sym pushed) (order_entry m.calls m.log.items (Wrote c.args.dev c.args.at c.args.value.now) m.in_order m.replayed.early)

pub returns-clause-calls : goal.returns-clause-calls
returns-clause-calls c = refl

pub returns-clause-down : goal.returns-clause-down
returns-clause-down c = refl

pub returns-clause-plan : goal.returns-clause-plan
returns-clause-plan c = refl

pub invariant_of-self-clause-least : goal.invariant_of-self-clause-least
invariant_of-self-clause-least c = c.args.self.now.least

pub invariant_of-self-clause-most : goal.invariant_of-self-clause-most
invariant_of-self-clause-most c = c.args.self.now.most

pub invariant_of-self-clause-whole : goal.invariant_of-self-clause-whole
invariant_of-self-clause-whole c = c.args.self.now.whole

pub invariant_of-self-clause-slots : goal.invariant_of-self-clause-slots
invariant_of-self-clause-slots c = c.args.self.now.slots
