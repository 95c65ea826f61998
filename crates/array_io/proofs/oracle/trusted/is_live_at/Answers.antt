use Rattle.std.proofs.Common.{ℕ, ◌<◌, ◌↔◌, IsTrue, subst, arith, vec_len}
use Rattle.std.proofs.lemmas.Bool.{false≢true}
use Rattle.std.proofs.lemmas.Option.{slice_get_read}
use Rattle.sector_model.specs.Memory.{sectors_in, slots_of}
use Rattle.superblock.specs.Counted.{Content, IsLive}
use Rattle.array_io.proofs.Oracles.Evaluated.{at_slot, live_within}
use Rattle.array_io.proofs.oracle.trusted.is_live_at.Goals as goal

pub index-requires : goal.index-requires
index-requires c = omega (arith, c.len-devices.ensures, c.if-slot-devices.true)

pub returns-then-slot-devices : goal.returns-then-slot-devices
returns-then-slot-devices c =
    let slots = c.args.image.now.slots in
    let within : c.args.slot < vec_len slots = omega (arith, c.len-devices.ensures, c.if-slot-devices.true) in
    let stands = at_slot slots.items c.args.slot c.index.result.now
    (slice_get_read slots.items (vec_len slots) c.args.slot c.index.result.now slots.ok.0 within c.index.ensures) in
    subst (λ (content : Content). IsTrue c.is_live_in.result ↔ IsLive (vec_len slots) c.args.table.now c.args.slot content) stands
    (subst (λ (devices : ℕ). IsTrue c.is_live_in.result ↔ IsLive devices c.args.table.now c.args.slot (sectors_in c.index.result.now)) c.len-devices.ensures
    c.is_live_in.ensures)

pub returns-else-slot-devices : goal.returns-else-slot-devices
returns-else-slot-devices c = (
  λ no. absurd (false≢true no),
  λ live. absurd (omega (
    arith,
    c.len-devices.ensures,
    c.if-slot-devices.false,
    live_within (vec_len c.args.image.now.slots) c.args.table.now c.args.slot (slots_of c.args.image.now.slots.items c.args.slot) live,
  )),
)
