use Rattle.std.proofs.Common.{sym, ◌∙◌, arith, vec_len}
use Rattle.std.proofs.lemmas.Bool.{false≢true}
use Rattle.std.proofs.lemmas.Option.{slice_get_read}
use Rattle.sector_model.specs.Memory.{sectors_in, slots_of}
use Rattle.array_io.proofs.Oracles.Evaluated.{at_slot, live_within, sealed_live}
use Rattle.array_io.proofs.oracle.last_entry.sealed_at.Goals as goal

pub returns-then-not-is_live_at : goal.returns-then-not-is_live_at
returns-then-not-is_live_at c = λ place seal live counts. absurd (false≢true (sym c.if-not-is_live_at.true ∙ c.is_live_at.ensures.1 live))

pub returns-then-slot-len : goal.returns-then-slot-len
returns-then-slot-len c =
    sealed_live (vec_len c.args.image.now.slots) c.args.table.now (slots_of c.args.image.now.slots.items) c.args.slot (sectors_in c.index.result.now)
    c.last_sealed_in.result (at_slot c.args.image.now.slots.items c.args.slot c.index.result.now
    (slice_get_read c.args.image.now.slots.items (vec_len c.args.image.now.slots) c.args.slot c.index.result.now c.args.image.now.slots.ok.0
    (omega (arith, c.if-slot-len.true, c.len.ensures)) c.index.ensures))
    (c.is_live_at.ensures.0 c.if-not-is_live_at.false)
    c.last_sealed_in.ensures

pub returns-else-slot-len : goal.returns-else-slot-len
returns-else-slot-len c = λ place seal live counts.
    absurd (omega (
      arith,
      c.if-slot-len.false,
      live_within (vec_len c.args.image.now.slots) c.args.table.now c.args.slot
          (slots_of c.args.image.now.slots.items c.args.slot) live,
    ))
