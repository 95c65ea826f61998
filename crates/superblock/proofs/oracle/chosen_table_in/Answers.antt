use Rattle.std.specs.Prelude.{vec_len}
use Rattle.std.proofs.Common.{◌∙◌, arith}
use Rattle.std.proofs.lemmas.Option.{slice_get_read}
use Rattle.sector_model.specs.Memory.{slots_of}
use Rattle.superblock.proofs.Newest.{chosen_at_end, none_at_end}
use Rattle.superblock.proofs.Oracles.{image_step}
use Rattle.superblock.proofs.oracle.chosen_table_in.Goals as goal

pub loop-slot-init : goal.loop-slot-init
loop-slot-init c = λ slot place s below counts. absurd (omega (arith, below))

pub loop-slot-preserved : goal.loop-slot-preserved
loop-slot-preserved c =
    let slots = c.args.image.now.slots in
    image_step c.args.id.now (vec_len slots) c.len-devices.result c.loop-slot.slot slots.items c.index.result.now c.loop-slot.best c.newest_in.result
    c.newer-best.result
    c.len-devices.ensures
    (slice_get_read slots.items c.len-devices.result c.loop-slot.slot c.index.result.now (c.len-devices.ensures ∙ slots.ok.0) c.loop-slot-test.true
    c.index.ensures)
    c.loop-slot.invariant c.newest_in.ensures.some c.newest_in.ensures.none c.newer-best.ensures

pub returns-in_err-best-clause-none : goal.returns-in_err-best-clause-none
returns-in_err-best-clause-none c = λ _. let slots = c.args.image.now.slots in
    none_at_end c.args.id.now (vec_len slots) c.loop-slot.slot (slots_of slots.items) c.loop-slot.best
    (omega (arith, c.len-devices.ensures)) c.loop-slot.invariant c.in_err-best.was

pub returns-clause-some : goal.returns-clause-some
returns-clause-some c = let slots = c.args.image.now.slots in
    chosen_at_end c.args.id.now (vec_len slots) c.loop-slot.slot (slots_of slots.items) c.loop-slot.best c.in_ok-best.field-0
    (omega (arith, c.len-devices.ensures)) c.loop-slot.invariant c.in_ok-best.was
