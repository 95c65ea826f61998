use Rattle.std.proofs.Common.{◌≡◌, ◌<◌, ◌≤◌, [], length, sym, ◌∙◌, ap, subst, arith, vec_len}
use Rattle.std.proofs.lemmas.List.{get_or_default}
use Rattle.std.proofs.lemmas.Option.{slice_get_past, slice_get_read}
use Rattle.sector_model.specs.History.{disk_of, sector_of}
use Rattle.sector_model.specs.Memory.{sectors_in, slot_in}
use Rattle.superblock.specs.Counted.{Content}
use Rattle.array_io.proofs.Oracles.Evaluated.{at_slot}
use Rattle.array_io.proofs.oracle.one_row.sector_at.Goals as goal

pub index-requires : goal.index-requires
index-requires c = omega (arith, c.len.ensures, c.if-slot-len.false)

pub index-requires-then-at-len : goal.index-requires-then-at-len
index-requires-then-at-len c = omega (arith, c.len-in-Some.ensures, c.if-at-len.true)

pub returns-then-slot-len : goal.returns-then-slot-len
returns-then-slot-len c = λ inside.
    let slots = c.args.image.now.slots in
    let past : length slots.items ≤ c.args.slot = omega (arith, c.len.ensures, slots.ok.0, c.if-slot-len.true) in
    absurd (omega (arith, inside, ap (λ s. length (disk_of (slot_in s))) (slice_get_past slots.items c.args.slot past)))

pub returns-then-at-len : goal.returns-then-at-len
returns-then-at-len c = λ inside.
    let slots = c.args.image.now.slots in
    let disk = c.in-Some.disk in
    let within : c.args.slot < vec_len slots = omega (arith, c.len.ensures, c.if-slot-len.false) in
    let stands = sym (at_slot slots.items c.args.slot c.index.result.now
    (slice_get_read slots.items (vec_len slots) c.args.slot c.index.result.now slots.ok.0 within c.index.ensures))
    ∙ ap sectors_in c.in-Some.is in
    let below : c.args.at < length disk.items = omega (arith, c.len-in-Some.ensures, disk.ok.0, c.if-at-len.true) in
    subst (λ (content : Content). c.index-then-at-len.result.now ≡ sector_of (disk_of content) c.args.at) (sym stands)
    (c.index-then-at-len.ensures ∙ get_or_default disk.items c.args.at c.index-then-at-len.result.now [] below)

pub returns-else-at-len : goal.returns-else-at-len
returns-else-at-len c = λ inside.
    let slots = c.args.image.now.slots in
    let disk = c.in-Some.disk in
    let within : c.args.slot < vec_len slots = omega (arith, c.len.ensures, c.if-slot-len.false) in
    let stands = sym (at_slot slots.items c.args.slot c.index.result.now
    (slice_get_read slots.items (vec_len slots) c.args.slot c.index.result.now slots.ok.0 within c.index.ensures))
    ∙ ap sectors_in c.in-Some.is in
    absurd (omega (arith, inside, ap (λ (s : Content). length (disk_of s)) stands, c.len-in-Some.ensures, disk.ok.0, c.if-at-len.false))

pub returns-in-None : goal.returns-in-None
returns-in-None c = λ inside.
    let slots = c.args.image.now.slots in
    let within : c.args.slot < vec_len slots = omega (arith, c.len.ensures, c.if-slot-len.false) in
    let stands = sym (at_slot slots.items c.args.slot c.index.result.now
    (slice_get_read slots.items (vec_len slots) c.args.slot c.index.result.now slots.ok.0 within c.index.ensures))
    ∙ ap sectors_in c.in-None.is in
    absurd (omega (arith, inside, ap (λ (s : Content). length (disk_of s)) stands))
