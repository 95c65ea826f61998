use Rattle.std.proofs.Common.{◌∙◌, take, refl, arith}
use Rattle.superblock.specs.Spelling.{end_mark, zeros}
use Rattle.superblock.specs.Tables.{incarnation_at}
use Rattle.superblock.proofs.Parts.{begins_with, begins_field, begins_number, begins_all, part_long}
use Rattle.superblock.proofs.Spelled.{length-end_mark, length-zeros, zeros_are, tail_after}
use Rattle.superblock.proofs.codec.write_tail.Goals as goal

pub returns : goal.returns
returns c =
    let s = c.args.superblock.now in
    let front = take 200 c.args.to.now in
    let placed = begins_number 200 312 208 8 s.table.position _ c.write_u64.new.buf front (begins_with 200 c.args.to.now c.told-to) refl (omega arith) refl
    c.write_u64.ensures in
    let owned = begins_number 208 304 216 8 (incarnation_at s.table.incarnations s.role) _ c.write_u64-2.new.buf _ placed refl (omega arith) refl
    c.write_u64-2.ensures in
    let filled = begins_field 216 288 504 _ c.fill.new.self (zeros 288) _ owned refl (omega arith)
    (c.fill.ensures.after (λ y same. cc) ∙ zeros_are _ 288 (part_long 216 288 _ _ owned (omega arith))) (length-zeros 288) in
    let ended = begins_field 504 8 512 _ c.copy_from_slice.new.self (end_mark s.table.geometry.format) _ filled refl (omega arith)
    (c.copy_from_slice.ensures.after ∙ c.end_mark_of.ensures) (length-end_mark s.table.geometry.format) in
    begins_all _ _ ended ∙ tail_after front s
