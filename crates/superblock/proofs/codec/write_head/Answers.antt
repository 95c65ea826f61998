use Rattle.std.proofs.Common.{refl, ◌∙◌, arith}
use Rattle.superblock.specs.Spelling.{begin_mark, head_bytes}
use Rattle.superblock.proofs.Parts.{Begins, begins_first, begins_field, begins_number, begins_byte}
use Rattle.superblock.proofs.Spelled.{length-begin_mark}
use Rattle.superblock.proofs.codec.write_head.Goals as goal

pub returns : goal.returns
unfolding head_bytes
returns c =
    let s = c.args.superblock.now in
    let mark = begin_mark s.table.geometry.format in
    let marked : Begins 8 _ mark = begins_first 8 c.args.to.now c.copy_from_slice.new.self mark c.told-to (omega arith)
    (c.copy_from_slice.ensures.after ∙ c.begin_mark_of.ensures) (length-begin_mark s.table.geometry.format) in
    let named = begins_field 8 16 24 _ c.copy_from_slice-2.new.self s.table.id mark marked refl (omega arith) c.copy_from_slice-2.ensures.after
    s.table.id_long in
    let numbered = begins_number 24 488 32 8 s.table.generation _ c.write_u64.new.buf _ named refl (omega arith) refl c.write_u64.ensures in
    let sized = begins_byte 32 33 s.table.geometry.members _ _ numbered (omega arith) refl in
    let assigned = begins_byte 33 34 s.role _ _ sized (omega arith) refl in
    let chunked = begins_number 34 478 36 2 s.table.geometry.chunk _ c.write_u16.new.buf _ assigned refl (omega arith) refl c.write_u16.ensures in
    let striped = begins_number 36 476 40 4 s.table.geometry.stripes _ c.write_u32.new.buf _ chunked refl (omega arith) refl c.write_u32.ensures in
    striped.front_is
