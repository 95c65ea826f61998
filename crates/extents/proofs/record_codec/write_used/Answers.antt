use Rattle.std.proofs.Common.{◌≡◌, ◌-◌, ◌+◌, List, ℕ, length, set, sym, ap, ◌∙◌, arith}
use borrow.Rule.Slice.PartMut.{put_mid}
use Rattle.byteorder.specs.Endian.{little_bytes}
use Rattle.extents.specs.Versions.{record_width}
use Rattle.extents.proofs.Bytes.{long_zeros, length-put_mid}
use Rattle.std.proofs.lemmas.List.{length-set}
use Rattle.extents.proofs.Spelled.{used_spelled, written_at}
use Rattle.extents.proofs.Versions.{numbers_fit}
use Rattle.extents.proofs.record_codec.write_used.Goals as goal

pub bounds-to-0 : goal.bounds-to-0
bounds-to-0 c = omega (arith, long_zeros (record_width c.args.version) c.args.to.now c.requires.clear, (numbers_fit c.args.version).blocks)

pub slice_bounds-copy_from_slice-end : goal.slice_bounds-copy_from_slice-end
slice_bounds-copy_from_slice-end c =
    omega (
      arith,
      length-set c.args.to.now 0 (length c.bytes-name.result.now),
      long_zeros (record_width c.args.version) c.args.to.now c.requires.clear,
      ap length c.bytes-name.ensures,
      c.requires.short,
      (numbers_fit c.args.version).name,
      (numbers_fit c.args.version).blocks,
    )

pub slice_bounds-write_u32-end : goal.slice_bounds-write_u32-end
slice_bounds-write_u32-end c =
    let n = length c.bytes-name.result.now in
    let start = set c.args.to.now 0 n in
    let long : length start ≡ length c.args.to.now = length-set c.args.to.now 0 n in
    let clear = long_zeros (record_width c.args.version) c.args.to.now c.requires.clear in
    let name = ap length c.bytes-name.ensures in
    let short = c.requires.short in
    let fits = (numbers_fit c.args.version).name in
    let ends = (numbers_fit c.args.version).blocks in
    let written : length c.copy_from_slice.new.self ≡ 1 + n - 1 = omega (arith, ap length c.copy_from_slice.ensures.after) in
    omega (
      arith,
      length-put_mid 1 (1 + n - 1) start c.copy_from_slice.new.self (omega arith) written,
      long_zeros (record_width c.args.version) c.args.to.now
          c.requires.clear,
      c.blocks_at-at.ensures.number,
      (numbers_fit c.args.version).blocks,
    )

pub returns : goal.returns
returns c =
    let name = c.args.used.now.name.bytes.items in
    let n = length c.bytes-name.result.now in
    let at = c.blocks_at-at.result in
    let same : c.copy_from_slice.new.self ≡ name = c.copy_from_slice.ensures.after ∙ c.bytes-name.ensures in
    let long : length name ≡ n = sym (ap length c.bytes-name.ensures) in
    let number : c.write_u32.new.buf ≡ little_bytes 4 c.args.used.now.blocks = c.write_u32.ensures
    ∙ written_at at 4 (little_bytes 4 c.args.used.now.blocks) _ in
    let k : 1 + n - 1 ≡ n = omega arith in
    let four : at + 4 - at ≡ 4 = omega arith in
    ap (λ (xs : List ℕ). put_mid at (at + 4 - at) (put_mid 1 (1 + n - 1) (set c.args.to.now 0 n) xs) c.write_u32.new.buf) same
    ∙ ap (λ (m : ℕ). put_mid at (at + 4 - at) (put_mid 1 m (set c.args.to.now 0 n) name) c.write_u32.new.buf) k
    ∙ ap (λ (m : ℕ). put_mid at m (put_mid 1 n (set c.args.to.now 0 n) name) c.write_u32.new.buf) four
    ∙ ap (λ (b : ℕ). put_mid b 4 (put_mid 1 n (set c.args.to.now 0 n) name) c.write_u32.new.buf) c.blocks_at-at.ensures.number
    ∙ used_spelled c.args.version c.args.used.now c.args.to.now c.write_u32.new.buf n c.requires.short c.requires.clear long number
