use Rattle.std.proofs.Common.{◌≡◌, None, Some, ap, ◌∙◌, arith}
use Rattle.extents.proofs.Same.{made_name, same_record}
use Rattle.extents.proofs.Spelled.{length_read, name_read, blocks_read_at}
use Rattle.extents.proofs.Versions.{numbers_fit}
use Rattle.extents.proofs.record_codec.read_used.Goals as goal

pub bounds-from-0 : goal.bounds-from-0
bounds-from-0 c = omega (arith, c.requires, (numbers_fit c.args.version).blocks)

pub slice_bounds-new-end : goal.slice_bounds-new-end
slice_bounds-new-end c = omega (
  arith,
  c.requires,
  c.most_name_bytes.ensures,
  c.if-length-most_name_bytes.false,
  (numbers_fit c.args.version).name,
  (numbers_fit c.args.version).blocks,
)

pub slice_bounds-read_u32-end : goal.slice_bounds-read_u32-end
slice_bounds-read_u32-end c = omega (arith, c.requires, c.blocks_at-at.ensures.number, (numbers_fit c.args.version).blocks)

pub returns-then-length-most_name_bytes-clause-exact : goal.returns-then-length-most_name_bytes-clause-exact
returns-then-length-most_name_bytes-clause-exact c = λ r short is.
    absurd (omega (
      arith,
      length_read c.args.version c.args.from.now r short is,
      c.most_name_bytes.ensures,
      c.if-length-most_name_bytes.true,
      c.from-length.ensures,
    ))

pub returns-in_err-name-clause-exact : goal.returns-in_err-name-clause-exact
returns-in_err-name-clause-exact c = λ r short is. absurd (
    let read = name_read c.args.version c.args.from.now r c.from-length.result _ is c.from-length.ensures (omega arith) in
    let made : c.new.result ≡ Some r.name = made_name c.new.result _ c.new.ensures.good c.new.ensures.same r.name read in
    let none : c.new.result ≡ None = c.in_err-name.was in
    let no : ⊥ = cc in no)

pub returns-then-blocks-lt1-clause-exact : goal.returns-then-blocks-lt1-clause-exact
returns-then-blocks-lt1-clause-exact c = λ r short is. absurd (
    let read : c.read_u32-blocks.result ≡ r.blocks = c.read_u32-blocks.ensures
    ∙ blocks_read_at c.args.version c.args.from.now r c.blocks_at-at.result short c.blocks_at-at.ensures.number is in
    let some = r.some in
    omega (arith, c.if-blocks-lt1.true))

pub returns-clause-exact : goal.returns-clause-exact
returns-clause-exact c = λ r short is.
    let read = name_read c.args.version c.args.from.now r c.from-length.result _ is c.from-length.ensures (omega arith) in
    let blocks : c.read_u32-blocks.result ≡ r.blocks = c.read_u32-blocks.ensures
    ∙ blocks_read_at c.args.version c.args.from.now r c.blocks_at-at.result short c.blocks_at-at.ensures.number is in
    ap (λ (one : _). Some one) (same_record _ r (c.in_ok-name.ensures.same ∙ read) blocks)
