use Rattle.std.proofs.Common.{refl, ap, arith}
use Rattle.report.specs.Fields.{fields_left}
use Rattle.report.proofs.KeepLemmas.{KeptSoFar-all, KeptSoFar-more, KeptSoFar-none, KeptSoFar-not, KeptSoFar-past}
use Rattle.report.proofs.parse.block.keep_blocks.Goals as goal

pub fields-init : goal.fields-init
fields-init c =
    let all = fields_left c.args.fields in
    rw (ap fields_left c.into_iter-field-iterator.ensures.into_iter_gives) (KeptSoFar-none all c.args.to.now c.told-to)

pub returns-in_err-read_block-clause-unsaid : goal.returns-in_err-read_block-clause-unsaid
returns-in_err-read_block-clause-unsaid c = λ _.
    let all = fields_left c.args.fields in
    let step = c.in-Some.ensures.steps in
    let h = c.fields.invariant in
    KeptSoFar-not all c.in-Some.field.now (fields_left c.next.new.self) c.fields.kept c.fields.to (rw step at h) (c.in_err-read_block.ensures.unsaid refl)

pub fields-preserved-then-kept-lt-KEPT_BLOCKS : goal.fields-preserved-then-kept-lt-KEPT_BLOCKS
fields-preserved-then-kept-lt-KEPT_BLOCKS c =
    let all = fields_left c.args.fields in
    let step = c.in-Some.ensures.steps in
    let h = c.fields.invariant in
    let is = c.in_ok-read_block.ensures.said in
    KeptSoFar-more all c.in-Some.field.now (fields_left c.next.new.self) c.fields.kept c.fields.to c.read_block.new.to (rw step at h) (omega arith) is

pub fields-preserved : goal.fields-preserved
fields-preserved c =
    let all = fields_left c.args.fields in
    let step = c.in-Some.ensures.steps in
    let h = c.fields.invariant in
    let is = c.in_ok-read_block-2.ensures.said in
    KeptSoFar-past all c.in-Some.field.now (fields_left c.next.new.self) c.fields.kept c.fields.to c.read_block-else-kept-lt-KEPT_BLOCKS.new.to (rw step at h)
    (omega arith) is

pub returns-in_err-read_block-2-clause-unsaid : goal.returns-in_err-read_block-2-clause-unsaid
returns-in_err-read_block-2-clause-unsaid c = λ _.
    let all = fields_left c.args.fields in
    let step = c.in-Some.ensures.steps in
    let h = c.fields.invariant in
    KeptSoFar-not all c.in-Some.field.now (fields_left c.next.new.self) c.fields.kept c.fields.to (rw step at h) (c.in_err-read_block-2.ensures.unsaid refl)

pub returns-clause-said : goal.returns-clause-said
returns-clause-said c =
    let all = fields_left c.args.fields in
    let step = c.in-None.ensures.steps in
    let h = c.fields.invariant in
    KeptSoFar-all all c.fields.kept c.fields.to (rw step.0 at h)
