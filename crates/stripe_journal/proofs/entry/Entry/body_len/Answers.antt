use Rattle.std.proofs.Common.{ℕ, ◌∙◌, length, sym, ap, arith}
use Rattle.entry_runs.specs.Body.{bits_below}
use Rattle.stripe_journal.specs.Entries.{form_of, numbers_of}
use Rattle.stripe_journal.specs.Forms.{held_before}
use Rattle.stripe_journal.proofs.Entries.{length-body}
use Rattle.stripe_journal.proofs.EntryRows.{before_held}
use Rattle.stripe_journal.proofs.Masks.{before_on}
use Rattle.stripe_journal.proofs.entry.Entry.body_len.Goals as goal

pub loop-i-preserved : goal.loop-i-preserved
loop-i-preserved c = record {
  most = omega (arith, c.loop-i-test.true, c.len-i-end.ensures);
  count = omega (
    arith,
    c.loop-i.invariant.count,
    before_on c.args.members (form_of c.args.self.now) c.loop-i.i,
    c.bits_below-count.ensures.bits,
    ap (λ (mask : ℕ). bits_below mask c.args.members) c.listed.ensures.mask,
  );
}

pub overflow_add-count : goal.overflow_add-count
overflow_add-count c =
    omega (
      arith,
      c.loop-i.invariant.count,
      before_held c.args.members c.args.self.now c.loop-i.i c.requires c.loop-i.invariant.most,
      c.bits_below-count.ensures.most,
      c.requires,
    )

pub returns : goal.returns
returns c =
    let entry = c.args.self.now in
    c.loop-i.invariant.count
    ∙ ap (held_before c.args.members (form_of entry)) (omega (arith, c.loop-i.invariant.most, c.loop-i-test.false, c.len-i-end.ensures))
    ∙ sym (length-body c.args.members entry)
