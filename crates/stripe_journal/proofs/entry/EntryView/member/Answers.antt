use Rattle.std.proofs.Common.{arith, sym, ◌∙◌}
use Rattle.entry_runs.specs.Body.{has_bit}
use Rattle.entry_runs.proofs.Counts.{count_beyond}
use Rattle.layout_map.specs.declared.sizes.TheConstants.{MOST_MEMBERS}
use Rattle.stripe_journal.proofs.entry.EntryView.member.Goals as goal

pub bounds-self-bits_below : goal.bounds-self-bits_below
bounds-self-bits_below c =
    let row = c.args.self.now in
    let held = sym c.has_bit.ensures ∙ c.if-has_bit.true in
    omega (arith, c.bits_below.ensures.bits, c.requires.whole, count_beyond (has_bit row.mask) c.args.member MOST_MEMBERS held c.requires.member)
