use Rattle.std.proofs.Common.{ℕ, ap, arith}
use Rattle.std.specs.Prelude.{count_ones}
use Rattle.entry_runs.specs.Body.{bits_below}
use Rattle.stripe_journal.proofs.EntryRows.{all_held, before_row}
use Rattle.stripe_journal.proofs.entry.Entry.place.Goals as goal

pub returns-clause-place : goal.returns-clause-place
returns-clause-place c =
    omega (
      arith,
      c.listed-row.ensures.before,
      before_row c.args.self.now c.args.i (omega (arith, c.requires.row)),
      c.bits_below.ensures.bits,
      ap (λ (mask : ℕ). bits_below mask c.args.member) c.listed-row.ensures.mask,
    )

pub returns-clause-most : goal.returns-clause-most
returns-clause-most c =
    omega (
      arith,
      c.listed-row.ensures.within,
      ap count_ones c.listed-row.ensures.mask,
      all_held c.args.self.now c.args.i,
      c.bits_below.ensures.bits,
      ap (λ (mask : ℕ). bits_below mask c.args.member) c.listed-row.ensures.mask,
    )
