use Rattle.std.proofs.Common.{Bool, true, cond, ap, replicate, sym}
use Rattle.std.proofs.lemmas.Bool.{eq-eqb}
use Rattle.entry_runs.specs.Body.{has_bit}
use Rattle.stripe_journal.specs.Entries.{sector_of_row}
use Rattle.stripe_journal.proofs.entry.EntryView.held.Goals as goal

pub returns-then-self-eq0-clause-some : goal.returns-then-self-eq0-clause-some
returns-then-self-eq0-clause-some c =
    let row = c.args.self.now in
    let zeros = eq-eqb row.mask 0 c.if-self-eq0.true in (
      ap (λ (b : Bool). cond b true (has_bit row.mask c.args.member)) zeros,
      sym (ap (λ (b : Bool). cond b (replicate 512 0) (sector_of_row row.mask row.sectors.now c.args.member)) zeros),
    )
