use Rattle.set_sizes.proofs.Growing.{at_refusal, none_lies}
use Rattle.set_sizes.proofs.choice.most_for.Goals as goal

pub returns-clause-none : goal.returns-clause-none
returns-clause-none c = at_refusal c.large.result
    (λ refused. none_lies c.ranges.sectors.fits (λ is_set. refused (c.large.ensures.within.1 (rw (c.from.ensures, c.saturating_sub-rows.ensures) is_set))))
