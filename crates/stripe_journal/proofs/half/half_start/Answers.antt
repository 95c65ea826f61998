use Rattle.std.proofs.Common.{ℕ, ◌+◌, ◌%◌, ◌*◌, ap}
use Rattle.stripe_journal.specs.Entries.{half_start}
use Rattle.stripe_journal.proofs.Halves.{half_end}
use Rattle.stripe_journal.proofs.half.half_start.Goals as goal

pub returns-clause-start : goal.returns-clause-start
unfolding half_start
returns-clause-start c = ap (λ (n : ℕ). 8 + n * (c.args.number % 2)) c.body_sectors.ensures

pub returns-clause-end : goal.returns-clause-end
unfolding half_start
returns-clause-end c =
    rw c.body_sectors.ensures (half_end c.args.format c.args.number)
