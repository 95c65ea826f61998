-- A scrub is that of all rows.
use Rattle.std.proofs.Common.{subst}
use Rattle.array_io.specs.Believed.OpenArray.{array_view}
use Rattle.scrub.specs.Reports.{told_by}
use Rattle.scrub.specs.Scrubbing.{ScrubsPart}
use Rattle.scrub.proofs.Scrubbed.{scrubs_all}
use Rattle.scrub.proofs.scrub.Goals as goal

pub returns-clause-scrubs : goal.returns-clause-scrubs
returns-clause-scrubs g c =
    let honest = g.B.Bank.honest c.args.array.now.bank in
    let old = array_view c.args.array.now in
    let new = array_view c.scrub_part.new.array in
    scrubs_all honest old new (told_by c.scrub_part.result)
    (subst (λ rows. ScrubsPart honest 0 rows old new (told_by c.scrub_part.result)) c.rows-rows.ensures
    c.scrub_part.ensures.scrubs)
