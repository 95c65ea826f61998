use Rattle.std.proofs.Common.{rules}
use Rattle.scrub.proofs.report.ScrubReport.count.Goals as goal

pub returns : goal.returns
returns c = search rules
