use Rattle.std.proofs.Common.{rules}
use Rattle.scrub.proofs.report.ScrubReport.new.Goals as goal

pub returns : goal.returns
returns c = search rules
