use Rattle.std.proofs.Common.{Ok, inl, inr, ap}
use Rattle.report.proofs.LineLemmas.{line_from_whole, line_from_unended}
use Rattle.report.proofs.lines.next_line.Goals as goal

pub returns-in-Whole-clause-line : goal.returns-in-Whole-clause-line
returns-in-Whole-clause-line g c = λ _.
    elim c.in-Whole.is [
      | inl whole ↦ line_from_whole _ _ _ (c.in_ok-read_line.ensures.whole (ap Ok whole))
      | inr unended ↦ line_from_unended _ _ _ (c.in_ok-read_line.ensures.unended (ap Ok unended))
    ]

pub returns-in-Nothing-clause-none : goal.returns-in-Nothing-clause-none
returns-in-Nothing-clause-none g c = λ _. c.in_ok-read_line.ensures.none (ap Ok c.in-Nothing.is)
