use Rattle.set_commands.proofs.LineAnswers.{line_done, line_last}
use Rattle.set_commands.proofs.script.answer_line.Goals as goal

pub returns-clause-done : goal.returns-clause-done
returns-clause-done g c =
    line_done _ c.args.line.now _ _ _ _ c.serve-outcome.result c.serve-outcome.new.buffer c.ending.result c.ending.ensures.going
    c.serve-outcome.ensures.answered c.in_ok-write_outcome.ensures.ok

pub returns-clause-ended : goal.returns-clause-ended
returns-clause-ended g c =
    line_last _ c.args.line.now _ _ _ _ c.serve-outcome.result c.serve-outcome.new.buffer c.ending.result c.ending.ensures.ended
    c.serve-outcome.ensures.answered c.in_ok-write_outcome.ensures.ok
