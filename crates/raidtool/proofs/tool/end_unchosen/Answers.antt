use Rattle.device_files.proofs.ToldLines.{told_line}
use Rattle.raidtool.specs.Texts.{undrawn_line}
use Rattle.raidtool.proofs.tool.end_unchosen.Goals as goal

pub returns-in-Undrawn-clause-told : goal.returns-in-Undrawn-clause-told
returns-in-Undrawn-clause-told g c =
    rw c.in-Undrawn.is (told_line c.write_text.result undrawn_line _ _ c.write_text.ensures.ok c.write_text.ensures.part)
