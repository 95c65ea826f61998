use Rattle.std.proofs.lemmas.Result.{IfOk-weaker}
use Rattle.command_line.proofs.Building.{with_one}
use Rattle.command_line.proofs.commands.extend_command.Goals as goal

pub returns : goal.returns
returns c =
    IfOk-weaker c.arg.result _ _
    (λ r h. with_one _ r _ _ _ h c.blocks_argument.ensures.local c.blocks_argument.ensures.rule c.in_ok-volume_command.ensures) c.arg.ensures
