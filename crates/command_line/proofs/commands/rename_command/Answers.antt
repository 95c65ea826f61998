use Rattle.std.proofs.lemmas.Result.{IfOk-weaker}
use Rattle.command_line.proofs.Building.{with_one}
use Rattle.command_line.proofs.commands.rename_command.Goals as goal

pub returns : goal.returns
returns c =
    IfOk-weaker c.arg.result _ _
    (λ r h. with_one _ r _ _ _ h c.new_name_argument.ensures.local c.new_name_argument.ensures.rule c.in_ok-volume_command.ensures) c.arg.ensures
