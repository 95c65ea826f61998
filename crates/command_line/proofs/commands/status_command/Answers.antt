use Rattle.std.proofs.lemmas.Result.{IfOk-weaker}
use Rattle.command_line.proofs.Building.{with_one}
use Rattle.command_line.proofs.commands.status_command.Goals as goal

pub returns : goal.returns
returns c =
    let json = with_one _ _ _ _ _ c.in_ok-arg.ensures c.json_flag.ensures.local c.json_flag.ensures.rule c.in_ok-set_command.ensures in
    IfOk-weaker c.arg-2.result _ _ (λ r h. with_one _ r _ _ _ h c.check_flag.ensures.local c.check_flag.ensures.rule json) c.arg-2.ensures
