use Rattle.std.proofs.Common.{◌≡◌, subst}
use Rattle.std.specs.Prelude.{IfOk}
use Rattle.clap.specs.Words.{app_of}
use Rattle.command_line.specs.Commands.{HasApp}
use Rattle.command_line.proofs.Building.{with_sub}
use Rattle.command_line.proofs.commands.added.Goals as goal

pub returns-clause-ok : goal.returns-clause-ok
returns-clause-ok c = λ app below was has.
    with_sub _ _ _ app below c.in_ok-sum.ensures (subst (HasApp below) c.in_ok-sub.was has)
    (subst (λ r. IfOk r (λ command. app_of command ≡ app)) c.in_ok-command.was was)
