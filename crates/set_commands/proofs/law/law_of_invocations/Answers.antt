use Rattle.set_commands.proofs.DoneCommands.{commands_are_done}
use Rattle.set_commands.proofs.law.law_of_invocations.Goals as goal

pub returns : goal.returns
returns g c = commands_are_done (g.B.Bank.honest c.args.bank.now)
