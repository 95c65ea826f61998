use Rattle.set_commands.proofs.InvocationRuns as invocations
use Rattle.set_commands.proofs.law.headline_of_the_program.Goals as goal

pub returns : goal.returns
returns c = invocations.headline_of_the_program
