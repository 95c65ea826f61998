use Rattle.std.proofs.Common.{arith, ap}
use Rattle.entry_runs.specs.Runs.{end_of_runs}
use Rattle.entry_runs.proofs.Builds.{fit_end}
use Rattle.entry_runs.proofs.runs.Runs.end.Goals as goal

pub returns-clause-most : goal.returns-clause-most
returns-clause-most c =
    omega (arith, c.end_of_runs.ensures, ap end_of_runs c.as_slice.ensures.value, fit_end c.args.self.now.list.items c.args.self.now.allowed.fit)
