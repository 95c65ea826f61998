use Rattle.std.proofs.Common.{◌∙◌}
use Rattle.degraded.specs.RowValue.{direct}
use Rattle.degraded.specs.Oracle.{rows_of_sources}
use Rattle.degraded.proofs.Sums.{xor_some, xor_none}
use Rattle.degraded.proofs.oracle.sources.RowSources.xor_known.Goals as goal

pub returns-in-Some : goal.returns-in-Some
returns-in-Some c = λ row.
    c.xor_into.ensures ∙ xor_some c.args.to.now c.in-Some.sector.now (direct (rows_of_sources c.args.self.now) row c.args.member) (c.in-Some.ensures row)

pub returns-in_default : goal.returns-in_default
returns-in_default c = λ row. xor_none c.args.to.now (direct (rows_of_sources c.args.self.now) row c.args.member) c.told-to (c.in_default.ensures row)
