use Rattle.std.proofs.Common.{sym, ◌∙◌}
use Rattle.degraded.specs.Oracle.{rows_of_sources}
use Rattle.degraded.proofs.Values.{value-direct, value-from_others}
use Rattle.degraded.proofs.oracle.sources.RowSources.value_of.Goals as goal

pub returns-in-Some : goal.returns-in-Some
returns-in-Some c = λ row. sym (value-direct (rows_of_sources c.args.self.now) row c.args.member c.in-Some.sector.now (c.in-Some.ensures row))

pub returns-in-None : goal.returns-in-None
returns-in-None c = λ row. c.xor_others.ensures row ∙ sym (value-from_others (rows_of_sources c.args.self.now) row c.args.member (c.in-None.ensures row))
